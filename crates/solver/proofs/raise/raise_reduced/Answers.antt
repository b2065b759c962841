-- `solver::raise::raise_reduced` meets its contract.
use Rattle.std.specs.Prelude.{Ok}
use mathlib.Core.Path.{◌≡◌, sym, ap, ◌∙◌}
use mathlib.Core.List.{List, map}
use Prim.Native.Nat.{ℕ, ◌≤◌}
use native.Mathlib.Omega.{arith}
use borrow.Author.Rules.{rules}
use lib.ListN.{length, length-map, take}
use lib.Seq.{length-take-le}
use Rattle.theory.specs.SignedClass.{SignedClass}
use Rattle.classes.specs.Rule7.{classes_of}
use Rattle.solver.specs.declared.entry.Entry.{Entry}
use Rattle.solver.specs.Solve.{lists}
use Rattle.solver.specs.Raise.{listed as listed_as}
use Rattle.solver.specs.inner.Entry.{entry}
use Rattle.solver.specs.inner.Raise.{zeros_among}
use Rattle.solver.proofs.Coefficients.{usable_coefficients}
use Rattle.solver.proofs.RaiseAnswers.{among-refused, among-pass}
use Rattle.solver.proofs.raise.raise_reduced.Goals as goal

-- the first k entries of the table are the codes of L, so L has k classes
number : {k : ℕ} (table : List Entry) (L : List SignedClass) → k ≤ length table → take k table ≡ map entry L → k ≡ length L
number {k} table L long e = sym (length-take-le k table long) ∙ ap length e ∙ length-map L entry

pub returns-then-residues-k : goal.returns-then-residues-k
returns-then-residues-k c =
    let a = c.args in
    let w = a.f.now in
    let given = lists a.residues.now a.levels.now a.marks.now in
    let long : c.classes_among-k.result ≤ length c.classes_among-k.new.entries = search rules in
    let n = number c.classes_among-k.new.entries _ long c.classes_among-k.ensures.1 in
    let r = among-refused w a.p a.n a.given_residues.now a.given_levels.now given n c.if-residues-k.true in record {
      answer = r.0;
      lists = r.1;
    }

pub fill-roots-requires : goal.fill-roots-requires
fill-roots-requires c =
    let a = c.args in
    let k = c.classes_among-k.result in
    let w = a.f.now in
    let long : k ≤ length c.classes_among-k.new.entries = search rules in
    let codes-long = length-take-le k c.classes_among-k.new.entries long in
    let U = c.requires.0 in (
      usable_coefficients U c.requires.1 c.requires.2,
      omega arith,
      omega arith,
      omega arith,
    )

pub returns : goal.returns
returns c =
    let a = c.args in
    let w = a.f.now in
    let S = zeros_among w a.p a.n (classes_of a.given_residues.now a.given_levels.now) in
    let given = lists a.residues.now a.levels.now a.marks.now in
    let long : c.classes_among-k.result ≤ length c.classes_among-k.new.entries = search rules in
    let listed = c.classes_among-k.ensures.1 in
    let n = number c.classes_among-k.new.entries _ long listed in
    let v = among-pass w a.p a.n a.given_residues.now a.given_levels.now given n c.if-residues-k.false in record {
      answer = rw v (λ i. Ok (listed_as (n i) (c.fill-roots.ensures.roots S listed i)));
      lists = rw v (c.fill-roots.ensures.lists S listed);
    }
