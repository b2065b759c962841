-- `solver::solution::solve_reduced` meets its contract.
use Rattle.std.specs.Prelude.{Ok}
use mathlib.Core.Path.{◌≡◌, sym, ap, ◌∙◌}
use mathlib.Core.List.{List, map}
use Prim.Native.Nat.{ℕ, min, ◌≤◌}
use native.Mathlib.Omega.{arith}
use lib.ListN.{length, length-map, take}
use lib.Seq.{length-take-le}
use Rattle.theory.specs.SignedClass.{SignedClass}
use Rattle.theory.specs.Polynomial.{zeros}
use Rattle.solver.specs.declared.entry.Entry.{Entry}
use Rattle.solver.specs.Solve.{Lists, lists, found as found_as}
use Rattle.solver.specs.inner.Entry.{entry}
use Rattle.solver.specs.inner.Reduced.{zero_classes}
use Rattle.solver.proofs.Coefficients.{usable_coefficients}
use Rattle.solver.proofs.Verdicts.{lengths-refused, slots-refused, slots-pass}
use Rattle.solver.proofs.solution.solve_reduced.Goals.{then-slots-levels-via-then-slots-levels, then-slots-levels-via-else-slots-levels+then-slots-marks}
use Rattle.solver.proofs.solution.solve_reduced.Goals as goal

-- Once the codes are found, the first k of them
module _ (k : ℕ) (out : List Entry) (h : k ≤ length out) (L : List SignedClass) (e : take k out ≡ map entry L) where
  codes-long : length (take k out) ≡ k
  codes-long = length-take-le k out h

  number : k ≡ length L
  number = sym codes-long ∙ ap length e ∙ length-map L entry

pub returns-then-slots-levels : goal.returns-then-slots-levels
returns-then-slots-levels c =
    let given : Lists = lists c.args.residues.now c.args.levels.now c.args.marks.now in
    let r = lengths-refused c.args.f.now c.args.p c.args.n given
    (c.min-shortest.ensures ∙ ap (min (length given.residues)) c.min.ensures)
    (λ d e. elim c.then-slots-levels.branch [
      | then-slots-levels-via-then-slots-levels w ↦ w.if-slots-levels.true d
      | then-slots-levels-via-else-slots-levels+then-slots-marks w ↦ w.if-slots-marks.true e
    ]) in
    record { answer = r.0; lists = r.1 }

pub returns-then-slots-k : goal.returns-then-slots-k
returns-then-slots-k c =
    let w = c.args.f.now in
    let given : Lists = lists c.args.residues.now c.args.levels.now c.args.marks.now in
    let found = c.zero_classes-settled in
    let h : found.result.k ≤ length found.new.entries = omega (arith, found.ensures.classes.0, found.auto.entries) in
    let r = slots-refused w c.args.p c.args.n given c.if-slots-levels.false c.if-slots-marks.false
    (number found.result.k found.new.entries h (zero_classes w c.args.p c.args.n) found.ensures.classes.1) c.if-slots-k.true in
    record { answer = r.0; lists = r.1 }

pub fill-roots-requires : goal.fill-roots-requires
fill-roots-requires c =
    let w = c.args.f.now in
    let U = c.requires.0 in
    let found = c.zero_classes-settled in
    let k : length (take found.result.k found.new.entries) ≡ found.result.k =
    length-take-le found.result.k found.new.entries (omega (arith, found.ensures.classes.0, found.auto.entries)) in
    let room : length (take found.result.k found.new.entries) ≤ length c.args.residues.now = omega (arith, c.if-slots-k.false) in (
      usable_coefficients U c.requires.1 c.requires.2,
      room,
      omega (arith, c.if-slots-levels.false),
      omega (arith, c.if-slots-marks.false),
    )

pub returns : goal.returns
returns c =
    let w = c.args.f.now in
    let p = c.args.p in
    let n = c.args.n in
    let given : Lists = lists c.args.residues.now c.args.levels.now c.args.marks.now in
    let S = zeros w p n in
    let found = c.zero_classes-settled in
    let h : found.result.k ≤ length found.new.entries = omega (arith, found.ensures.classes.0, found.auto.entries) in
    let listed = found.ensures.classes.1 in
    let k-is = number found.result.k found.new.entries h (zero_classes w p n) listed in
    let v = slots-pass w p n given c.if-slots-levels.false c.if-slots-marks.false k-is c.if-slots-k.false in
    record {
      answer = rw v (λ i. Ok (found_as (k-is i) (c.fill-roots.ensures.roots S listed i) (found.ensures.live i)));
      lists = rw v (c.fill-roots.ensures.lists S listed);
    }
