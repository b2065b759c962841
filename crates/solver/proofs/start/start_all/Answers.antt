-- `solver::start::start_all` meets its contract.
use mathlib.Core.Path.{◌≡◌, sym, ap₂, ◌∙◌}
use mathlib.Core.Bool.{Bool}
use mathlib.Core.List.{List, [], ◌∷◌, ◌++◌}
use Prim.Native.Nat.{ℕ, ◌+◌}
use native.Mathlib.Omega.{arith}
use borrow.Author.Rules.{rules}
use lib.IntN.{ℤ, pos}
use lib.ListN.{length}
use lib.Seq.{take_all}
use mir.Syntax.{w32}
use mir.Val.{SFits}
use mir.ValLaws.{to_z-of_z}
use Rattle.std.proofs.lemmas.List.{length-append}
use Rattle.std.proofs.lemmas.Slice.Zip.{zip_turn, zip_end}
use Rattle.theory.specs.Class.{Class}
use Rattle.theory.specs.Polynomial.{zeros}
use Rattle.theory.specs.SignedClass.{natural, naturals, signed_class}
use Rattle.classes.specs.Rule7.{classes_of}
use Rattle.classes.proofs.Entries.{lent_length, lent-slot}
use Rattle.classes.proofs.Faults.{faultless_entry}
use Rattle.solver.specs.declared.tree.PrimePower.{PrimePower}
use Rattle.solver.proofs.Starting.{started_none, started-next, started-room}
use Rattle.solver.proofs.start.start_all.Goals as goal

-- the zeros of f modulo M
abbrev S : List ℕ → PrimePower → ℕ → Bool
S f M = zeros f M.p M.exponent

-- the given classes
abbrev G : PrimePower → List ℤ → List ℕ → List Class
G M residues levels = naturals M.p (classes_of residues levels)

pub loop-residue-init : goal.loop-residue-init
loop-residue-init c =
    let a = c.args in
    let M = a.over in
    ((tt, tt), tt, started_none (S a.f.now M) M.p M.exponent (G M a.residues.now a.levels.now) a.out.now)

pub start-k-requires : goal.start-k-requires
start-k-requires c =
    let a = c.args in
    let M = a.over in
    let pre = c.requires in
    let l = c.loop-residue in
    let i = length l.yielded in
    let (h, h', er, el) = zip_turn a.residues.now a.levels.now l.yielded c.into_iter-residue-iterator.result l.residue-iterator c.next.new.self
    c.next.result (cc) (cc) l.yielded_by (c.in-Some.residue, c.in-Some.level) c.in-Some.is c.next.ensures.steps in
    let word : SFits w32 c.in-Some.residue.now = search rules in (
      pre.0,
      pre.1,
      pre.2,
      rw (to_z-of_z w32 c.in-Some.residue.now word, er (pos 0), el 0)
          (faultless_entry M.p M.exponent a.residues.now a.levels.now pre.3 pre.4 i h),
      started-room (S a.f.now M) M.p M.exponent (G M a.residues.now a.levels.now) i 64 l.invariant.2 pre.5 l.auto.out,
    )

pub loop-residue-preserved : goal.loop-residue-preserved
loop-residue-preserved c =
    let a = c.args in
    let M = a.over in
    let l = c.loop-residue in
    let (h, h', er, el) = zip_turn a.residues.now a.levels.now l.yielded c.into_iter-residue-iterator.result l.residue-iterator c.next.new.self
    c.next.result (cc) (cc) l.yielded_by (c.in-Some.residue, c.in-Some.level) c.in-Some.is c.next.ensures.steps in
    let i = length l.yielded in
    let g = G M a.residues.now a.levels.now in
    let at = lent-slot M.p a.residues.now a.levels.now c.requires.3 i h
    ∙ ap₂ (λ (r : ℤ) (t : ℕ). natural M.p (signed_class r t)) (sym (er (pos 0))) (sym (el 0)) in
    let word : SFits w32 c.in-Some.residue.now = search rules in
    let new = rw (to_z-of_z w32 c.in-Some.residue.now word) at c.start-k.ensures in
    let next : length (l.yielded ++ (c.in-Some.residue, c.in-Some.level) ∷ []) ≡ i + 1 = length-append l.yielded _ in
    let long = lent_length M.p a.residues.now a.levels.now c.requires.3 in
    ((tt, tt), tt, rw next (started-next (S a.f.now M) M.p M.exponent g i (omega (arith, long)) at l.invariant.2 new))

pub returns : goal.returns
returns c =
    let a = c.args in
    let l = c.loop-residue in
    let g = G a.over a.residues.now a.levels.now in
    let n = zip_end a.residues.now a.levels.now l.yielded c.into_iter-residue-iterator.result l.residue-iterator c.next.new.self
    c.next.result (cc) (cc) l.yielded_by c.in-None.is c.next.ensures.steps in
    let long = lent_length a.over.p a.residues.now a.levels.now c.requires.3 in
    rw (take_all (length l.yielded) g (omega (arith, n, c.requires.3, long))) at l.invariant.2
