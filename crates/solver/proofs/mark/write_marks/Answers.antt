-- `solver::mark::write_marks` meets its contract.
use mathlib.Core.Path.{◌≡◌, sym, ap, ◌∙◌}
use mathlib.Core.List.{List, ◌++◌, map}
use Prim.Native.Nat.{ℕ, ◌-◌, ◌^◌, ◌≤◌, ◌<◌}
use native.Mathlib.Omega.{arith}
use lib.ListN.{length, get_or, take, drop, set, replicate}
use lib.Seq.{length-take-le, take-length}
use Rattle.theory.specs.Polynomial.{derivative, divided}
use Rattle.theory.specs.Degree.{primitive, least_valuation}
use Rattle.theory.proofs.Lists.Fill.{part_back, written_next}
use Rattle.theory.proofs.Lists.Map.{map-map}
use Rattle.theory.proofs.Numbers.Power.{pow_pos}
use Rattle.theory.proofs.Polynomials.Primitive.{length-primitive}
use Rattle.solver.specs.declared.entry.Entry.{Entry}
use Rattle.solver.specs.inner.Entry.{class_of}
use Rattle.solver.specs.inner.Table.{Residues}
use Rattle.solver.specs.inner.Marks.{mark_from}
use Rattle.solver.proofs.Marks.{mark-residues}
use Rattle.solver.proofs.Entries.{none}
use Rattle.solver.proofs.mark.write_marks.Invariants.{mark_of}
use Rattle.solver.proofs.mark.write_marks.Goals as goal

-- the residues r of the derivative stand in the table
module _ (p q : ℕ) (f r : List ℕ) (few : length f ≤ 65) (l : length r ≡ length (take (length f - 1) (replicate {A = ℕ} 65 0))) where
  long : length r ≡ length f - 1
  long = l ∙ length-take-le (length f - 1) (replicate {A = ℕ} 65 0) (omega (arith, few))

  back : take (length f - 1) (r ++ drop (length f - 1) (replicate 65 0)) ≡ r
  back = part_back (length f - 1) (replicate 65 0) r (omega (arith, few)) l

  residues : q ≡ p ^ least_valuation p f → Residues p r (derivative (divided q f)) → Residues p r (derivative (primitive p f))
  unfolding primitive
  residues e w = rw (← e) w

  mark-at : Residues p r (derivative (primitive p f)) → (x : Entry)
      → mark_from p (take (length f - 1) (r ++ drop (length f - 1) (replicate 65 0))) (class_of x)
      ≡ mark_from p (derivative (primitive p f)) (class_of x)
  mark-at w x =
      rw back (mark-residues p (primitive p f) r (long ∙ ap (λ (k : ℕ). k - 1) (sym (length-primitive p f))) w (class_of x))

pub derivative-requires : goal.derivative-requires
derivative-requires c =
    let positive : 0 < c.args.p = omega (arith, c.requires.2) in
    (omega arith, length-take-le _ _ (omega arith), rw c.common_power-q.ensures (pow_pos _ positive _), positive, c.requires.3)

pub loop-i-preserved : goal.loop-i-preserved
loop-i-preserved c =
    let a = c.args in
    let i = c.loop-i.i in
    let l = c.derivative.auto.d in
    let r = c.derivative.new.d in
    let w = residues a.p c.common_power-q.result a.f.now r c.requires.1 l c.common_power-q.ensures c.derivative.ensures in
    let x = get_or a.entries.now i none in
    ap (λ (m : List ℕ). set m i c.mark.result) c.loop-i.invariant
    ∙ written_next (mark_of a.p a.f.now) a.entries.now i none (omega arith) a.marks.now 0 c.mark.result (omega arith)
    (c.mark.ensures ∙ mark-at a.p c.common_power-q.result a.f.now r c.requires.1 l w x)

pub returns : goal.returns
returns c =
    let a = c.args in
    let entries = a.entries.now in
    let all : c.loop-i.i ≡ length entries = omega arith in
    c.loop-i.invariant
    ∙ ap (λ (k : ℕ). map (mark_of a.p a.f.now) (take k entries) ++ drop k a.marks.now) all
    ∙ ap (λ (l : List ℕ). l ++ drop (length entries) a.marks.now)
    (ap (map (mark_of a.p a.f.now)) (take-length entries) ∙ sym (map-map (mark_from a.p (derivative (primitive a.p a.f.now))) class_of entries))
