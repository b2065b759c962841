-- `solver::mark::mark_of_digits` meets its contract.
use mathlib.Core.Path.{◌≡◌, refl, sym, ◌∙◌, subst}
use Prim.Native.Nat.{ℕ, zero, suc, ◌-◌, ◌<◌}
use native.Mathlib.Omega.{arith}
use borrow.Author.Rules.{rules}
use borrow.Author.Tests.{tests}
use lib.ListN.{length, get_or}
use Rattle.std.specs.List.{range_with_len, AllWithin}
use Rattle.std.proofs.iter.runs.Sources.{ranges}
use Rattle.std.proofs.lemmas.List.FromFn.{length-range_with_len, get_or-range_with_len}
use Rattle.std.proofs.lemmas.Iterator.{YieldsList-from_range, cases_from_any}
use Rattle.solver.specs.inner.Marks.{mark_at}
use Rattle.solver.proofs.Marks.{digits-zero, digits_same, digits-differ}
use Rattle.solver.proofs.mark.mark_of_digits.Goals as goal

pub returns-then-all_zero : goal.returns-then-all_zero
returns-then-all_zero c =
    digits-zero c.args.p c.args.d.now c.requires.0 (sym c.all_zero.ensures ∙ c.if-all_zero.true)

pub returns-then-any : goal.returns-then-any
returns-then-any c =
    let a = c.args in
    let (k, h, e) : (k : ℕ) × (k < a.p) × (mark_at a.p a.d.now k ≡ mark_at a.p a.d.now 0 → ⊥) = search (rules, ranges) in
    digits-differ a.p a.d.now c.requires.0 k h e

-- from the digits that the loop tries and digit 0, all
each : (P : ℕ → Type 0) (p : ℕ) → P 0 → AllWithin P (range_with_len 1 (p - 1)) 0 (length (range_with_len 1 (p - 1))) → (k : ℕ) → k < p → P k
each P p z h zero l = z
each P p z h (suc k) l =
    let n = length-range_with_len 1 (p - 1) in
    let e : get_or (range_with_len 1 (p - 1)) k 0 ≡ suc k = get_or-range_with_len 1 (p - 1) k 0 (omega arith) ∙ (omega arith) in
    subst P e (h k 0 (omega arith) (omega arith))

pub returns : goal.returns
returns c =
    let a = c.args in
    let Same : ℕ → Type 0 = λ k. mark_at a.p a.d.now k ≡ c.mark_at-first.result in
    let cases = cases_from_any _ _ _ (λ k. Same k → ⊥) Same c.any.ensures.ran (YieldsList-from_range 1 a.p (a.p - 1) refl refl) (λ x q k. search (rules, tests)) (λ x q k. search (rules, tests)) in
    let same = each Same a.p (sym c.mark_at-first.ensures) (rw c.if-any.false at cases) in
    c.mark_at-first.ensures ∙ digits_same a.p a.d.now c.requires.0 (λ k h. same k h ∙ c.mark_at-first.ensures)
