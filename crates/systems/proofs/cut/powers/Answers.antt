-- `systems::cut::powers` meets its contract. The invariant: the first i entries are powers of p, unless the power is 2^32 or more.
use Rattle.std.proofs.Common.{◌≡◌, List, ℕ, ◌+◌, ◌-◌, ◌*◌, ◌^◌, ◌≤◌, ◌<◌, min, get_or, set, refl, sym, ap, ◌∙◌, le_trans, arith}
use Rattle.std.proofs.Math.ListN.{length-set}
use native.Mathlib.Nat.{pow-zero, pow-le-pow_right}
use Rattle.theory.proofs.Lists.Fill.{stored}
use Rattle.theory.proofs.Numbers.Power.{pow_next, exponent_lt}
use Rattle.systems.proofs.cut.powers.Invariants.{PowersBelow}
use Rattle.systems.proofs.cut.powers.Goals as goal

-- one entry more
next_power : (p : ℕ) (table : List ℕ) (i v : ℕ) → 1 ≤ i → i < 32 → v ≡ min (get_or table (i - 1) 0 * p) (2 ^ 64 - 1)
    → PowersBelow p table i → PowersBelow p (set table i v) (i + 1)
next_power p table i v from below v-is P =
    record {
      long = length-set table i v ∙ P.long;
      at = λ two k h fits. stored table i k v 0 (p ^ k) (omega (arith, P.long)) (λ q. rw q (power two (rw q at fits)))
          (λ q. P.at two k (omega arith) fits);
    }
  where
    power : 2 ≤ p → p ^ i ≤ 4294967295 → v ≡ p ^ i
    power two f =
        let last : p ^ (i - 1) ≤ p ^ i = pow-le-pow_right (omega arith) (omega arith) in
        let one : i - 1 + 1 ≡ i = omega arith in
        let next : get_or table (i - 1) 0 * p ≡ p ^ i =
        pow_next p (i - 1) (P.at two (i - 1) (omega arith) (omega arith)) ∙ ap (λ (x : ℕ). p ^ x) one in
        omega (arith, v-is, next)

pub loop-i-init : goal.loop-i-init
loop-i-init c =
    record { long = refl; at = λ two k h fits. let z : k ≡ 0 = omega arith in rw z (sym (pow-zero c.args.p)) }

pub loop-i-preserved : goal.loop-i-preserved
loop-i-preserved c =
    let l = c.loop-i in
    next_power c.args.p l.table l.i c.saturating_mul.result l.auto.i c.loop-i-test.true c.saturating_mul.ensures l.invariant

pub returns : goal.returns
returns c n two fits =
    let small = exponent_lt c.args.p n 32 two (omega (arith, fits)) in
    record { small = small; at = λ t h. c.loop-i.invariant.at two t (omega arith) (lower t h) }
  where
    lower : (t : ℕ) → t ≤ n → c.args.p ^ t ≤ 4294967295
    lower t h = le_trans (pow-le-pow_right (le_trans (omega arith) two) h) fits
