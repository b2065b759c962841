-- The place of a refused p and n is at most 65,535: a divisor of a p in range.
use mathlib.Core.Path.{◌≡◌}
use mathlib.Core.List.{[], ◌∷◌}
use Prim.Native.Nat.{ℕ, ◌≤◌}
use native.Mathlib.Omega.{arith}
use borrow.Author.Tests.{ltb-false}
use lib.Dec.{ltb}
use Rattle.theory.specs.Prime.{is_composite, least_divisor}
use Rattle.theory.proofs.Tests.{or_fails_right}
use Rattle.theory.proofs.Numbers.Prime.{least-divisor-range}
use Rattle.refusal.specs.declared.Refusal.TheVariants.{PrimeOutOfRange, Composite, Precision}
use Rattle.refusal.specs.Rules.{passes, tried}
use Rattle.refusal.proofs.Rules.{tried-first, rule_passes}
use Rattle.refusal.proofs.Places.{PlaceAtMost, rule_place, tried_place, tried_places}
use Rattle.numbers.specs.Modulus.{rule4, rule14, rule5, modulus_rules}
use Rattle.numbers.proofs.Rules.{out_of_range, not_precise, in_range_two}

module _ (p n : ℕ) where
  -- what rule 4 leaves to rule 14
  divisor-small : tried (rule4 p ∷ []) ≡ passes → least_divisor p ≤ 65535
  unfolding rule4
  divisor-small e =
      let in_range = rule_passes (out_of_range p) PrimeOutOfRange (tried-first (rule4 p) [] e).0 in
      omega (
        arith,
        ltb-false 65535 p (or_fails_right (ltb p 2) (ltb 65535 p) in_range),
        (least-divisor-range p (in_range_two p in_range)).1,
      )

  pub modulus-place : PlaceAtMost 65535 (tried (modulus_rules p n))
  unfolding modulus_rules
  modulus-place =
      tried_place 65535 (rule4 p ∷ []) (rule14 p ∷ rule5 p n ∷ []) (rule_place 65535 (out_of_range p) PrimeOutOfRange (omega arith), tt)
      (λ e.
      tried_places 65535 (rule14 p ∷ rule5 p n ∷ []) (
        rule_place 65535 (is_composite p) (Composite (least_divisor p)) (divisor-small e),
        (rule_place 65535 (not_precise p n) Precision (omega arith), tt),
      ))
