-- Rules 4 and 14 (02, 2.2): the place of rule 14 is p's least prime divisor, and the two refuse exactly what 01's rule 4 refused.
use Rattle.std.specs.Prelude.{Err}
use mathlib.Core.Path.{◌≡◌, refl, sym, ap, ◌∙◌, subst}
use mathlib.Core.Bool.{Bool, true, false, not, ◌||◌}
use mathlib.Core.List.{[], ◌∷◌}
use Prim.Native.Nat.{ℕ}
use native.Mathlib.Omega.{arith}
use lib.Dec.{ltb}
use Rattle.theory.specs.Prime.{is_prime, is_composite, least_divisor, LeastPrimeDivisor}
use Rattle.theory.proofs.Tests.{or_fails_left, or_fails_right}
use Rattle.theory.proofs.Numbers.Prime.{least-prime-divisor, composite-is-not-prime}
use Rattle.refusal.specs.declared.Refusal.{Refusal}
use Rattle.refusal.specs.declared.Refusal.TheVariants.{PrimeOutOfRange, Composite, Precision}
use Rattle.refusal.specs.Number.{number_of, place_of}
use Rattle.refusal.specs.Rules.{passes, tried}
use Rattle.refusal.proofs.Rules.{tried-first, rule_passes}
use Rattle.numbers.specs.Modulus.{rule4, rule14, modulus_of}
use Rattle.numbers.proofs.Rules.{out_of_range, not_precise, in_range_two, modulus-4, modulus-14}
use Rattle.numbers.proofs.Rules.{left-to-5, precision-5, precision-passes}

-- "p = 4, refused 4 in 01's cases, now gets 14 with place 2", whatever n is
pub four_is_composite : (n : ℕ) → modulus_of 4 n ≡ Err (Composite 2)
unfolding is_composite least_divisor modulus_of
four_is_composite n = refl

module _ (p : ℕ) where
  -- "place its least prime divisor": whenever p and n are refused by rule 14
  pub place-of-rule-14 : (n : ℕ) (r : Refusal) → modulus_of p n ≡ Err r → number_of r ≡ 14 → LeastPrimeDivisor (place_of r) p
  place-of-rule-14 n r e q = go (out_of_range p) (is_composite p) (not_precise p n) refl refl refl
    where
      -- another rule's refusal has another number
      other : (s : Refusal) → modulus_of p n ≡ Err s → (number_of s ≡ 14 → ⊥) → LeastPrimeDivisor (place_of r) p
      other s f ne =
          let both : Err s ≡ Err r = sym f ∙ e in
          let same : s ≡ r = cc in
          absurd (ne (ap number_of same ∙ q))

      go : (a b c : Bool) → out_of_range p ≡ a → is_composite p ≡ b → not_precise p n ≡ c → LeastPrimeDivisor (place_of r) p
      go true b c four fourteen five = other PrimeOutOfRange (modulus-4 p n four) (λ z. omega (arith, z))
      go false true c four fourteen five =
          let both : Err (Composite (least_divisor p)) ≡ Err r = sym (modulus-14 p n four fourteen) ∙ e in
          let same : Composite (least_divisor p) ≡ r = cc in
          subst (λ (s : Refusal). LeastPrimeDivisor (place_of s) p) same (least-prime-divisor p (in_range_two p four))
      go false false true four fourteen five = other Precision (left-to-5 p n four fourteen ∙ precision-5 p n five) (λ z. omega (arith, z))
      go false false false four fourteen five =
          let both = sym (left-to-5 p n four fourteen ∙ precision-passes p n five) ∙ e in
          let z : ◌≡◌ {A = ℕ} 0 1 = cc in
          absurd (omega arith)

  -- "4. p is below 2, above 65,535 or not prime.", the rule of 01
  abbrev pub refusedBy01 : Bool
  refusedBy01 = ltb p 2 || ltb 65535 p || not (is_prime p)

  -- what it refused is refused by rule 4 or 14, and nothing else
  pub rules-4-and-14 : (tried (rule4 p ∷ rule14 p ∷ []) ≡ passes → refusedBy01 ≡ false)
      × (refusedBy01 ≡ false → tried (rule4 p ∷ rule14 p ∷ []) ≡ passes)
  unfolding rule4 rule14
  rules-4-and-14 = (forth, back)
    where
      forth : tried (rule4 p ∷ rule14 p ∷ []) ≡ passes → refusedBy01 ≡ false
      forth e =
          let (four, rest) = tried-first (rule4 p) (rule14 p ∷ []) e in
          let range = rule_passes (out_of_range p) PrimeOutOfRange four in
          let fourteen = rule_passes (is_composite p) (Composite (least_divisor p)) (tried-first (rule14 p) [] rest).0 in
          rw (range, sym (composite-is-not-prime p (in_range_two p range))) fourteen

      back : refusedBy01 ≡ false → tried (rule4 p ∷ rule14 p ∷ []) ≡ passes
      back e =
          let range = or_fails_left (out_of_range p) (not (is_prime p)) e in
          let fourteen = composite-is-not-prime p (in_range_two p range) ∙ or_fails_right (out_of_range p) (not (is_prime p)) e in
          rw (range, fourteen)
