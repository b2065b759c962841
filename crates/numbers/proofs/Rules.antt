-- The rules on p and n: what an accepted pair has, and how these rules lead a longer list.
use Rattle.std.specs.Prelude.{Ok, Err}
use mathlib.Core.Path.{◌≡◌, refl, ap, ap₂, sym}
use mathlib.Core.Bool.{Bool, true, false, ◌||◌}
use mathlib.Core.List.{List, [], ◌∷◌, ◌++◌}
use Prim.Native.Nat.{ℕ, ◌^◌, ◌≤◌, ◌<◌}
use native.Mathlib.Omega.{arith}
use borrow.Author.Tests.{ltb-false, eqb-false}
use lib.Dec.{eqb, ltb}
use Rattle.theory.specs.Prime.{is_composite, least_divisor}
use Rattle.theory.proofs.Tests.{or_fails_left, or_fails_right}
use Rattle.theory.proofs.Numbers.Prime.{not-composite-prime}
use Rattle.refusal.specs.declared.Refusal.{Refusal}
use Rattle.refusal.specs.declared.Refusal.TheVariants.{PrimeOutOfRange, Composite, Precision}
use Rattle.refusal.specs.Rules.{Verdict, passes, refuses, tried, value_or}
use Rattle.refusal.proofs.Rules.{tried_leads, tried_refuses, tried-first, rule_passes, value_passes, value_refuses}
use Rattle.numbers.specs.Modulus.{rule4, rule14, rule5, modulus_rules, precision_of, modulus_of}
use Rattle.numbers.specs.inner.Usable.{Usable}

-- The tests of the rules

abbrev pub out_of_range : ℕ → Bool
out_of_range p = ltb p 2 || ltb 65535 p

abbrev pub not_precise : ℕ → ℕ → Bool
not_precise p n = eqb n 0 || ltb 4294967295 (p ^ n)

pub in_range_two : (p : ℕ) → out_of_range p ≡ false → 2 ≤ p
in_range_two p e = ltb-false p 2 (or_fails_left (ltb p 2) (ltb 65535 p) e)

-- The answer for each of them

module _ (p n : ℕ) where
  pub modulus-4 : out_of_range p ≡ true → modulus_of p n ≡ Err PrimeOutOfRange
  unfolding modulus_of
  modulus-4 e = rw e

  pub modulus-14 : out_of_range p ≡ false → is_composite p ≡ true → modulus_of p n ≡ Err (Composite (least_divisor p))
  unfolding modulus_of
  modulus-14 e f = rw (e, f)

  -- past rules 4 and 14, rule 5 decides
  pub left-to-5 : out_of_range p ≡ false → is_composite p ≡ false → modulus_of p n ≡ precision_of p n
  unfolding modulus_of precision_of
  left-to-5 e f = rw (e, f)

  pub precision-5 : not_precise p n ≡ true → precision_of p n ≡ Err Precision
  unfolding precision_of
  precision-5 e = rw e

  pub precision-passes : not_precise p n ≡ false → precision_of p n ≡ Ok (p ^ n)
  unfolding precision_of
  precision-passes e = rw e

module _ (p n : ℕ) where
  -- p and n that the rules pass are usable
  pub passes-usable : tried (modulus_rules p n) ≡ passes → (m : ℕ) → m ≡ p ^ n → Usable p n m
  unfolding modulus_rules
  passes-usable e m q =
      let (in_range, after-4) = tried-first (rule4 p) (rule14 p ∷ rule5 p n ∷ []) e in
      let (not-composite, after-14) = tried-first (rule14 p) (rule5 p n ∷ []) after-4 in
      let four = rule_passes (out_of_range p) PrimeOutOfRange in_range in
      let fourteen = rule_passes (is_composite p) (Composite (least_divisor p)) not-composite in
      let five = rule_passes (not_precise p n) Precision (tried-first (rule5 p n) [] after-14).0 in
      record {
        accepted = e;
        prime = not-composite-prime p (in_range_two p four) fourteen;
        small = ltb-false 65535 p (or_fails_right (ltb p 2) (ltb 65535 p) four);
        precise = positive (eqb-false n 0 (or_fails_left (eqb n 0) (ltb 4294967295 (p ^ n)) five));
        power = q;
        within = ltb-false 4294967295 (p ^ n) (or_fails_right (eqb n 0) (ltb 4294967295 (p ^ n)) five);
      }
    where
      positive : (n ≡ 0 → ⊥) → 0 < n
      positive h = omega arith

  pub usable : (m : ℕ) → modulus_of p n ≡ Ok m → Usable p n m
  unfolding modulus_of
  usable m e = let both = value_passes (tried (modulus_rules p n)) (p ^ n) m e in passes-usable both.0 m both.1

  pub modulus-refuses : (r : Refusal) → modulus_of p n ≡ Err r → tried (modulus_rules p n) ≡ refuses r
  unfolding modulus_of
  modulus-refuses r e = value_refuses (tried (modulus_rules p n)) (p ^ n) r e

  -- a refusal is that of any longer list
  pub refused-leads : (r : Refusal) → modulus_of p n ≡ Err r → (rest : List Verdict) → tried (modulus_rules p n ++ rest) ≡ refuses r
  refused-leads r e rest = tried_refuses (modulus_rules p n) rest r (modulus-refuses r e)

-- where p and n pass, the rules after these decide
pub usable_leads : {p n m : ℕ} → Usable p n m → (rest : List Verdict) → tried (modulus_rules p n ++ rest) ≡ tried rest
usable_leads {p} {n} U rest = tried_leads (modulus_rules p n) rest U.accepted

-- and what these leave
pub usable_leaves : {p n m : ℕ} → Usable p n m → (rest : List Verdict)
    → value_or (tried (modulus_rules p n ++ rest)) (p ^ n) ≡ value_or (tried rest) m
usable_leaves U rest = ap₂ value_or (usable_leads U rest) (sym U.power)
