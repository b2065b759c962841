-- The rules on p and n (01, "When the solver declines"; 02, 2.2).
use Rattle.std.specs.Prelude.{◌||◌, List, [], ◌∷◌, ℕ, ◌^◌, eqb, ltb, Result}
use Rattle.refusal.specs.declared.Refusal.{Refusal}
use Rattle.theory.specs.Prime.{is_composite, least_divisor}
use Rattle.refusal.specs.declared.Refusal.TheVariants.{PrimeOutOfRange, Composite, Precision}
use Rattle.refusal.specs.Rules.{Verdict, rule, tried, value_or}

-- "Rule 4 keeps only p below 2 or above 65,535."
unfoldable pub rule4 : ℕ → Verdict
rule4 p = rule (ltb p 2 || ltb 65535 p) PrimeOutOfRange

-- "14, p in range but composite, place its least prime divisor, directly after 4": out of range rule 4 comes first
unfoldable pub rule14 : ℕ → Verdict
rule14 p = rule (is_composite p) (Composite (least_divisor p))

-- "5. n is 0 or pⁿ exceeds 4,294,967,295."
unfoldable pub rule5 : ℕ → ℕ → Verdict
rule5 p n = rule (eqb n 0 || ltb 4294967295 (p ^ n)) Precision

-- these rules in their order, as every operation on p and n tries them
unfoldable pub modulus_rules : ℕ → ℕ → List Verdict
unfolding rule4 rule14 rule5
modulus_rules p n = rule4 p ∷ rule14 p ∷ rule5 p n ∷ []

-- by rule 5 alone
unfoldable pub precision_of : ℕ → ℕ → Result ℕ Refusal
unfolding rule5
precision_of p n = value_or (tried (rule5 p n ∷ [])) (p ^ n)

-- by all three
unfoldable pub modulus_of : ℕ → ℕ → Result ℕ Refusal
unfolding modulus_rules
modulus_of p n = value_or (tried (modulus_rules p n)) (p ^ n)
