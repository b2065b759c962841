-- The row of counts at every precision (02, 2.1).
use Rattle.std.specs.Prelude.{List, [], ◌∷◌, ◌++◌, ℕ, suc, ℤ, length, Result}
use Rattle.refusal.specs.declared.Refusal.{Refusal}
use Rattle.theory.specs.Counts.{count_row}
use Rattle.refusal.specs.Rules.{Verdict, tried, filled, rule11, value_or}
use Rattle.solver.specs.Solve.{polynomial_rules}

-- the rules on a polynomial, p and n, then rule 11 for the n + 1 numbers of the row
unfoldable pub counts_verdict : List ℤ → ℕ → ℕ → (slots : ℕ) → Verdict
counts_verdict f p n slots = tried (polynomial_rules f p n ++ rule11 slots (suc n) ∷ [])

-- what a call answers
unfoldable pub tabulated_of : List ℤ → ℕ → ℕ → (slots : ℕ) → Result Unit Refusal
tabulated_of f p n slots = value_or (counts_verdict f p n slots) tt

-- and what the lent row holds after it: "the whole row N_0 to N_n" in its first slots
unfoldable pub counts_after : List ℤ → ℕ → ℕ → List ℕ → List ℕ
counts_after f p n given = filled (counts_verdict f p n (length given)) (count_row f p n) given
