-- The lent row that the reader's coefficients go into (01, "Lent lists, map and text": "a row of 65 coefficients, zero after the c read").
use Rattle.std.specs.Prelude.{List, ◌++◌, ℕ, ℤ, length, drop, Result, Ok, Err}
use Rattle.refusal.specs.declared.Refusal.{Refusal}
use Rattle.refusal.specs.Rules.{value_or, rule11}
use Rattle.text.specs.declared.Problem.{Problem}

-- rule 11 for the row: "fewer than k slots; the place is k", with k = 65, tried after the rules of the text
abbrev pub row_checked : Result Problem Refusal → ℕ → Result Problem Refusal
row_checked (Ok problem) slots = value_or (rule11 slots 65) problem
row_checked (Err r) slots = Err r

-- the lent row after a call: the problem's row goes into its first slots, and a refusal "alters no lent memory"
abbrev pub row_after : Result Problem Refusal → List ℤ → List ℤ
row_after (Ok problem) old = problem.coefficients ++ drop (length problem.coefficients) old
row_after (Err r) old = old
