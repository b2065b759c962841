-- The test of a residue by reduced coefficients.
use Rattle.std.specs.Prelude.{Bool, List, [], ◌∷◌, ℕ, ◌%◌, eqb, Result}
use Rattle.refusal.specs.declared.Refusal.{Refusal}
use Rattle.theory.specs.Polynomial.{value}
use Rattle.refusal.specs.Rules.{tried, rule8, value_or}
use Rattle.solver.specs.declared.Query.{Query}
use Rattle.solver.specs.Points.{answer_number}

-- rule 8, then the value of g modulo m
unfoldable pub tested_reduced : List ℕ → ℕ → ℕ → Result Bool Refusal
tested_reduced g m point = value_or (tried (rule8 point m ∷ [])) (eqb (value g point % m) 0)

-- the record with its answer
abbrev pub answered_by : List ℕ → ℕ → Query → Query
answered_by g m q = record { point = q.point; answer = answer_number (tested_reduced g m q.point) }
