-- The test of many points in one call (02, 2.5).
use Rattle.std.specs.Prelude.{Bool, true, false, List, map, ℕ, ℤ, Result, Ok, Err}
use Rattle.refusal.specs.declared.Refusal.{Refusal}
use Rattle.refusal.specs.Number.{number_of}
use Rattle.refusal.specs.Rules.{Verdict, tried, filled, value_or}
use Rattle.solver.specs.declared.Query.{Query}
use Rattle.solver.specs.Solve.{polynomial_rules, tested_of}

-- "root, no root, or point too large": 1, 0, and the number of the rule that refused, which is 8
abbrev pub answer_number : Result Bool Refusal → ℕ
answer_number (Ok true) = 1
answer_number (Ok false) = 0
answer_number (Err r) = number_of r

-- "Each answer is what the single test gives for that point, rule 8 included", and "The points themselves are left untouched"
unfoldable pub answered_of : List ℤ → ℕ → ℕ → Query → Query
answered_of f p n q = record { point = q.point; answer = answer_number (tested_of f p n q.point) }

-- "Rules 2 to 5 still refuse the whole call"
unfoldable pub points_verdict : List ℤ → ℕ → ℕ → Verdict
points_verdict f p n = tried (polynomial_rules f p n)

-- what a call answers
unfoldable pub tested_all_of : List ℤ → ℕ → ℕ → Result Unit Refusal
tested_all_of f p n = value_or (points_verdict f p n) tt

-- the lent row after a call: "a bad point disturbs no other record"
unfoldable pub queries_after : List ℤ → ℕ → ℕ → List Query → List Query
queries_after f p n queries = filled (points_verdict f p n) (map (answered_of f p n) queries) queries
