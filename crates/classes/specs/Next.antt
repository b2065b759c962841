-- Next (01, "Lent lists, map and text"): the least member of a list of classes at or after a point.
use Rattle.std.specs.Prelude.{List, [], ◌∷◌, ◌++◌, ℕ, ◌^◌, ℤ, Result, Ok, Err, Option, Some, None}
use Rattle.refusal.specs.declared.Refusal.{Refusal}
use Rattle.theory.specs.ClassList.{members, from}
use Rattle.theory.specs.SignedClass.{natural, naturals}
use Rattle.theory.specs.Stepping.{Answer, root, none, refused}
use Rattle.refusal.specs.Number.{number_of, place_of}
use Rattle.refusal.specs.Rules.{Verdict, value_or, tried, rule8}
use Rattle.classes.specs.Rule7.{classes_of}
use Rattle.classes.specs.Checked.{given_rules}

-- the rules on p, n and the list, then 8
unfoldable pub next_verdict : ℕ → ℕ → List ℤ → List ℕ → ℕ → Verdict
unfolding given_rules
next_verdict p n residues levels point = tried (given_rules p n residues levels ++ rule8 point (p ^ n) ∷ [])

-- the first of these numbers, if there is one
abbrev pub first : List ℕ → Option ℕ
first [] = None
first (r ∷ rs) = Some r

-- "Next returns the least member at or after the point, or none."; "points and answers of next remain in 0 to pⁿ − 1" (02, 2.7)
unfoldable pub next_of : ℕ → ℕ → List ℤ → List ℕ → ℕ → Result (Option ℕ) Refusal
unfolding next_verdict classes_of natural members from
next_of p n residues levels point =
    value_or (next_verdict p n residues levels point) (first (from (members p (naturals p (classes_of residues levels))) p n point))

-- 01's number and values for each case of the answer
abbrev pub answer_of : Result (Option ℕ) Refusal → Answer
answer_of (Ok (Some r)) = root r
answer_of (Ok None) = none
answer_of (Err r) = refused (number_of r) (place_of r)
