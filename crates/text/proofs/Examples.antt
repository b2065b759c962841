-- Texts that are read: 01's example, and columns that are none.
use mathlib.Core.Path.{◌≡◌, refl}
use mathlib.Core.List.{List, [], ◌∷◌, ◌++◌}
use Rattle.std.specs.Prelude.{None, Ok, Err}
use Prim.Native.Nat.{ℕ}
use lib.IntN.{pos, negsuc}
use lib.ListN.{replicate}
use Rattle.refusal.specs.declared.Refusal.TheVariants.{Form}
use Rattle.text.proofs.Rows.{problem}
use Rattle.text.specs.Reading.{scan, signed_of}
use Rattle.text.specs.Form.{row_of, problem_of}

blanks : ℕ → List ℕ
blanks k = replicate k 32

-- "          2          4          3" and the lines of −1, 0 and 1
example : List ℕ
example =
    blanks 10 ++ 50 ∷ (blanks 10 ++ 52 ∷ (blanks 10 ++ 51 ∷ 10 ∷ (
    blanks 18 ++ 45 ∷ 49 ∷ 10 ∷ (blanks 19 ++ 48 ∷ 10 ∷ (blanks 19 ++ 49 ∷ 10 ∷ [])))))

example_is_read : problem_of example ≡ Ok (problem 2 4 3 97 (row_of (negsuc 0 ∷ pos 0 ∷ pos 1 ∷ [])))
unfolding blanks example problem_of
example_is_read = refl

-- a byte past the end, no byte at all, a line end that is missing
example_is_refused : (problem_of (example ++ 32 ∷ []) ≡ Err (Form 97)) × (problem_of [] ≡ Err (Form 0))
    × (problem_of (blanks 10 ++ 50 ∷ (blanks 10 ++ 52 ∷ (blanks 10 ++ 51 ∷ []))) ≡ Err (Form 33))
unfolding blanks example problem_of
example_is_refused = (refl, refl, refl)

-- −0, 01, 1 with a blank after it, +1, a minus alone, blanks alone, a line end, − and a blank before 1
no_numbers : (signed_of (scan (32 ∷ 45 ∷ 48 ∷ [])) ≡ None) × (signed_of (scan (32 ∷ 48 ∷ 49 ∷ [])) ≡ None)
    × (signed_of (scan (32 ∷ 49 ∷ 32 ∷ [])) ≡ None) × (signed_of (scan (32 ∷ 43 ∷ 49 ∷ [])) ≡ None)
    × (signed_of (scan (32 ∷ 32 ∷ 45 ∷ [])) ≡ None) × (signed_of (scan (32 ∷ 32 ∷ 32 ∷ [])) ≡ None)
    × (signed_of (scan (32 ∷ 49 ∷ 10 ∷ [])) ≡ None) × (signed_of (scan (45 ∷ 32 ∷ 49 ∷ [])) ≡ None)
unfolding scan
no_numbers = (refl, refl, refl, refl, refl, refl, refl, refl)
