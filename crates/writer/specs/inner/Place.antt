-- Bytes of the text from a place on.
use Rattle.std.specs.Prelude.{true, false, List, [], ◌∷◌, ◌++◌, ℕ, zero, suc, ◌+◌, ◌/◌, ◌%◌, eqb, length, take, drop, replicate}
use Rattle.columns.specs.Column.{blank, digit_byte}

-- the bytes of e over those of l from the place `at` on; the others keep their content
unfoldable pub laid : ℕ → List ℕ → List ℕ → List ℕ
laid at e l = take at l ++ (e ++ drop (at + length e) l)

-- the w bytes left of a digit, where y is the number without that digit: the digits of y, the sign s before them, and blanks
unfoldable pub left_of : ℕ → ℕ → ℕ → List ℕ
left_of s zero y = []
left_of s (suc w) y =
    elim (eqb y 0) [ true ↦ replicate w blank ++ s ∷ [] | false ↦ left_of s w (y / 10) ++ digit_byte (y % 10) ∷ [] ]

-- the last of them
unfoldable pub left_byte : ℕ → ℕ → ℕ
left_byte s y = elim (eqb y 0) [ true ↦ s | false ↦ digit_byte (y % 10) ]

-- the w bytes of a number x with the sign s before its digits
unfoldable pub number_of : ℕ → ℕ → ℕ → List ℕ
unfolding left_of
number_of s zero x = []
number_of s (suc w) x = left_of s w (x / 10) ++ digit_byte (x % 10) ∷ []
