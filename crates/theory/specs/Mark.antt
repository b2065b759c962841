-- The mark of a class, 01's term, as 02 (2.3) has it.
use Rattle.std.specs.Prelude.{Bool, true, false, not, List, ℕ, ℤ}
use Rattle.theory.specs.Polynomial.{reduced, vanishes, derivative}
use Rattle.theory.specs.Degree.{all_zero, primitive}
use Rattle.theory.specs.Class.{Class}
use Rattle.theory.specs.Shortest.{is_whole}

-- "1 if … none …, 0 if … all, 2 if … some"
unfoldable pub mark_by : (none all : Bool) → ℕ
mark_by none all = elim none [ true ↦ 1 | false ↦ elim all [ true ↦ 0 | false ↦ 2 ] ]

-- by the members of a class that are in a set S: `is_whole` says that all are, and none is where all are outside S
unfoldable pub mark_over : (ℕ → Bool) → ℕ → ℕ → Class → ℕ
unfolding mark_by is_whole
mark_over S p n c = mark_by (is_whole (λ r. not (S r)) p n c) (is_whole S p n c)

-- of coefficients that are reduced: "Where some reduced coefficient is not zero, divide by p^s of 01 to get g. A class is now marked 1 if p
-- divides g' at none of its members, 0 if at all, 2 if at some. If all coefficients reduce to zero the mark is 0."
unfoldable pub mark_of : List ℕ → ℕ → ℕ → Class → ℕ
unfolding all_zero primitive derivative vanishes mark_over
mark_of w p n c = elim (all_zero w) [ true ↦ 0 | false ↦ mark_over (vanishes p (derivative (primitive p w))) p n c ]

-- "Each class has a mark"
unfoldable pub mark : List ℤ → ℕ → ℕ → Class → ℕ
unfolding reduced mark_of
mark f p n c = mark_of (reduced f p n) p n c
