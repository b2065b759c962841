-- 01's cases marked (M) ("Polynomials to check against"), as a table, with 02's marks (2.3), "3x modulo 9 has mark 1 and x³ + x² modulo 2
-- has mark 2; 01's other cases keep theirs", and residues (2.7): "01's printed case becomes residues −1, then 1, each of level 3, and 7/2,
-- 18/2 becomes −7/2, 7/2".
use Rattle.std.specs.Prelude.{List, [], ◌∷◌, map, ℕ, ℤ, pos, negsuc}
use Rattle.theory.specs.Polynomial.{roots}
use Rattle.theory.specs.Shortest.{count}
use Rattle.theory.specs.SignedClass.{SignedClass, signed_class, natural}
use Rattle.theory.specs.SignedList.{signed_list}
use Rattle.theory.specs.Mark.{mark}

pub record Problem : Type 0 where
  pub f : List ℤ
  pub p : ℕ
  pub n : ℕ

pub record Outcome : Type 0 where
  pub classes : List SignedClass
  pub marks : List ℕ
  pub roots : ℕ

-- what the definitions give
unfoldable pub outcome : Problem → Outcome
unfolding roots signed_list count mark natural
outcome c =
    let S = roots c.f c.p c.n in
    let L = signed_list S c.p c.n in
    record { classes = L; marks = map (λ e. mark c.f c.p c.n (natural c.p e)) L; roots = count S c.p c.n }

pub record Case : Type 0 where
  pub given : Problem
  pub expected : Outcome

abbrev case : List ℤ → ℕ → ℕ → List SignedClass → List ℕ → ℕ → Case
case f p n L marks k = record { given = record { f = f; p = p; n = n }; expected = record { classes = L; marks = marks; roots = k } }

-- −1
abbrev minus1 : ℤ
minus1 = negsuc 0

-- x² − 1, p = 2, n = 4: the first case, whose map 01 gives too
abbrev pub first : Case
first = case (minus1 ∷ pos 0 ∷ pos 1 ∷ []) 2 4 (signed_class minus1 3 ∷ signed_class (pos 1) 3 ∷ []) (0 ∷ 0 ∷ []) 4

abbrev pub first_map : List ℕ
first_map = 130 ∷ 130 ∷ []

unfoldable pub table : List Case
table =
    first
    -- x² − 1, p = 2, n = 3
    ∷ case (minus1 ∷ pos 0 ∷ pos 1 ∷ []) 2 3 (signed_class (pos 1) 1 ∷ []) (0 ∷ []) 4
    -- x³ + x², p = 2, n = 1
    ∷ case (pos 0 ∷ pos 0 ∷ pos 1 ∷ pos 1 ∷ []) 2 1 (signed_class (pos 0) 0 ∷ []) (2 ∷ []) 2
    -- x² + 3x, p = 3, n = 2
    ∷ case (pos 0 ∷ pos 3 ∷ pos 1 ∷ []) 3 2 (signed_class (pos 0) 1 ∷ []) (0 ∷ []) 3
    -- x² + 3, p = 3, n = 2
    ∷ case (pos 3 ∷ pos 0 ∷ pos 1 ∷ []) 3 2 [] [] 0
    -- 0, p = 5, n = 2
    ∷ case (pos 0 ∷ []) 5 2 (signed_class (pos 0) 0 ∷ []) (0 ∷ []) 25
    -- 25, p = 5, n = 2
    ∷ case (pos 25 ∷ []) 5 2 (signed_class (pos 0) 0 ∷ []) (0 ∷ []) 25
    -- 5, p = 5, n = 2
    ∷ case (pos 5 ∷ []) 5 2 [] [] 0
    -- x² + 1, p = 5, n = 2
    ∷ case (pos 1 ∷ pos 0 ∷ pos 1 ∷ []) 5 2 (signed_class (negsuc 6) 2 ∷ signed_class (pos 7) 2 ∷ []) (1 ∷ 1 ∷ []) 2
    -- 3x, p = 3, n = 2
    ∷ case (pos 0 ∷ pos 3 ∷ []) 3 2 (signed_class (pos 0) 1 ∷ []) (1 ∷ []) 3
    ∷ []

-- the number of live classes of each of these cases (02, 2.8): "For x² − 1 modulo 16 it is 6", the first; it is 1 for 0 and for 25, "if all
-- coefficients reduce to zero"
unfoldable pub live_column : List ℕ
live_column = 6 ∷ 4 ∷ 3 ∷ 2 ∷ 2 ∷ 1 ∷ 1 ∷ 1 ∷ 5 ∷ 2 ∷ []

-- the row N_0 to N_n of each (02, 2.1)
unfoldable pub count_column : List (List ℕ)
count_column =
    (1 ∷ 1 ∷ 2 ∷ 4 ∷ 4 ∷ [])
    ∷ (1 ∷ 1 ∷ 2 ∷ 4 ∷ [])
    ∷ (1 ∷ 2 ∷ [])
    ∷ (1 ∷ 1 ∷ 3 ∷ [])
    ∷ (1 ∷ 1 ∷ 0 ∷ [])
    ∷ (1 ∷ 5 ∷ 25 ∷ [])
    ∷ (1 ∷ 5 ∷ 25 ∷ [])
    ∷ (1 ∷ 5 ∷ 0 ∷ [])
    ∷ (1 ∷ 2 ∷ 2 ∷ [])
    ∷ (1 ∷ 3 ∷ 3 ∷ [])
    ∷ []

-- "Polynomials with equal root sets may differ in it": 1 and x² + 2 modulo 4 have no root
abbrev pub one : Problem
one = record { f = pos 1 ∷ []; p = 2; n = 2 }

abbrev pub square_plus_two : Problem
square_plus_two = record { f = pos 2 ∷ pos 0 ∷ pos 1 ∷ []; p = 2; n = 2 }
