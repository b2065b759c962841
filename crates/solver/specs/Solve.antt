-- The solver and the test of a residue (01, "Lent lists, map and text" and "When the solver declines").
use Rattle.std.specs.Prelude.{Bool, List, [], ◌∷◌, ◌++◌, map, ℕ, ◌^◌, ℤ, length, Result}
use Rattle.solver.specs.declared.Found.{Found}
use Rattle.refusal.specs.declared.Refusal.{Refusal}
use Rattle.theory.specs.Polynomial.{roots}
use Rattle.theory.specs.SignedClass.{SignedClass, natural, residues_of, levels_of}
use Rattle.theory.specs.SignedList.{signed_list}
use Rattle.theory.specs.Shortest.{count}
use Rattle.theory.specs.Mark.{mark}
use Rattle.theory.specs.Live.{live}
use Rattle.refusal.specs.Rules.{Verdict, tried, filled, rule2, rule3, rule6_three, rule8, rule11, value_or}
use Rattle.numbers.specs.Modulus.{modulus_rules}

-- "The solver fills three lists: residues (32 bits), levels and marks (8 bits each)"; the residues are signed (02, 2.7)
pub record Lists : Type 0 where
  pub residues : List ℤ
  pub levels : List ℕ
  pub marks : List ℕ

abbrev pub lists : List ℤ → List ℕ → List ℕ → Lists
lists residues levels marks = record { residues = residues; levels = levels; marks = marks }

-- "It uses the first k slots, k being the number of classes; later slots keep their content": by the classes of L and their marks
abbrev pub lists_filled : Verdict → List SignedClass → List ℕ → Lists → Lists
lists_filled v L marks given =
    lists (filled v (residues_of L) given.residues) (filled v (levels_of L) given.levels) (filled v marks given.marks)

-- rules 6 and 11 on the lent lists, for k classes
abbrev pub list_rules : Lists → ℕ → List Verdict
list_rules given k =
    rule6_three (length given.residues) (length given.levels) (length given.marks)
    ∷ rule11 (length given.residues) k
    ∷ []

-- the rules on a polynomial, p and n: 2 and 3, then those on p and n
abbrev pub polynomial_rules : List ℤ → ℕ → ℕ → List Verdict
polynomial_rules f p n = rule2 (length f) ∷ rule3 (length f) ∷ modulus_rules p n

-- the list of f
unfoldable pub solution : List ℤ → ℕ → ℕ → List SignedClass
solution f p n = signed_list (roots f p n) p n

-- and its marks
abbrev pub marks_of : List ℤ → ℕ → ℕ → List ℕ
marks_of f p n = map (λ c. mark f p n (natural p c)) (solution f p n)

-- the solver's rules
unfoldable pub solver_verdict : List ℤ → ℕ → ℕ → Lists → Verdict
solver_verdict f p n given = tried (polynomial_rules f p n ++ list_rules given (length (solution f p n)))

-- "It returns k and the root count", and "The solver shall report the number of live classes" (02, 2.8)
abbrev pub found : (classes roots live : ℕ) → Found
found classes roots live = record { classes = classes; roots = roots; live = live }

-- what a call of the solver answers
unfoldable pub solved_of : List ℤ → ℕ → ℕ → Lists → Result Found Refusal
solved_of f p n given =
    value_or (solver_verdict f p n given) (found (length (solution f p n)) (count (roots f p n) p n) (live f p n))

-- and what the three lists hold after it
unfoldable pub lists_after : List ℤ → ℕ → ℕ → Lists → Lists
lists_after f p n given = lists_filled (solver_verdict f p n given) (solution f p n) (marks_of f p n) given

-- the rules of the test of a residue
unfoldable pub test_verdict : List ℤ → ℕ → ℕ → ℕ → Verdict
test_verdict f p n point = tried (polynomial_rules f p n ++ rule8 point (p ^ n) ∷ [])

unfoldable pub tested_of : List ℤ → ℕ → ℕ → ℕ → Result Bool Refusal
tested_of f p n point = value_or (test_verdict f p n point) (roots f p n point)
