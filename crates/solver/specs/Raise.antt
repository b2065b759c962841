-- Raising the precision of a list (02, 2.9).
use Rattle.std.specs.Prelude.{Bool, ◌&&◌, List, [], ◌∷◌, ◌++◌, map, ℕ, ℤ, length, Result, Ok, Err}
use Rattle.solver.specs.declared.Listed.{Listed}
use Rattle.solver.specs.declared.Found.{Found}
use Rattle.refusal.specs.declared.Refusal.{Refusal}
use Rattle.theory.specs.Polynomial.{roots}
use Rattle.theory.specs.ClassList.{members}
use Rattle.theory.specs.SignedClass.{SignedClass, natural, naturals}
use Rattle.theory.specs.SignedList.{signed_list}
use Rattle.theory.specs.Shortest.{count}
use Rattle.theory.specs.Mark.{mark}
use Rattle.refusal.specs.Rules.{Verdict, value_or, tried, rule6, rule6_three, rule11, rule17}
use Rattle.numbers.specs.Modulus.{rule5}
use Rattle.classes.specs.Rule7.{classes_of, rule7}
use Rattle.solver.specs.Solve.{Lists, polynomial_rules, lists_filled}

-- "the roots modulo p^m that are congruent to a modulo p^t for some given class a/t"
unfoldable pub roots_among : List ℤ → ℕ → (m : ℕ) → List SignedClass → ℕ → Bool
roots_among f p m G r = roots f p m r && members p (naturals p G) r

-- "at precision m the shortest list of" them
unfoldable pub raised : List ℤ → ℕ → (m : ℕ) → List SignedClass → List SignedClass
raised f p m G = signed_list (roots_among f p m G) p m

-- "with marks as for a fresh solve"
abbrev pub raised_marks : List ℤ → ℕ → (m : ℕ) → List SignedClass → List ℕ
raised_marks f p m G = map (λ c. mark f p m (natural p c)) (raised f p m G)

-- "Rule 6 looks at the given lists, then at those to be filled", which have the lengths a, b and c; the given list "passes rules 6 and 7 at
-- n"
abbrev pub lists_rules : ℕ → (n : ℕ) → List ℤ → List ℕ → (a b c : ℕ) → List Verdict
lists_rules p n residues levels a b c =
    rule6 (length residues) (length levels) ∷ rule6_three a b c ∷ rule7 p n (classes_of residues levels) ∷ []

-- "Rule 5 is tested for n, then for m", and 17 comes "directly after rule 5"
abbrev pub raise_rules : List ℤ → ℕ → (n m : ℕ) → List ℤ → List ℕ → (a b c : ℕ) → List Verdict
raise_rules f p n m residues levels a b c =
    polynomial_rules f p n ++ rule5 p m ∷ rule17 n m (length residues) (length levels) ∷ lists_rules p n residues levels a b c

-- and then "rule 11 applies to the result"
unfoldable pub raise_verdict : List ℤ → ℕ → (n m : ℕ) → List ℤ → List ℕ → Lists → Verdict
raise_verdict f p n m residues levels lent =
    tried (raise_rules f p n m residues levels (length lent.residues) (length lent.levels) (length lent.marks)
    ++ rule11 (length lent.residues) (length (raised f p m (classes_of residues levels)))
    ∷ [])

-- "whatever fills lists … returns k and the root count" (2.6)
abbrev pub listed : (classes roots : ℕ) → Listed
listed classes roots = record { classes = classes; roots = roots }

-- the solver's answer in these terms, without the number of live classes: "If the given list is that of f at n, result and count equal the
-- fresh ones at m"
abbrev pub without_live : Result Found Refusal → Result Listed Refusal
without_live (Ok found) = Ok (listed found.classes found.roots)
without_live (Err r) = Err r

-- what a call answers
unfoldable pub raised_of : List ℤ → ℕ → (n m : ℕ) → List ℤ → List ℕ → Lists → Result Listed Refusal
raised_of f p n m residues levels lent =
    let G = classes_of residues levels in
    value_or (raise_verdict f p n m residues levels lent) (listed (length (raised f p m G)) (count (roots_among f p m G) p m))

-- and what the three lists hold after it
unfoldable pub raised_lists : List ℤ → ℕ → (n m : ℕ) → List ℤ → List ℕ → Lists → Lists
raised_lists f p n m residues levels lent =
    let G = classes_of residues levels in
    lists_filled (raise_verdict f p n m residues levels lent) (raised f p m G) (raised_marks f p m G) lent
