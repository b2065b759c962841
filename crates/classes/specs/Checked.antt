-- What the rules say of p, n and a given class list: pⁿ, or the refusal.
use Rattle.std.specs.Prelude.{List, [], ◌∷◌, ◌++◌, ℕ, ◌^◌, ℤ, length, Result}
use Rattle.refusal.specs.declared.Refusal.{Refusal}
use Rattle.refusal.specs.Rules.{Verdict, tried, rule6, rule6_three, value_or}
use Rattle.numbers.specs.Modulus.{modulus_rules}
use Rattle.classes.specs.Rule7.{classes_of, rule7, rule7_marked}

-- the rules on p, n and a given list: those on p and n, then 6 and 7
unfoldable pub given_rules : ℕ → ℕ → List ℤ → List ℕ → List Verdict
unfolding modulus_rules classes_of rule7
given_rules p n residues levels =
    modulus_rules p n ++ rule6 (length residues) (length levels) ∷ rule7 p n (classes_of residues levels) ∷ []

-- what these rules leave: pⁿ, or the refusal
unfoldable pub checked_of : ℕ → ℕ → List ℤ → List ℕ → Result ℕ Refusal
unfolding given_rules
checked_of p n residues levels = value_or (tried (given_rules p n residues levels)) (p ^ n)

-- the same rules for the writer, which takes marks too
unfoldable pub marked_rules : ℕ → ℕ → List ℤ → List ℕ → List ℕ → List Verdict
unfolding modulus_rules classes_of rule7_marked
marked_rules p n residues levels marks =
    modulus_rules p n
    ++ rule6_three (length residues) (length levels) (length marks)
    ∷ rule7_marked p n (classes_of residues levels) marks
    ∷ []

-- and what they leave
unfoldable pub marked_checked_of : ℕ → ℕ → List ℤ → List ℕ → List ℕ → Result ℕ Refusal
unfolding marked_rules
marked_checked_of p n residues levels marks = value_or (tried (marked_rules p n residues levels marks)) (p ^ n)
