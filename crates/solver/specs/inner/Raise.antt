-- Raising a list: what its rules leave, and what it answers and writes for coefficients modulo pⁿ.
use Rattle.std.specs.Prelude.{◌≡◌, Bool, ◌&&◌, List, [], ◌∷◌, map, ℕ, ◌^◌, ◌≤◌, ℤ, length, Result}
use Rattle.solver.specs.declared.Listed.{Listed}
use Rattle.refusal.specs.declared.Refusal.{Refusal}
use Rattle.theory.specs.Polynomial.{zeros}
use Rattle.theory.specs.ClassList.{members}
use Rattle.theory.specs.SignedClass.{SignedClass, natural, naturals}
use Rattle.theory.specs.SignedList.{signed_list}
use Rattle.theory.specs.Shortest.{count}
use Rattle.theory.specs.Mark.{mark_of}
use Rattle.refusal.specs.Rules.{Verdict, tried, rule11, rule17, value_or}
use Rattle.numbers.specs.Modulus.{rule5}
use Rattle.classes.specs.Rule7.{classes_of}
use Rattle.classes.specs.inner.Usable.{Faultless}
use Rattle.solver.specs.declared.raise.LentLengths.{LentLengths}
use Rattle.solver.specs.Solve.{Lists, lists_filled}
use Rattle.solver.specs.Raise.{lists_rules, raise_rules, listed}

-- a given list that the rules accept: classes at precision n, 64 at most, of which no two share a member
pub record GivenClasses (p n : ℕ) (residues : List ℤ) (levels : List ℕ) : Type 0 where
  pub same_length : length residues ≡ length levels
  pub few : length residues ≤ 64
  pub faultless : Faultless p n (classes_of residues levels)

-- the zeros modulo pⁿ that are members of a class of the list, and their classes
abbrev pub zeros_among : List ℕ → ℕ → ℕ → List SignedClass → ℕ → Bool
zeros_among w p n L r = zeros w p n r && members p (naturals p L) r

abbrev pub classes_among : List ℕ → ℕ → ℕ → List SignedClass → List SignedClass
classes_among w p n L = signed_list (zeros_among w p n L) p n

-- what the rules leave: p^m, or the refusal

-- all but 11
unfoldable pub raise_modulus : List ℤ → ℕ → (n m : ℕ) → List ℤ → List ℕ → LentLengths → Result ℕ Refusal
raise_modulus f p n m residues levels l =
    value_or (tried (raise_rules f p n m residues levels l.residues l.levels l.marks)) (p ^ m)

-- from rule 5 for m on
unfoldable pub later_modulus : ℕ → (n m : ℕ) → List ℤ → List ℕ → LentLengths → Result ℕ Refusal
later_modulus p n m residues levels l =
    value_or (tried (rule5 p m ∷ rule17 n m (length residues) (length levels)
    ∷ lists_rules p n residues levels l.residues l.levels l.marks)) (p ^ m)

-- from rule 6 on
unfoldable pub lists_modulus : ℕ → (n : ℕ) → List ℤ → List ℕ → LentLengths → ℕ → Result ℕ Refusal
lists_modulus p n residues levels l q = value_or (tried (lists_rules p n residues levels l.residues l.levels l.marks)) q

-- what is answered and written for a list w of coefficients modulo pⁿ, by rule 11
unfoldable pub among_verdict : List ℕ → ℕ → ℕ → List SignedClass → Lists → Verdict
among_verdict w p n G lent = tried (rule11 (length lent.residues) (length (classes_among w p n G)) ∷ [])

abbrev pub among_raised : List ℕ → ℕ → ℕ → List SignedClass → Lists → Result Listed Refusal
among_raised w p n G lent =
    value_or (among_verdict w p n G lent) (listed (length (classes_among w p n G)) (count (zeros_among w p n G) p n))

abbrev pub among_lists : List ℕ → ℕ → ℕ → List SignedClass → Lists → Lists
among_lists w p n G lent =
    lists_filled (among_verdict w p n G lent) (classes_among w p n G) (map (λ c. mark_of w p n (natural p c)) (classes_among w p n G)) lent
