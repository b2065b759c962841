-- Worked cases on the definitions.
use Rattle.std.specs.Prelude.{Ok, Err}
use mathlib.Core.Path.{◌≡◌, refl}
use mathlib.Core.List.{List, [], ◌∷◌}
use Prim.Native.Nat.{ℕ}
use lib.IntN.{ℤ, pos, negsuc}
use Rattle.theory.specs.Prime.{is_composite, least_divisor}
use Rattle.theory.specs.Polynomial.{roots}
use Rattle.theory.specs.ClassList.{members}
use Rattle.theory.specs.SignedClass.{signed_class, natural}
use Rattle.theory.specs.SignedList.{signed_list}
use Rattle.refusal.specs.declared.Refusal.TheVariants.{Composite}
use Rattle.numbers.specs.Modulus.{modulus_rules}
use Rattle.solver.specs.declared.Query.{Query}
use Rattle.solver.specs.Solve.{tested_of, test_verdict}
use Rattle.solver.specs.Raise.{roots_among, raised}
use Rattle.solver.specs.Points.{answered_of, points_verdict, tested_all_of, queries_after}

abbrev f : List ℤ
f = negsuc 0 ∷ pos 0 ∷ pos 1 ∷ []

-- Many points in one call (02, 2.5): x² − 1 at 0, 16, 7 and 1, modulo 16, and with p = 9

abbrev query : ℕ → ℕ → Query
query point answer = record { point = point; answer = answer }

abbrev given : List Query
given = query 0 77 ∷ query 16 77 ∷ query 7 77 ∷ query 1 77 ∷ []

pub row_answered : (tested_all_of f 2 4 ≡ (Ok tt)) × (queries_after f 2 4 given ≡ query 0 0 ∷ query 16 8 ∷ query 7 1 ∷ query 1 1 ∷ [])
unfolding tested_all_of queries_after points_verdict answered_of tested_of test_verdict modulus_rules is_composite roots
row_answered = (refl, refl)

pub row_refused : (tested_all_of f 9 4 ≡ Err (Composite 3)) × (queries_after f 9 4 given ≡ given)
unfolding tested_all_of queries_after points_verdict modulus_rules is_composite least_divisor
row_refused = (refl, refl)

-- Raised lists (02, 2.9)

-- x² − 1: from 1/1 modulo 8 to −1/3, 1/3 modulo 16, as a fresh solve has it
pub square-raised : raised f 2 4 (signed_class (pos 1) 1 ∷ []) ≡ signed_class (negsuc 0) 3 ∷ signed_class (pos 1) 3 ∷ []
unfolding raised roots_among roots signed_list members natural
square-raised = refl

-- of what lies in 1/2 only 1/3
pub square_cut : raised f 2 4 (signed_class (pos 1) 2 ∷ []) ≡ signed_class (pos 1) 3 ∷ []
unfolding raised roots_among roots signed_list members natural
square_cut = refl

-- modulo 8, where all coefficients reduce to zero: the siblings 0/1 and 1/1 make 0/0
pub siblings_joined : raised (pos 8 ∷ pos 0 ∷ []) 2 3 (signed_class (pos 0) 1 ∷ signed_class (pos 1) 1 ∷ []) ≡ signed_class (pos 0) 0 ∷ []
unfolding raised roots_among roots signed_list members natural
siblings_joined = refl
