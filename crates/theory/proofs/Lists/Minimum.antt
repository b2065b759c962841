-- The least entry of a list of numbers.
use mathlib.Core.Path.{◌≡◌, refl}
use mathlib.Core.List.{List, [], ◌∷◌, foldr}
use Prim.Native.Nat.{ℕ, ◌≤◌, min}
use native.Mathlib.Nat.{min-le_left, min-le_right, le_trans, le_refl}
use native.Mathlib.Decide.{dec_le}
use native.Mathlib.Omega.{arith}
use Rattle.theory.specs.Lists.{In, here, there}
use Rattle.theory.specs.Degree.{minimum}
use Rattle.theory.proofs.Lists.Names.{in-nil}

fold_min-le : (a : ℕ) (l : List ℕ) → foldr min a l ≤ a
fold_min-le a [] = le_refl a
fold_min-le a (b ∷ l) = le_trans (min-le_right b (foldr min a l)) (fold_min-le a l)

fold_min_in_le : (a : ℕ) (l : List ℕ) (x : ℕ) → In x l → foldr min a l ≤ x
fold_min_in_le a (b ∷ l) x (here q) = rw q (min-le_left b (foldr min a l))
fold_min_in_le a (b ∷ l) x (there u) = le_trans (min-le_right b (foldr min a l)) (fold_min_in_le a l x u)
fold_min_in_le a [] x x3 = elim x3 [ ]

fold_min_in : (a : ℕ) (l : List ℕ) → In (foldr min a l) (a ∷ l)
fold_min_in a [] = here refl
fold_min_in a (b ∷ l) = go (fold_min_in a l) (dec_le b (foldr min a l))
  where
    m : ℕ
    m = foldr min a l

    later : In m (a ∷ l) → In m (a ∷ b ∷ l)
    later (here q) = here q
    later (there u) = there (there u)

    go : In m (a ∷ l) → Dec (b ≤ m) → In (min b m) (a ∷ b ∷ l)
    go ih (yes h) = let q : min b m ≡ b = omega arith in there (here q)
    go ih (no h) = let q : min b m ≡ m = omega arith in rw q (later ih)

-- it is at most each entry
pub minimum-le : (l : List ℕ) (x : ℕ) → In x l → minimum l ≤ x
unfolding minimum
minimum-le (a ∷ l) x (here q) = rw q (fold_min-le a l)
minimum-le (a ∷ l) x (there u) = fold_min_in_le a l x u
minimum-le [] x x3 = elim x3 [ ]

-- and is one of them
pub minimum_in : (l : List ℕ) (x : ℕ) → In x l → In (minimum l) l
unfolding minimum
minimum_in [] x u = absurd (in-nil u)
minimum_in (a ∷ l) x u = fold_min_in a l

-- a bound that is not below it changes nothing
fold_min_swap : (a b : ℕ) (l : List ℕ) → min a (foldr min b l) ≡ min b (foldr min a l)
fold_min_swap a b [] = omega arith
fold_min_swap a b (c ∷ l) = omega (arith, fold_min_swap a b l)

pub fold_minimum : (b : ℕ) (l : List ℕ) (x : ℕ) → In x l → minimum l ≤ b → foldr min b l ≡ minimum l
unfolding minimum
fold_minimum b [] x u h = absurd (in-nil u)
fold_minimum b (a ∷ l) x u h = omega (arith, fold_min_swap a b l)
