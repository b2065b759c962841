-- The same classes in the order in which the tree of digits is walked: what the solver's recursion produces before it sorts.
use Rattle.std.specs.Prelude.{Bool, true, false, List, [], ◌∷◌, ◌++◌, map, ℕ, zero, suc, ◌+◌, ◌*◌, ◌^◌}
use Rattle.theory.specs.Range.{all_below}
use Rattle.theory.specs.Class.{Class, class}

-- f 0, then f 1, …, then f (k − 1)
unfoldable pub concat_below : (ℕ → List Class) → ℕ → List Class
concat_below f zero = []
concat_below f (suc k) = concat_below f k ++ f k

-- the lists of the entries, one after the other
unfoldable pub flat : {A : Type 0} → (A → List Class) → List A → List Class
flat f [] = []
flat f (x ∷ l) = f x ++ flat f l

-- the residues y with c + p·y in S: what lies below the digit c
abbrev pub branch : (ℕ → Bool) → ℕ → ℕ → ℕ → Bool
branch S p c y = S (c + p * y)

-- a class of residues y, as a class of the residues c + p·y: one level deeper
unfoldable pub deeper : ℕ → ℕ → Class → Class
deeper p c e = class (c + p * e.residue) (suc e.level)

-- of a set S of residues below p^l: the one class of everything where all are in S, and else the classes of each digit in turn
unfoldable pub tree : (ℕ → Bool) → ℕ → ℕ → List Class
unfolding all_below concat_below deeper
tree S p zero = elim (all_below S (p ^ 0)) [ true ↦ class 0 0 ∷ [] | false ↦ [] ]
tree S p (suc l) =
    elim (all_below S (p ^ suc l)) [
      | true ↦ class 0 0 ∷ []
      | false ↦ concat_below (λ c. map (deeper p c) (tree (branch S p c) p l)) p
    ]
