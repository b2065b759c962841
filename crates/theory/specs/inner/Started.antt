-- The tree of digits started at each class of a list, in place of the class of everything.
use Rattle.std.specs.Prelude.{Bool, List, map, ℕ, ◌+◌, ◌-◌, ◌*◌, ◌^◌}
use Rattle.theory.specs.Class.{Class, class}
use Rattle.theory.specs.inner.Tree.{tree, flat}

-- the numbers y with a + p^t·y in S, of the class a/t
abbrev pub branch_at : (ℕ → Bool) → ℕ → Class → ℕ → Bool
branch_at S p c y = S (c.residue + p ^ c.level * y)

-- a class of the numbers y, as a class of the residues a + p^t·y: t levels deeper
unfoldable pub under : ℕ → Class → Class → Class
under p c e = class (c.residue + p ^ c.level * e.residue) (c.level + e.level)

-- the classes of S inside c, at precision n, in the order of the tree
unfoldable pub tree_below : (ℕ → Bool) → ℕ → ℕ → Class → List Class
unfolding tree under
tree_below S p n c = map (under p c) (tree (branch_at S p c) p (n - c.level))

-- those of each class in turn
unfoldable pub started : (ℕ → Bool) → ℕ → ℕ → List Class → List Class
unfolding flat tree_below
started S p n G = flat (tree_below S p n) G
