-- What the recursion over the digits needs and gives.
use Rattle.std.specs.Prelude.{◌≡◌, Bool, true, false, List, ◌++◌, map, ℕ, ◌+◌, ◌-◌, ◌*◌, ◌/◌, ◌^◌, ◌≤◌, ◌<◌, length, take}
use Rattle.theory.specs.Range.{all_below}
use Rattle.theory.specs.Prime.{Prime}
use Rattle.theory.specs.Degree.{degree_bound, all_zero}
use Rattle.theory.specs.Class.{Class, class}
use Rattle.theory.specs.SignedClass.{signed}
use Rattle.theory.specs.inner.Tree.{tree}
use Rattle.solver.specs.declared.tree.PrimePower.{PrimePower}
use Rattle.solver.specs.declared.tree.Node.{Node}
use Rattle.solver.specs.declared.tree.Settled.{Settled}
use Rattle.solver.specs.inner.Table.{Below, nonzero_modulo}
use Rattle.solver.specs.declared.entry.Entry.{Entry}
use Rattle.solver.specs.inner.Entry.{entry}

-- the modulus is a power of a prime that the solver takes
pub record IsPrimePower (M : PrimePower) : Type 0 where
  pub prime : Prime M.p
  pub small : M.p ≤ 65535
  pub power_is : M.power ≡ M.p ^ M.exponent
  pub fits : M.power ≤ 4294967295

-- the modulus m = pⁿ
abbrev pub over : (p n m : ℕ) → PrimePower
over p n m = record { p = p; exponent = n; power = m }

-- the modulus divided by p^s
abbrev pub lowered : PrimePower → ℕ → PrimePower
lowered M s = record { p = M.p; exponent = M.exponent - s; power = M.power / M.p ^ s }

-- the class of everything, at which the recursion starts
abbrev pub everything : (levels : ℕ) → Node
everything levels = record { residue = 0; power = 1; level = 0; left = levels }

-- a node holds a class a/t of the tree of digits to the base p, with p^t and the number of levels below it, all of them within 32 bits
pub record IsNode (p : ℕ) (x : Node) : Type 0 where
  pub base : 2 ≤ p
  pub power_is : x.power ≡ p ^ x.level
  pub residue_fits : x.residue < x.power
  pub fits : p ^ (x.level + x.left) ≤ 4294967295

-- f is a polynomial modulo M for the class at a node: the numbers y, for the residues a + p^t·y, are its argument
pub record AtNode (f : List ℕ) (M : PrimePower) (x : Node) : Type 0 where
  pub modulus : IsPrimePower M
  pub node : IsNode M.p x
  pub short : length f ≤ 65
  pub below : Below M.power f

-- the same where p does not divide all of f and levels are left: what the scan of the class's digits gets
pub record Primitive (f : List ℕ) (M : PrimePower) (x : Node) : Type 0 where
  pub at : AtNode f M x
  pub precise : 0 < M.exponent
  pub deep : 0 < x.left
  pub nonzero : nonzero_modulo M.p f ≡ true

-- the node one level below, at the digit c
abbrev pub child_at : Node → ℕ → ℕ → Node
child_at x p c =
    record { residue = x.residue + x.power * c; power = x.power * p; level = x.level + 1; left = x.left - 1 }

-- the zeros of f are never in more classes than this, nor are those found on the way
unfoldable pub most_classes : ℕ → List ℕ → ℕ
most_classes p f = elim (all_zero f) [ true ↦ 1 | false ↦ degree_bound p f ]

-- a class of the numbers y, as a class of the residues a + p^t·y
unfoldable pub within : Node → Class → Class
within x c = class (x.residue + x.power * c.residue) (x.level + c.level)

-- the entries of such classes
abbrev pub entries_within : ℕ → Node → List Class → List Entry
entries_within p x = map (λ (c : Class). entry (signed p (within x c)))

-- `new` now follows the first k entries of the scratch, which are kept: together its first k'
pub record Appended {A : Type 0} (new : List A) (k k' : ℕ) (out out' : List A) : Type 0 where
  pub number : k' ≡ k + length new
  pub entries : take k' out' ≡ take k out ++ new

-- the classes of the set S of numbers y are added, each as an entry
pub record Done (S : ℕ → Bool) (p : ℕ) (x : Node) (k : ℕ) (r : Settled) (out out' : List Entry) : Type 0 where
  pub added : Appended (entries_within p x (tree S p x.left)) k r.k out out'
  pub is_whole : r.whole ≡ all_below S (p ^ x.left)
