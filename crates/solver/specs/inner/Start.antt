-- The recursion started at given classes.
use Rattle.std.specs.Prelude.{true, false, List, map, ℕ, ◌-◌, ◌^◌, min, eqb}
use Rattle.theory.specs.Class.{Class}
use Rattle.theory.specs.SignedClass.{signed}
use Rattle.solver.specs.declared.tree.Node.{Node}
use Rattle.solver.specs.declared.entry.Entry.{Entry}
use Rattle.solver.specs.inner.Entry.{entry}

-- the node of the class a/t, with n − t levels below it
abbrev pub node_at : (p n : ℕ) → Class → Node
node_at p n c = record { residue = c.residue; power = p ^ c.level; level = c.level; left = n - c.level }

-- how many of c coefficients the shift to a class of level t has modulo p^e, at most
unfoldable pub shifted_length : (c e t : ℕ) → ℕ
shifted_length c e t = elim (eqb t 0) [ true ↦ c | false ↦ min e c ]

-- the entries of classes
abbrev pub entries_of : ℕ → List Class → List Entry
entries_of p = map (λ (c : Class). entry (signed p c))
