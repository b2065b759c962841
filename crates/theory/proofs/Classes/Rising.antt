-- `shortest` rises by residue.
use mathlib.Core.Bool.{Bool}
use Prim.Native.Nat.{ℕ, ◌^◌, ◌<◌}
use native.Mathlib.Omega.{arith}
use Rattle.theory.specs.Class.{Class}
use Rattle.theory.specs.Shortest.{is_listed, largest, shortest}
use Rattle.theory.proofs.Lists.Rising.{Rising, rising-map}

-- the order of 01's lists
abbrev pub Earlier : Class → Class → Type 0
Earlier c d = c.residue < d.residue

pub earlier_strict : (c d : Class) → Earlier c d → Earlier d c → ⊥
earlier_strict c d h k = omega arith

-- "rising by a"
pub shortest_rising : (S : ℕ → Bool) (p n : ℕ) → Rising Earlier (shortest S p n)
unfolding shortest largest
shortest_rising S p n = rising-map Earlier (largest S p n) (λ i j h. h) (is_listed S p n) (p ^ n) 0
