-- Two classes are equal if their residues and levels are.
use mathlib.Core.Path.{◌≡◌}
use Prim.Native.Nat.{ℕ}
use Rattle.theory.specs.Class.{class}

pub class_equal : {a b t u : ℕ} → a ≡ b → t ≡ u → class a t ≡ class b u
class_equal e f = λ i. class (e i) (f i)
