-- `numbers::least_divisor` meets its contract. The invariant: no number from 2 to d − 1 divides p.
use mathlib.Core.Path.{◌≡◌}
use Prim.Native.Nat.{ℕ, ◌+◌, ◌-◌, ◌≤◌, ◌<◌, ◌∣◌}
use Rattle.numbers.proofs.least_divisor.Given as goal

abbrev pub NoneBelow : ℕ → ℕ → Type 0
NoneBelow p d = (e : ℕ) → 2 ≤ e → e < d → ¬ (e ∣ p)

abbrev pub invariant-loop-d : goal.invariant-loop-d
invariant-loop-d l = (l.x ≡ l.p) × (2 ≤ l.p) × (2 ≤ l.d) × (l.d ≤ 65536) × NoneBelow l.p l.d

abbrev pub decreases-loop-d : goal.decreases-loop-d
decreases-loop-d l = l.x + 1 - l.d
