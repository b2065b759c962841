-- `systems::cut::powers` meets its contract. The invariant: the first i entries are powers of p, unless the power is 2^32 or more.
use Rattle.std.proofs.Common.{◌≡◌, List, ℕ, ◌^◌, ◌≤◌, ◌<◌, length, get_or}
use Rattle.systems.proofs.cut.powers.Given as goal

-- the first i entries are powers of p, where they are below 2^32
pub record PowersBelow (p : ℕ) (table : List ℕ) (i : ℕ) : Type 0 where
  pub long : length table ≡ 32
  pub at : 2 ≤ p → (k : ℕ) → k < i → p ^ k ≤ 4294967295 → get_or table k 0 ≡ p ^ k

abbrev pub invariant-loop-i : goal.invariant-loop-i
invariant-loop-i l = PowersBelow l.p l.table l.i
