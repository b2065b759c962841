-- The counts of zeros modulo each power of p, as the walk of the tree adds them up.
use Rattle.std.specs.Prelude.{List, ℕ, zero, suc, ◌+◌, ◌-◌, ◌/◌, ◌^◌, ◌≤◌, ◌<◌, length, get_or, ◌≡◌}
use Rattle.theory.specs.Polynomial.{zeros}
use Rattle.theory.specs.Shortest.{count}
use Rattle.theory.specs.inner.Overwritten.{Overwritten}
use Rattle.solver.specs.declared.tree.PrimePower.{PrimePower}
use Rattle.solver.specs.declared.tree.Node.{Node}

-- how many of the numbers y of a node's class are zeros of f modulo p^(i + 1)
unfoldable pub zeros_at : List ℕ → ℕ → (levels : ℕ) → ℕ → ℕ
zeros_at f p levels i = count (zeros f p (suc i)) p levels

-- x may be added to the first k entries: the sums are 64-bit numbers
pub record Fits (k x : ℕ) (l : List ℕ) : Type 0 where
  pub there : k ≤ length l
  pub fits : (i : ℕ) → i < k → get_or l i 0 + x < 18446744073709551616

-- and is
abbrev pub AddedUpTo : ℕ → ℕ → List ℕ → List ℕ → Type 0
AddedUpTo k x l₀ l = Overwritten (λ i. get_or l₀ i 0 + x) 0 k l₀ l

-- the same for a row with an entry for each power of p up to the modulus, which the counts for f at a node are added to
pub record Room (f : List ℕ) (M : PrimePower) (x : Node) (l : List ℕ) : Type 0 where
  pub long : length l ≡ M.exponent
  pub fits : (i : ℕ) → i < M.exponent → get_or l i 0 + zeros_at f M.p x.left i < 18446744073709551616

abbrev pub Added : List ℕ → PrimePower → Node → List ℕ → List ℕ → Type 0
Added f M x l₀ l = Overwritten (λ i. get_or l₀ i 0 + zeros_at f M.p x.left i) 0 M.exponent l₀ l

-- N_j by the counts for p^1, …, pⁿ of residues below pⁿ, each p^(n − j) times as many as there are below p^j
abbrev pub scaled : ℕ → ℕ → List ℕ → ℕ → ℕ
scaled p n l zero = 1
scaled p n l (suc j) = get_or l j 0 / p ^ (n - suc j)
