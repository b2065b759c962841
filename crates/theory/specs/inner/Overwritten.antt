-- Lists that are overwritten in place.
use Rattle.std.specs.Prelude.{◌≡◌, List, ℕ, ◌≤◌, ◌<◌, length, get_or}

-- l is l₀ with F's numbers at the indices from lo to hi − 1
pub record Overwritten (F : ℕ → ℕ) (lo hi : ℕ) (l₀ l : List ℕ) : Type 0 where
  pub long : length l ≡ length l₀
  pub inside : (k : ℕ) → lo ≤ k → k < hi → get_or l k 0 ≡ F k
  pub below : (k : ℕ) → k < lo → get_or l k 0 ≡ get_or l₀ k 0
  pub above : (k : ℕ) → hi ≤ k → get_or l k 0 ≡ get_or l₀ k 0
