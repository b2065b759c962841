-- The numbers of a range that pass a test: whether all do, the least that does, and all that do.
use Rattle.std.specs.Prelude.{Bool, true, false, List, [], ◌∷◌, ℕ, zero, suc}

-- every number below k passes
unfoldable pub all_below : (ℕ → Bool) → ℕ → Bool
all_below f zero = true
all_below f (suc k) = elim (f k) [ true ↦ all_below f k | false ↦ false ]

-- the first of the k numbers from i on that passes, and i + k where none does
unfoldable pub least : (ℕ → Bool) → ℕ → ℕ → ℕ
least f zero i = i
least f (suc k) i = elim (f i) [ true ↦ i | false ↦ least f k (suc i) ]

-- those of the k numbers from i on that pass, rising
unfoldable pub passing : (ℕ → Bool) → ℕ → ℕ → List ℕ
passing f zero i = []
passing f (suc k) i = elim (f i) [ true ↦ i ∷ passing f k (suc i) | false ↦ passing f k (suc i) ]
