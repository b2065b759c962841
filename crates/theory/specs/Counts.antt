-- The number of solutions at every precision (02, 2.1).
use Rattle.std.specs.Prelude.{List, [], ◌∷◌, ◌++◌, ℕ, zero, suc, ℤ}
use Rattle.theory.specs.Polynomial.{roots}
use Rattle.theory.specs.Shortest.{count}

-- "N_j is the number of residues below p^j at which f is a multiple of p^j": f is reduced modulo p^j for it
unfoldable pub solutions : List ℤ → ℕ → ℕ → ℕ
unfolding roots count
solutions f p j = count (roots f p j) p j

-- the first k of N_0, N_1, N_2, …
unfoldable pub counts_below : List ℤ → ℕ → ℕ → List ℕ
unfolding solutions
counts_below f p zero = []
counts_below f p (suc k) = counts_below f p k ++ solutions f p k ∷ []

-- "the whole row N_0 to N_n"
abbrev pub count_row : List ℤ → ℕ → ℕ → List ℕ
count_row f p n = counts_below f p (suc n)
