-- The solver's list for the roots of f: at most D classes, and the one class of everything where pⁿ divides all coefficients.
use mathlib.Core.Path.{◌≡◌, sym, ap, ◌∙◌}
use mathlib.Core.Bool.{Bool, true, false}
use mathlib.Core.List.{List, [], ◌∷◌}
use Prim.Native.Nat.{ℕ, ◌+◌, ◌-◌, ◌^◌, ◌≤◌, ◌<◌}
use native.Mathlib.Nat.{dvd_trans, lt_of_lt_of_le}
use native.Mathlib.Omega.{arith}
use lib.IntN.{ℤ}
use lib.ListN.{length, length-map}
use Rattle.theory.specs.Lists.{In}
use Rattle.theory.specs.Polynomial.{reduce, reduced, value, vanishes, zeros, roots}
use Rattle.theory.specs.Degree.{least_valuation, primitive, degree_bound, all_zero}
use Rattle.theory.specs.Class.{class}
use Rattle.theory.specs.Shortest.{shortest}
use Rattle.theory.specs.inner.Tree.{tree}
use Rattle.theory.proofs.Lists.Names.{in-nil}
use Rattle.theory.proofs.Lists.Map.{in_map}
use Rattle.theory.proofs.Lists.Permutation.{perm_length}
use Rattle.theory.proofs.Numbers.Power.{pow_pos, base_dvd, base_le}
use Rattle.theory.specs.Prime.{Prime}
use Rattle.theory.proofs.Numbers.Prime.{prime_pos, dvd_divides}
use Rattle.theory.proofs.Numbers.Reduction.{reduce-lt}
use Rattle.theory.proofs.Passing.{passing-all}
use Rattle.theory.proofs.Range.{all_intro}
use Rattle.theory.proofs.Lists.Rising.{rising-perm}
use Rattle.theory.proofs.Classes.Rising.{Earlier, earlier_strict, shortest_rising}
use Rattle.theory.proofs.Classes.Tree.{tree_whole, tree-perm}
use Rattle.theory.proofs.Polynomials.Zeros.{zeros-all, zeros-divided, zero_dvd}
use Rattle.theory.proofs.Polynomials.Bound.{tree-at-most}
use Rattle.theory.proofs.Polynomials.Degree.{degree-bound-degree, degree-bound-lt, least-valuation-dvd, least-valuation-lt}
use Rattle.theory.proofs.Polynomials.Lagrange.{lagrange}
use Rattle.theory.proofs.Polynomials.Primitive.{primitive-degree}

-- a set that holds every residue is listed as the one class of everything
pub everything : (S : ℕ → Bool) (p n : ℕ) → 2 ≤ p → ((r : ℕ) → r < p ^ n → S r ≡ true) → shortest S p n ≡ class 0 0 ∷ []
everything S p n two all =
    let t : tree S p n ≡ class 0 0 ∷ [] = tree_whole S p n (all_intro S (p ^ n) all) in
    sym (rising-perm Earlier earlier_strict (class 0 0 ∷ []) (shortest S p n) ((λ d u. absurd (in-nil u)), tt) (shortest_rising S p n)
    (rw t at (tree-perm p (omega arith) two S n)))

-- reduced coefficients are below pⁿ
pub reduced-lt : (f : List ℤ) (p n : ℕ) → 0 < p → (a : ℕ) → In a (reduced f p n) → a < p ^ n
unfolding reduced
reduced-lt f p n hp a u = let (z, v, e) = in_map (reduce (p ^ n)) f a u in rw e (reduce-lt (p ^ n) (pow_pos p hp n) z)

-- where pⁿ divides all coefficients, everything is a root
pub all_zero-roots : (f : List ℤ) (p n : ℕ) → all_zero (reduced f p n) ≡ true → (r : ℕ) → roots f p n r ≡ true
unfolding roots
all_zero-roots f p n e r = zeros-all (reduced f p n) p n e r

-- "If all are zero, everything is a root"
pub all_zero_list : (f : List ℤ) (p n : ℕ) → 2 ≤ p → all_zero (reduced f p n) ≡ true → shortest (roots f p n) p n ≡ class 0 0 ∷ []
all_zero_list f p n two e = everything (roots f p n) p n two (λ r h. all_zero-roots f p n e r)

module _ (f : List ℤ) (p n : ℕ) (P : Prime p) (some_left : all_zero (reduced f p n) ≡ false) where
  -- s is below n
  pub content-below : least_valuation p (reduced f p n) < n
  content-below = least-valuation-lt p P.two (reduced f p n) some_left n (reduced-lt f p n (prime_pos P))

  -- "it has at most D classes"
  pub at_most_D : length (shortest (roots f p n) p n) ≤ degree_bound p (reduced f p n)
  unfolding roots
  at_most_D =
      let g = reduced f p n in
      omega (
        arith,
        perm_length (tree-perm p (prime_pos P) P.two (roots f p n) n),
        tree-at-most p P n n (least_valuation p g) (degree_bound p g) g content-below (degree-bound-degree p P.two g some_left),
      )

  -- and D is an index of a coefficient
  pub D-lt : degree_bound p (reduced f p n) < length f
  unfolding reduced
  D-lt = omega (arith, degree-bound-lt p P.two (reduced f p n) some_left, length-map f (reduce (p ^ n)))

  -- the roots are the zeros of g modulo p^(n − s)
  pub roots-primitive : roots f p n ≡ zeros (primitive p (reduced f p n)) p (n - least_valuation p (reduced f p n))
  unfolding roots primitive
  roots-primitive =
      let w = reduced f p n in
      let s = least_valuation p w in
      let split : s + (n - s) ≡ n = omega (arith, content-below) in
      ap (zeros w p) (sym split) ∙ zeros-divided w p s (n - s) (prime_pos P) (least-valuation-dvd p P.two w)

  -- p divides g at each of them
  pub root-vanishes : (r : ℕ) → roots f p n r ≡ true → vanishes p (primitive p (reduced f p n)) r ≡ true
  unfolding vanishes
  root-vanishes r root =
      let g = primitive p (reduced f p n) in
      let e = n - least_valuation p (reduced f p n) in
      let zero : zeros g p e r ≡ true = sym (ap (λ (S : ℕ → Bool). S r) roots-primitive) ∙ root in
      dvd_divides p (value g r) (dvd_trans p (base_dvd p (omega (arith, content-below))) (zero_dvd g p e r zero))

  -- where everything is a root, at every digit
  pub everything-digits : ((r : ℕ) → r < p ^ n → roots f p n r ≡ true) → (c : ℕ) → c < p → vanishes p (primitive p (reduced f p n)) c ≡ true
  everything-digits all c l =
      root-vanishes c (all c (lt_of_lt_of_le l (base_le p (prime_pos P) (omega (arith, content-below)))))

  -- so p is at most D
  pub everything-most : ((r : ℕ) → r < p ^ n → roots f p n r ≡ true) → p ≤ degree_bound p (reduced f p n)
  everything-most all =
      let w = reduced f p n in
      omega (
        arith,
        lagrange p P (degree_bound p w) (primitive p w) (primitive-degree p P.two w some_left),
        passing-all (vanishes p (primitive p w)) p 0 (λ c l b. everything-digits all c (omega arith)),
      )
