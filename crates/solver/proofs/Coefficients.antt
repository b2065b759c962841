-- The coefficients of f reduced modulo m = pⁿ, as the row that the code has of them.
use mathlib.Core.Path.{◌≡◌, refl, sym, ap, ap₂, ◌∙◌}
use mathlib.Core.List.{List, [], ◌∷◌, map}
use Prim.Native.Nat.{ℕ, zero, suc, ◌%◌, ◌^◌, ◌≤◌, ◌<◌}
use native.Mathlib.Omega.{arith}
use lib.Dec.{eqb}
use lib.IntN.{ℤ}
use lib.ListN.{length, length-map, get_or}
use Rattle.theory.specs.Prime.{divides}
use Rattle.theory.specs.Polynomial.{reduce, reduced, roots, zeros, value}
use Rattle.theory.proofs.Numbers.Power.{pow_pos}
use Rattle.theory.proofs.Numbers.Prime.{prime_pos}
use Rattle.theory.proofs.Numbers.Reduction.{reduce-lt}
use Rattle.numbers.specs.inner.Usable.{Usable}
use Rattle.solver.specs.inner.Table.{Below}
use Rattle.solver.specs.inner.Reduced.{UsableCoefficients}

pub usable_pos : {p n m : ℕ} → Usable p n m → 0 < m
usable_pos {p} {n} U = rw U.power (pow_pos p (prime_pos U.prime) n)

pub usable_fits : {p n m : ℕ} → Usable p n m → m ≤ 4294967295
usable_fits U = omega (arith, U.power, U.within)

pub usable_power : {p n m : ℕ} → Usable p n m → Usable p n (p ^ n)
usable_power U =
    record {
      accepted = U.accepted;
      prime = U.prime;
      small = U.small;
      precise = U.precise;
      power = refl;
      within = U.within;
    }

pub usable_coefficients : {w : List ℕ} {p n m : ℕ} → Usable p n m → 0 < length w → length w ≤ 65 → UsableCoefficients w p n
usable_coefficients U some few = record { modulus = usable_power U; some = some; few = few }

reduced-below : (m : ℕ) → 0 < m → (f : List ℤ) (i : ℕ) → get_or (map (reduce m) f) i 0 < m
reduced-below m pos [] i = pos
reduced-below m pos (a ∷ f) zero = reduce-lt m pos a
reduced-below m pos (a ∷ f) (suc i) = reduced-below m pos f i

module _ (f : List ℤ) {p n m : ℕ} (U : Usable p n m) {w : List ℕ} (r : w ≡ map (reduce m) f) where
  pub row_is : w ≡ reduced f p n
  unfolding reduced
  row_is = r ∙ ap (λ (q : ℕ). map (reduce q) f) U.power

  pub row_some : 0 < length f → 0 < length w
  row_some h = omega (arith, ap length r, length-map f (reduce m))

  pub row_few : length f ≤ 65 → length w ≤ 65
  row_few h = omega (arith, ap length r, length-map f (reduce m))

  pub row_below : Below m w
  row_below = record { at = λ i. rw r (reduced-below m (usable_pos U) f i) }

  pub root_is : (x : ℕ) → roots f p n x ≡ eqb (value w x % m) 0
  unfolding roots zeros divides
  root_is x = sym (ap₂ (λ (v : List ℕ) (q : ℕ). eqb (value v x % q) 0) row_is U.power)
