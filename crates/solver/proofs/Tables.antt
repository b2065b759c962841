-- Laws of polynomials in tables.
use mathlib.Core.Path.{◌≡◌}
use mathlib.Core.List.{List}
use Prim.Native.Nat.{ℕ, ◌+◌, ◌*◌, ◌%◌, ◌≤◌, ◌<◌, ◌∣◌}
use native.Mathlib.Decide.{dec_lt}
use native.Mathlib.Nat.{mod-lt, mul-le-mul}
use native.Mathlib.Omega.{arith}
use lib.ListN.{length, get_or, get_or-eq_default}
use mir.Syntax.{w32, w64}
use mir.Val.{Fits}
use Rattle.theory.specs.Lists.{In}
use Rattle.theory.specs.inner.Polynomial.{coef}
use Rattle.theory.proofs.Lists.Index.{index_of}
use Rattle.theory.proofs.Numbers.Congruence.{Congruent, cong_sym, cong_residue, dvd_cong}
use Rattle.theory.proofs.Polynomials.Congruence.{SameModulo}
use Rattle.solver.specs.inner.Table.{Below, Residues}

-- a product of two numbers of 32 bits, and a third added, fits 64 bits
pub product_fits : (x y : ℕ) → x ≤ 4294967295 → y ≤ 4294967295 → Fits w64 (x * y)
product_fits x y hx hy = record { fits = omega (arith, mul-le-mul hx hy) }

pub sum_fits : (a x y : ℕ) → a ≤ 4294967295 → x ≤ 4294967295 → y ≤ 4294967295 → Fits w64 (a + x * y)
sum_fits a x y ha hx hy = record { fits = omega (arith, mul-le-mul hx hy) }

-- a remainder fits 32 bits
pub remainder_le : (x m : ℕ) → 0 < m → m ≤ 4294967296 → x % m ≤ 4294967295
remainder_le x m hm h = omega (arith, mod-lt x hm)

pub remainder_fits : (x m : ℕ) → 0 < m → m ≤ 4294967296 → Fits w32 (x % m)
remainder_fits x m hm h = record { fits = omega (arith, remainder_le x m hm h) }

-- an entry is below what every coefficient is below
pub below_entry : (m : ℕ) (f : List ℕ) → Below m f → (a : ℕ) → In a f → a < m
below_entry m f b a u = let (i, h, e) = index_of f 0 a u in rw e (b.at i)

-- remainders modulo m are below m
pub remainders_below : (m : ℕ) (g : List ℕ) (G : ℕ → ℕ) → 0 < m → ((i : ℕ) → i < length g → get_or g i 0 ≡ G i % m) → Below m g
remainders_below m g G hm e = record { at = λ i. go i (dec_lt i (length g)) }
  where
    go : (i : ℕ) → Dec (i < length g) → get_or g i 0 < m
    go i (yes h) = rw (e i h) (mod-lt (G i) hm)
    go i (no h) = rw (get_or-eq_default g 0 {n = i} (omega arith)) hm

-- so are the coefficients of residues
pub residues-below : {m : ℕ} {g f : List ℕ} → 0 < m → Residues m g f → Below m g
residues-below {m} {g} {f} hm r = remainders_below m g (coef f) hm r.at

-- which are congruent to those they are of
pub residues_cong : {m : ℕ} {g f : List ℕ} → Residues m g f → (i : ℕ) → i < length g → Congruent m (coef g i) (coef f i)
residues_cong r i h = cong_residue (r.at i h)

-- all of them, where m divides the coefficients past the end
pub residues_same : {m : ℕ} {g f : List ℕ} → Residues m g f → ((i : ℕ) → length g ≤ i → m ∣ coef f i) → SameModulo m g f
residues_same {m} {g} {f} r past i = go (dec_lt i (length g))
  where
    go : Dec (i < length g) → Congruent m (coef g i) (coef f i)
    go (yes h) = residues_cong r i h
    go (no h) =
        let l : length g ≤ i = omega arith in
        rw (get_or-eq_default g 0 {n = i} l) (cong_sym (dvd_cong (past i l)))
