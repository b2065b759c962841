-- Sums and multiples of polynomials, by coefficients and by values.
use mathlib.Core.Path.{ap, ◌≡◌, refl, sym, ap₂, ◌∙◌}
use mathlib.Core.List.{map, List, [], ◌∷◌}
use Prim.Native.Nat.{ℕ, zero, suc, ◌+◌, ◌*◌, ◌/◌, ◌%◌, ◌^◌, ◌∣◌}
use native.Mathlib.Nat.{zero-add, add-zero, mul-zero, pow-zero, pow-succ', dvd-zero, dvd-add, dvd-mul_left_of_dvd}
use native.Mathlib.Nat.{mul-div_cancel', zero-div, zero-mod}
use native.Mathlib.Omega.{arith}
use Rattle.theory.specs.Polynomial.{value, divided}
use Rattle.theory.specs.Taylor.{plus, scale, stretch}
use Rattle.theory.specs.inner.Polynomial.{coef}

-- Values

pub value-plus : (f g : List ℕ) (y : ℕ) → value (plus f g) y ≡ value f y + value g y
unfolding value plus
value-plus [] g y = sym (zero-add (value g y))
value-plus (a ∷ f) [] y = sym (add-zero (value (a ∷ f) y))
value-plus (a ∷ f) (b ∷ g) y = rw (value-plus f g y) (omega arith)

pub value-scale : (c : ℕ) (f : List ℕ) (y : ℕ) → value (scale c f) y ≡ c * value f y
unfolding value scale
value-scale c [] y = sym (mul-zero c)
value-scale c (a ∷ f) y = rw (value-scale c f y) (omega arith)

pub value-stretch : (q : ℕ) (f : List ℕ) (y : ℕ) → value (stretch q f) y ≡ value f (q * y)
unfolding value stretch
value-stretch q [] y = refl
value-stretch q (a ∷ f) y = rw (value-scale q (stretch q f) y, value-stretch q f y) (omega arith)

pub value_zero : (f : List ℕ) → value f 0 ≡ coef f 0
unfolding value
value_zero [] = refl
value_zero (a ∷ f) = omega arith

-- what divides every coefficient divides every value
pub dvd_value : (q : ℕ) (f : List ℕ) (y : ℕ) → ((i : ℕ) → q ∣ coef f i) → q ∣ value f y
unfolding value
dvd_value q [] y h = dvd-zero q
dvd_value q (a ∷ f) y h = dvd-add q (h 0) (dvd-mul_left_of_dvd q (dvd_value q f y (λ i. h (suc i))) y)

-- Coefficients

pub coef-plus : (f g : List ℕ) (i : ℕ) → coef (plus f g) i ≡ coef f i + coef g i
unfolding plus
coef-plus [] g i = omega arith
coef-plus (a ∷ f) [] i = omega arith
coef-plus (a ∷ f) (b ∷ g) zero = refl
coef-plus (a ∷ f) (b ∷ g) (suc i) = coef-plus f g i

pub coef-scale : (c : ℕ) (f : List ℕ) (i : ℕ) → coef (scale c f) i ≡ c * coef f i
unfolding scale
coef-scale c [] i = sym (mul-zero c)
coef-scale c (a ∷ f) zero = refl
coef-scale c (a ∷ f) (suc i) = coef-scale c f i

pub coef-stretch : (q : ℕ) (f : List ℕ) (i : ℕ) → coef (stretch q f) i ≡ q ^ i * coef f i
unfolding stretch
coef-stretch q [] i = sym (mul-zero (q ^ i))
coef-stretch q (a ∷ f) zero = rw pow-zero (omega arith)
coef-stretch q (a ∷ f) (suc i) = coef-scale q (stretch q f) i ∙ rw (coef-stretch q f i, pow-succ' q i) (omega arith)

-- where q divides every coefficient, f is q times the quotient
pub scale-divided : (q : ℕ) (f : List ℕ) → ((i : ℕ) → q ∣ coef f i) → scale q (divided q f) ≡ f
unfolding divided scale
scale-divided q [] h = refl
scale-divided q (a ∷ f) h = ap₂ (λ x xs. x ∷ xs) (mul-div_cancel' q (h 0)) (scale-divided q f (λ i. h (suc i)))

pub value-divided : (q : ℕ) (f : List ℕ) → ((i : ℕ) → q ∣ coef f i) → (y : ℕ) → value f y ≡ q * value (divided q f) y
value-divided q f h y = ap (λ (g : List ℕ). value g y) (sym (scale-divided q f h)) ∙ value-scale q (divided q f) y

pub divided-map : (q : ℕ) (f : List ℕ) → divided q f ≡ map (λ (a : ℕ). a / q) f
unfolding divided
divided-map q [] = refl
divided-map q (a ∷ f) = ap (λ xs. a / q ∷ xs) (divided-map q f)

-- a function that keeps 0, at each coefficient
pub coef-map : (F : ℕ → ℕ) → F 0 ≡ 0 → (f : List ℕ) (i : ℕ) → coef (map F f) i ≡ F (coef f i)
coef-map F z [] i = sym z
coef-map F z (a ∷ f) zero = refl
coef-map F z (a ∷ f) (suc i) = coef-map F z f i

pub coef_modulo : (m : ℕ) (f : List ℕ) (i : ℕ) → coef (map (λ a. a % m) f) i ≡ coef f i % m
coef_modulo m = coef-map (λ a. a % m) (zero-mod m)

pub coef-divided : (q : ℕ) (f : List ℕ) (i : ℕ) → coef (divided q f) i ≡ coef f i / q
coef-divided q f i = ap (λ (g : List ℕ). coef g i) (divided-map q f) ∙ coef-map (λ a. a / q) (zero-div q) f i
