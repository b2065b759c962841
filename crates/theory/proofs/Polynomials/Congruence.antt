-- Values modulo m depend on the argument and the coefficients modulo m only.
use mathlib.Core.Path.{◌≡◌, ap, fun_ext}
use mathlib.Core.List.{List, [], ◌∷◌, map}
use Prim.Native.Nat.{ℕ, suc, ◌%◌, ◌^◌}
use native.Mathlib.Omega.{arith}
use lib.Dec.{eqb}
use Rattle.theory.specs.Prime.{divides}
use Rattle.theory.specs.Polynomial.{value, vanishes, zeros}
use Rattle.theory.proofs.Numbers.Congruence.{Congruent, cong_refl, cong_sym, cong_trans, cong_of_eq, cong_residue}
use Rattle.theory.proofs.Numbers.Congruence.{cong_add, cong_mul, cong_dvd}
use Rattle.theory.specs.inner.Polynomial.{coef, Degree}
use Rattle.theory.proofs.Polynomials.Arithmetic.{coef_modulo}

pub cong_argument : {m : ℕ} (f : List ℕ) {x y : ℕ} → Congruent m x y → Congruent m (value f x) (value f y)
unfolding value
cong_argument [] e = cong_refl
cong_argument (a ∷ f) e = cong_add cong_refl (cong_mul e (cong_argument f e))

-- f and g agree modulo m, coefficient by coefficient
abbrev pub SameModulo : ℕ → List ℕ → List ℕ → Type 0
SameModulo m f g = (i : ℕ) → Congruent m (coef f i) (coef g i)

cong_none : {m : ℕ} (g : List ℕ) (x : ℕ) → SameModulo m [] g → Congruent m 0 (value g x)
unfolding value
cong_none [] x h = cong_refl
cong_none (b ∷ g) x h =
    cong_trans (cong_of_eq (omega arith)) (cong_add (h 0) (cong_mul (cong_refl {x = x}) (cong_none g x (λ i. h (suc i)))))

pub cong_coefficients : {m : ℕ} (f g : List ℕ) (x : ℕ) → SameModulo m f g → Congruent m (value f x) (value g x)
unfolding value
cong_coefficients [] g x h = cong_none g x h
cong_coefficients (a ∷ f) [] x h = cong_sym (cong_none (a ∷ f) x (λ i. cong_sym (h i)))
cong_coefficients (a ∷ f) (b ∷ g) x h = cong_add (h 0) (cong_mul cong_refl (cong_coefficients f g x (λ i. h (suc i))))

-- the residues of the coefficients agree with them
pub same_residues : (m : ℕ) (f : List ℕ) → SameModulo m (map (λ a. a % m) f) f
same_residues m f i = cong_residue (coef_modulo m f i)

-- so the zeros modulo pⁿ are told by the coefficients modulo pⁿ
pub zeros_same : (f g : List ℕ) (p n : ℕ) → SameModulo (p ^ n) f g → zeros f p n ≡ zeros g p n
unfolding zeros divides
zeros_same f g p n h = fun_ext (λ r. ap (λ (z : ℕ). eqb z 0) (cong_coefficients f g r h).same)

pub vanishes_same : {p : ℕ} (f g : List ℕ) → SameModulo p f g → vanishes p f ≡ vanishes p g
unfolding vanishes divides
vanishes_same f g h = fun_ext (λ r. ap (λ (z : ℕ). eqb z 0) (cong_coefficients f g r h).same)

-- a degree modulo m is one of f and g both
pub degree_same : {m d : ℕ} {f g : List ℕ} → SameModulo m f g → Degree m g d → Degree m f d
degree_same {m} {d} same D =
    record { lead = λ u. D.lead (cong_dvd (same d) u); above = λ i h. cong_dvd (cong_sym (same i)) (D.above i h) }
