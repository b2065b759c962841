-- Division by y − c, by Horner's rule: the partial values are the quotient's coefficients.
use mathlib.Core.Path.{◌≡◌, refl, sym, ap, ◌∙◌}
use mathlib.Core.List.{List, [], ◌∷◌}
use Prim.Native.Nat.{ℕ, zero, suc, pred, ◌+◌, ◌*◌, ◌≤◌, ◌<◌, ◌∣◌}
use native.Mathlib.Nat.{dvd-zero, dvd-add_iff_left, dvd-mul_left_of_dvd}
use native.Mathlib.Omega.{arith}
use Rattle.theory.specs.Polynomial.{value, derivative}
use Rattle.theory.specs.Taylor.{taylor}
use Rattle.theory.specs.inner.Polynomial.{coef, Degree}
use Rattle.theory.proofs.Polynomials.Arithmetic.{dvd_value}
use Rattle.theory.proofs.Polynomials.Taylor.{taylor_constant, coef-taylor}
use Rattle.theory.proofs.Polynomials.Derivative.{derivative_none, derivative_next}

-- f is value f c, and y − c times this
unfoldable pub quotient : ℕ → List ℕ → List ℕ
unfolding value
quotient c [] = []
quotient c (a ∷ f) = value f c ∷ quotient c f

-- so f(c + k) is f(c), and k times its value there
pub quotient-value : (c k : ℕ) (f : List ℕ) → value f (c + k) ≡ value f c + k * value (quotient c f) (c + k)
unfolding value quotient
quotient-value c k [] = omega arith
quotient-value c k (a ∷ f) = rw (quotient-value c k f) (omega arith)

-- and its value at c is the derivative's
pub quotient-derivative : (c : ℕ) (f : List ℕ) → value (quotient c f) c ≡ value (derivative f) c
unfolding quotient value
quotient-derivative c [] = sym (derivative_none c)
quotient-derivative c (a ∷ f) = ap (λ (x : ℕ). value f c + c * x) (quotient-derivative c f) ∙ sym (derivative_next a f c)

-- f(c + k + y) is value f c, and k + y times the quotient there
pub quotient_zero : (c k : ℕ) (f : List ℕ) → coef (taylor (c + k) f) 0 ≡ value f c + k * coef (taylor (c + k) (quotient c f)) 0
quotient_zero c k f = taylor_constant (c + k) f ∙ rw (taylor_constant (c + k) (quotient c f)) (quotient-value c k f)

pub quotient-suc : (c k : ℕ) (f : List ℕ) (i : ℕ)
    → coef (taylor (c + k) f) (suc i) ≡ coef (taylor (c + k) (quotient c f)) i + k * coef (taylor (c + k) (quotient c f)) (suc i)
unfolding value quotient taylor
quotient-suc c k [] i = omega arith
quotient-suc c k (a ∷ f) zero =
    let q = quotient c f in
    let b = value f c in
    coef-taylor (c + k) a f 1
    ∙ rw (coef-taylor (c + k) b q 0, coef-taylor (c + k) b q 1, quotient_zero c k f, quotient-suc c k f 0) (omega arith)
quotient-suc c k (a ∷ f) (suc i) =
    let q = quotient c f in
    let b = value f c in
    coef-taylor (c + k) a f (suc (suc i))
    ∙ rw (coef-taylor (c + k) b q (suc i), coef-taylor (c + k) b q (suc (suc i)), quotient-suc c k f i, quotient-suc c k f (suc i))
    (omega arith)

-- The quotient's own coefficients

value-quotient : (c : ℕ) (f : List ℕ) → value f c ≡ coef f 0 + c * coef (quotient c f) 0
unfolding value quotient
value-quotient c [] = omega arith
value-quotient c (a ∷ f) = refl

coef-quotient : (c : ℕ) (f : List ℕ) (i : ℕ) → coef (quotient c f) i ≡ coef f (suc i) + c * coef (quotient c f) (suc i)
unfolding quotient
coef-quotient c [] i = omega arith
coef-quotient c (a ∷ f) zero = value-quotient c f
coef-quotient c (a ∷ f) (suc i) = coef-quotient c f i

quotient_above : (q c : ℕ) (f : List ℕ) (d : ℕ) → ((i : ℕ) → d < i → q ∣ coef f i) → (i : ℕ) → d ≤ i → q ∣ coef (quotient c f) i
unfolding quotient
quotient_above q c [] d h i l = dvd-zero q
quotient_above q c (a ∷ f) d h zero l = dvd_value q f c (λ i. h (suc i) (omega arith))
quotient_above q c (a ∷ f) d h (suc i) l = quotient_above q c f (pred d) (λ j k. h (suc j) (omega arith)) i (omega arith)

-- the division lowers the degree by one
pub quotient_degree : (q c : ℕ) (f : List ℕ) (d : ℕ) → Degree q f (suc d) → Degree q (quotient c f) d
quotient_degree q c f d D =
    let up : (i : ℕ) → suc d ≤ i → q ∣ coef (quotient c f) i = quotient_above q c f (suc d) D.above in
    record {
      lead = λ v.
          D.lead ((dvd-add_iff_left q (dvd-mul_left_of_dvd q (up (suc d) (omega arith)) c)).1 (rw (← coef-quotient c f d) v));
      above = λ i l. up i l;
    }

-- a polynomial of degree 0 modulo q has no zero modulo q
pub constant_no_zero : (q c : ℕ) (f : List ℕ) → Degree q f 0 → ¬ (q ∣ value f c)
constant_no_zero q c f D v =
    let up = quotient_above q c f 0 D.above 0 (omega arith) in
    D.lead ((dvd-add_iff_left q (dvd-mul_left_of_dvd q up c)).1 (rw (← value-quotient c f) v))
