-- g = f / p^s: f is p^s times g, and D is the degree of g modulo p, so that p does not divide all of g. A power of p that all coefficients
-- are multiplied by does not change it.
use mathlib.Core.Path.{◌≡◌, sym, ap, ◌∙◌, subst}
use mathlib.Core.Bool.{false}
use mathlib.Core.List.{List}
use Prim.Native.Nat.{ℕ, suc, ◌+◌, ◌*◌, ◌/◌, ◌^◌, ◌≤◌, ◌<◌, ◌∣◌}
use native.Mathlib.Nat.{dvd_of_mul-dvd-mul_left, mul-dvd-mul_left, mul-div_cancel', pow-suc, pow-zero, dvd-zero, dvd_trans, one-dvd}
use native.Mathlib.Nat.{mul-zero, mul-div-mul_left, div-one, eq_of_mul-eq-mul_left}
use native.Mathlib.Decide.{dec_lt}
use native.Mathlib.Omega.{arith}
use lib.Pow.{pow-add}
use lib.ListN.{length, length-map}
use Rattle.theory.specs.Polynomial.{value, derivative}
use Rattle.theory.specs.Taylor.{scale}
use Rattle.theory.specs.Degree.{least_valuation, degree_bound, all_zero, primitive}
use Rattle.theory.specs.inner.Polynomial.{coef, Degree}
use Rattle.theory.proofs.Tests.{same_test}
use Rattle.theory.proofs.Numbers.Power.{pow_pos, pow_dvd, pow-one}
use Rattle.theory.proofs.Polynomials.Arithmetic.{value-scale, scale-divided, value-divided, coef-divided, divided-map}
use Rattle.theory.proofs.Polynomials.Derivative.{derivative-scale}
use Rattle.theory.proofs.Polynomials.Highest.{all_zero-coef, all_zero_intro, all_zero_fails}
use Rattle.theory.proofs.Polynomials.Degree.{least-valuation-dvd, degree-bound-degree}

pub coef-primitive : (p : ℕ) (f : List ℕ) (i : ℕ) → coef (primitive p f) i ≡ coef f i / p ^ least_valuation p f
unfolding primitive
coef-primitive p f i = coef-divided (p ^ least_valuation p f) f i

pub length-primitive : (p : ℕ) (f : List ℕ) → length (primitive p f) ≡ length f
unfolding primitive
length-primitive p f =
    let q = p ^ least_valuation p f in
    ap length (divided-map q f) ∙ length-map f (λ (a : ℕ). a / q)

module _ (p : ℕ) (two : 2 ≤ p) (f : List ℕ) where
  pub primitive-times : (i : ℕ) → p ^ least_valuation p f * coef (primitive p f) i ≡ coef f i
  primitive-times i = rw (coef-primitive p f i) (mul-div_cancel' (p ^ least_valuation p f) (least-valuation-dvd p two f i))

  scale-primitive : scale (p ^ least_valuation p f) (primitive p f) ≡ f
  unfolding primitive
  scale-primitive = scale-divided (p ^ least_valuation p f) f (least-valuation-dvd p two f)

  -- so are its values and those of its derivative
  pub value-primitive : (x : ℕ) → value f x ≡ p ^ least_valuation p f * value (primitive p f) x
  unfolding primitive
  value-primitive = value-divided (p ^ least_valuation p f) f (least-valuation-dvd p two f)

  pub derivative-primitive : (x : ℕ) → value (derivative f) x ≡ p ^ least_valuation p f * value (derivative (primitive p f)) x
  derivative-primitive x =
      let q = p ^ least_valuation p f in
      ap (λ (h : List ℕ). value (derivative h) x) (sym scale-primitive)
      ∙ ap (λ (h : List ℕ). value h x) (derivative-scale q (primitive p f))
      ∙ value-scale q (derivative (primitive p f)) x

  pub primitive-degree : all_zero f ≡ false → Degree p (primitive p f) (degree_bound p f)
  primitive-degree z =
      let s = least_valuation p f in
      let D = degree-bound-degree p two f z in
      record {
        lead = λ d.
            D.lead (rw (pow-suc p s)
            (subst (λ (x : ℕ). p ^ s * p ∣ x) (primitive-times (degree_bound p f)) (mul-dvd-mul_left p (p ^ s) d)));
        above = λ i l.
            dvd_of_mul-dvd-mul_left p (pow_pos p (omega arith) s)
            (subst (λ (x : ℕ). p ^ s * p ∣ x) (sym (primitive-times i)) (rw (pow-suc p s) at (D.above i l)));
      }

module _ (p : ℕ) (two : 2 ≤ p) where
  hp : 0 < p
  hp = omega arith

  -- s is the exponent of the power of p that divides all coefficients while the next does not
  pub valuation-is : (f : List ℕ) (v j : ℕ) → ((i : ℕ) → p ^ v ∣ coef f i) → ¬ (p ^ suc v ∣ coef f j) → least_valuation p f ≡ v
  valuation-is f v j all none = go (dec_lt (least_valuation p f) v) (dec_lt v (least_valuation p f))
    where
      go : Dec (least_valuation p f < v) → Dec (v < least_valuation p f) → least_valuation p f ≡ v
      go (yes l) w =
          absurd ((degree-bound-degree p two f (all_zero_fails f j (λ z. none (rw z (dvd-zero (p ^ suc v)))))).lead
          (dvd_trans (p ^ suc (least_valuation p f)) (pow_dvd p l) (all (degree_bound p f))))
      go (no l) (yes u) = absurd (none (dvd_trans (p ^ suc v) (pow_dvd p u) (least-valuation-dvd p two f j)))
      go (no l) (no u) = omega arith

  -- where p does not divide every coefficient, nothing is divided away
  pub primitive-same : (f : List ℕ) (j : ℕ) → ¬ (p ∣ coef f j) → (i : ℕ) → coef (primitive p f) i ≡ coef f i
  primitive-same f j none i =
      let s : least_valuation p f ≡ 0 = valuation-is f 0 j (λ k. rw (pow-zero p) (one-dvd (coef f k))) (λ d. none (rw (pow-one p) at d)) in
      coef-primitive p f i ∙ rw (s, pow-zero p) (div-one (coef f i))

  -- f is p^v times g
  module _ (v : ℕ) (f g : List ℕ) (times : (i : ℕ) → coef f i ≡ p ^ v * coef g i) where
    pub scaled-zero : all_zero f ≡ all_zero g
    scaled-zero =
        same_test (all_zero f) (all_zero g)
        (λ z. all_zero_intro g (λ i u.
        eq_of_mul-eq-mul_left (p ^ v) (pow_pos p hp v) (coef g i) 0 (sym (times i) ∙ all_zero-coef f z i ∙ sym (mul-zero (p ^ v)))))
        (λ z. all_zero_intro f (λ i u. times i ∙ rw (all_zero-coef g z i) (mul-zero (p ^ v))))

    module _ (z : all_zero g ≡ false) where
      scaled-valuation : least_valuation p f ≡ v + least_valuation p g
      scaled-valuation =
          let s = least_valuation p g in
          let j = degree_bound p g in
          valuation-is f (v + s) j
          (λ i. rw (times i, pow-add p v s) (mul-dvd-mul_left (p ^ s) (p ^ v) (least-valuation-dvd p two g i)))
          (λ d.
          let e : suc (v + s) ≡ v + suc s = omega arith in
          (degree-bound-degree p two g z).lead
          (dvd_of_mul-dvd-mul_left (p ^ suc s) (pow_pos p hp v) (rw (e, pow-add p v (suc s), times j) at d)))

      -- the two have one primitive part
      pub scaled-primitive : (i : ℕ) → coef (primitive p f) i ≡ coef (primitive p g) i
      scaled-primitive i =
          let s = least_valuation p g in
          coef-primitive p f i
          ∙ rw (scaled-valuation, times i, pow-add p v s, coef-primitive p g i) (mul-div-mul_left (coef g i) (p ^ s) (pow_pos p hp v))
