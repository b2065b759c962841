-- The digits at which a class has a live class below it.
use mathlib.Core.Path.{◌≡◌, refl, sym, ap, ◌∙◌}
use mathlib.Core.Bool.{Bool, true, false}
use mathlib.Core.List.{List, [], ◌∷◌}
use Prim.Native.Nat.{ℕ, zero, suc, ◌*◌, ◌^◌, ◌≤◌, ◌<◌, ◌∣◌}
use native.Mathlib.Omega.{arith}
use native.Mathlib.Nat.{dvd_trans, dvd-zero, dvd-mul_right, dvd-mul_right_of_dvd, mod-eq-zero_of_dvd, zero-div, pow-succ'}
use Rattle.theory.specs.Lists.{In}
use Rattle.theory.specs.Range.{passing}
use Rattle.theory.specs.Polynomial.{value, vanishes}
use Rattle.theory.specs.Taylor.{taylor, shifted}
use Rattle.theory.specs.Degree.{least_valuation, degree_bound, all_zero, primitive}
use Rattle.theory.specs.Class.{Class}
use Rattle.theory.specs.Live.{class_polynomial, live_digits}
use Rattle.theory.specs.inner.Polynomial.{coef}
use Rattle.theory.proofs.Tests.{not_holding}
use Rattle.theory.proofs.Lists.Names.{in-nil}
use Rattle.theory.proofs.Lists.NoRepeat.{NoRepeat}
use Rattle.theory.proofs.Numbers.Power.{pow_dvd}
use Rattle.theory.proofs.Numbers.Prime.{divides_dvd}
use Rattle.theory.proofs.Numbers.Congruence.{Congruent, cong_refl, cong_trans, cong_of_eq, cong_dvd, dvd_cong}
use Rattle.theory.proofs.Range.{passing_sound, passing_no_repeat, passing_none}
use Rattle.theory.proofs.Polynomials.Arithmetic.{coef-stretch, coef_modulo}
use Rattle.theory.proofs.Polynomials.Congruence.{cong_coefficients, vanishes_same}
use Rattle.theory.proofs.Polynomials.Primitive.{coef-primitive, primitive-degree, scaled-zero, scaled-primitive}

pub digits_finished : (p : ℕ) (g : List ℕ) → all_zero g ≡ true → live_digits p g ≡ []
unfolding live_digits
digits_finished p g e = rw (e, live_digits)

pub digits_open : (p : ℕ) (g : List ℕ) → all_zero g ≡ false → live_digits p g ≡ passing (vanishes p (primitive p g)) p 0
unfolding live_digits
digits_open p g e = rw (e, live_digits)

pub digits_lt : (p : ℕ) (g : List ℕ) (c : ℕ) → In c (live_digits p g) → c < p
digits_lt p g c u = go (all_zero g) refl
  where
    go : (b : Bool) → all_zero g ≡ b → c < p
    go true z = absurd (in-nil (rw (digits_finished p g z) at u))
    go false z = omega (arith, (passing_sound (vanishes p (primitive p g)) p 0 c (rw (digits_open p g z) at u)).high)

pub digits_no_repeat : (p : ℕ) (g : List ℕ) → NoRepeat (live_digits p g)
digits_no_repeat p g = go (all_zero g) refl
  where
    go : (b : Bool) → all_zero g ≡ b → NoRepeat (live_digits p g)
    go true z = rw (digits_finished p g z) tt
    go false z = rw (digits_open p g z) (passing_no_repeat (vanishes p (primitive p g)) p 0)

-- a power of p that all coefficients are multiplied by changes nothing
pub scaled_digits : (p : ℕ) → 2 ≤ p → (v : ℕ) (F G : List ℕ) → ((i : ℕ) → coef F i ≡ p ^ v * coef G i) → live_digits p F ≡ live_digits p G
scaled_digits p two v F G times = go (all_zero G) refl
  where
    go : (b : Bool) → all_zero G ≡ b → live_digits p F ≡ live_digits p G
    go true z = digits_finished p F (scaled-zero p two v F G times ∙ z) ∙ sym (digits_finished p G z)
    go false z =
        digits_open p F (scaled-zero p two v F G times ∙ z)
        ∙ ap (λ (test : ℕ → Bool). passing test p 0)
        (vanishes_same (primitive p F) (primitive p G) (λ i. cong_of_eq (scaled-primitive p two v F G times z i)))
        ∙ sym (digits_open p G z)

-- At level n

module _ (p : ℕ) (two : 2 ≤ p) (f : List ℕ) (n : ℕ) (d : Class) (deep : n ≤ d.level) where
  abbrev F : List ℕ
  F = class_polynomial f p n d

  -- only the constant coefficient is left
  constant : (i : ℕ) → coef F (suc i) ≡ 0
  unfolding class_polynomial
  constant i =
      let q = p ^ d.level in
      let g = taylor d.residue f in
      coef_modulo (p ^ n) (shifted d.residue q f) (suc i)
      ∙ mod-eq-zero_of_dvd (p ^ n) (rw (coef-stretch q g (suc i), pow-succ' q i)
      (dvd_trans (p ^ n) (pow_dvd p deep) (dvd-mul_right_of_dvd q (dvd-mul_right q (q ^ i)) (coef g (suc i)))))

  constant-primitive : (i : ℕ) → p ∣ coef (primitive p F) (suc i)
  constant-primitive i = rw (coef-primitive p F (suc i), constant i, zero-div (p ^ least_valuation p F)) (dvd-zero p)

  -- so where it is not zero, p does not divide its quotient
  constant-lead : all_zero F ≡ false → ¬ (p ∣ coef (primitive p F) 0)
  constant-lead z v = (primitive-degree p two F z).lead (each (degree_bound p F))
    where
      each : (i : ℕ) → p ∣ coef (primitive p F) i
      each zero = v
      each (suc i) = constant-primitive i

  constant-value : (c : ℕ) → Congruent p (value (primitive p F) c) (coef (primitive p F) 0)
  unfolding value
  constant-value c =
      cong_trans
      (cong_coefficients (primitive p F) (coef (primitive p F) 0 ∷ []) c
      (elim [ zero ↦ cong_refl | suc i ↦ dvd_cong (constant-primitive i) ]))
      (cong_of_eq (omega arith))

  -- and there are no digits
  pub no-digits : live_digits p F ≡ []
  unfolding vanishes
  no-digits = go (all_zero F) refl
    where
      go : (b : Bool) → all_zero F ≡ b → live_digits p F ≡ []
      go true z = digits_finished p F z
      go false z =
          digits_open p F z
          ∙ passing_none (vanishes p (primitive p F)) p 0 (λ c l b.
          not_holding (vanishes p (primitive p F) c) (λ w.
          constant-lead z (cong_dvd (constant-value c) (divides_dvd p (value (primitive p F) c) w))))
