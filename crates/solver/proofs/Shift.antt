-- The Taylor shift modulo m, coefficient by coefficient.
use mathlib.Core.Path.{◌≡◌, sym, ap, ◌∙◌}
use mathlib.Core.List.{List, ◌∷◌}
use Prim.Native.Nat.{ℕ, zero, suc, ◌+◌, ◌*◌, ◌%◌, ◌^◌, ◌≤◌, ◌<◌, ◌∣◌, min}
use native.Mathlib.Decide.{dec_lt, dec_le}
use native.Mathlib.Nat.{dvd_trans, dvd-zero, dvd-mul_right_of_dvd, mul-zero}
use native.Mathlib.Omega.{arith}
use lib.ListN.{length}
use Rattle.theory.specs.Taylor.{taylor, shifted}
use Rattle.theory.specs.inner.Polynomial.{coef}
use Rattle.theory.specs.inner.Overwritten.{Overwritten}
use Rattle.theory.proofs.Numbers.Power.{pow_dvd, dvd_pow}
use Rattle.theory.proofs.Numbers.Congruence.{Congruent, cong_refl, cong_add, cong_mul}
use Rattle.theory.proofs.Polynomials.Arithmetic.{coef-stretch}
use Rattle.theory.proofs.Polynomials.Taylor.{coef-taylor, taylor_beyond}
use Rattle.solver.specs.inner.Table.{Residues}
use Rattle.solver.proofs.Tables.{residues_cong}

-- one step of Horner's rule, from h(c + y) to a + (c + y)·h(c + y): past the first entries, all are 0 before and after
pub taylor-step : {m top : ℕ} {g r : List ℕ} (a c : ℕ) (f : List ℕ) → Residues m g (taylor c f) → top ≡ min (length g) (length f + 1)
    → Overwritten (λ i. (coef (a ∷ g) i + c * coef g i) % m) 0 top g r → Residues m r (taylor c (a ∷ f))
taylor-step {m} {top} {g} {r} a c f old n w = record { at = λ i h. entry i (omega (arith, w.long)) (dec_lt i top) }
  where
    before : (i : ℕ) → i < length g → Congruent m (coef (a ∷ g) i) (coef (a ∷ taylor c f) i)
    before zero h = cong_refl
    before (suc i) h = residues_cong old i (omega arith)

    entry : (i : ℕ) → i < length g → Dec (i < top) → coef r i ≡ coef (taylor c (a ∷ f)) i % m
    entry i h (yes l) =
        w.inside i (omega arith) l
        ∙ rw (coef-taylor c a f i) (cong_add (before i h) (cong_mul (cong_refl {x = c}) (residues_cong old i h))).same
    entry i h (no l) =
        w.above i (omega arith) ∙ old.at i h
        ∙ ap (λ (x : ℕ). x % m) (taylor_beyond c f i (omega arith) ∙ sym (taylor_beyond c (a ∷ f) i (omega arith)))

-- from h(c + y) to h(c + p·y)
pub stretch-step : {m : ℕ} {g r : List ℕ} (c p : ℕ) (f : List ℕ) → Residues m g (taylor c f)
    → Overwritten (λ i. p ^ i * coef g i % m) 0 (length g) g r → Residues m r (shifted c p f)
stretch-step {m} {g} {r} c p f old w = record { at = λ i h. entry i (omega (arith, w.long)) }
  where
    entry : (i : ℕ) → i < length g → coef r i ≡ coef (shifted c p f) i % m
    entry i h =
        w.inside i (omega arith) h
        ∙ rw (coef-stretch p (taylor c f) i) (cong_mul (cong_refl {x = p ^ i}) (residues_cong old i h)).same

-- The coefficients of f(a + q·y) past the first vanish: any m divides those past f's last

pub shifted_end : (m a q : ℕ) (f : List ℕ) (i : ℕ) → length f ≤ i → m ∣ coef (shifted a q f) i
shifted_end m a q f i h =
    let none : coef (shifted a q f) i ≡ 0 =
    coef-stretch q (taylor a f) i ∙ ap (λ (x : ℕ). q ^ i * x) (taylor_beyond a f i h) ∙ mul-zero (q ^ i) in
    rw none (dvd-zero m)

-- and p^e those from index e on, where p divides q
pub shifted_beyond : (p e a q : ℕ) (f : List ℕ) → p ∣ q → (i : ℕ) → min e (length f) ≤ i → p ^ e ∣ coef (shifted a q f) i
shifted_beyond p e a q f d i h = go (dec_le e i)
  where
    go : Dec (e ≤ i) → p ^ e ∣ coef (shifted a q f) i
    go (yes u) =
        rw (coef-stretch q (taylor a f) i)
        (dvd-mul_right_of_dvd (p ^ e) (dvd_trans (p ^ e) (pow_dvd p u) (dvd_pow p q i d)) (coef (taylor a f) i))
    go (no u) = shifted_end (p ^ e) a q f i (omega arith)
