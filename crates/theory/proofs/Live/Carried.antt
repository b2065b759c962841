-- Live classes may be counted on the polynomials that a recursion carries, divided by powers of p on the way: a power of p that all
-- coefficients are multiplied by, the modulus included, does not change their number.
use mathlib.Core.Path.{◌≡◌, refl, sym, ap, ap₂, ◌∙◌, fun_ext}
use mathlib.Core.Bool.{Bool}
use mathlib.Core.List.{List, [], map}
use Prim.Native.Nat.{ℕ, zero, suc, ◌+◌, ◌*◌, ◌%◌, ◌^◌, ◌≤◌, ◌<◌, ◌∣◌}
use native.Mathlib.Omega.{arith}
use native.Mathlib.Nat.{zero-add, dvd-zero, zero-mod, pow-zero, pow-suc, mul-div_cancel', one-mul}
use lib.Pow.{pow-add}
use Rattle.theory.specs.Range.{passing}
use Rattle.theory.specs.Polynomial.{vanishes, divided}
use Rattle.theory.specs.Taylor.{scale, shifted}
use Rattle.theory.specs.Degree.{primitive}
use Rattle.theory.specs.Class.{Class, class}
use Rattle.theory.specs.Live.{class_polynomial, live_digits, child_at, sum_over, live_from, live_of}
use Rattle.theory.specs.inner.Polynomial.{coef}
use Rattle.theory.proofs.Numbers.Power.{pow_pos, base_dvd}
use Rattle.theory.proofs.Numbers.Congruence.{Congruent, cong_refl, cong_trans, cong_of_eq, cong_down, cong_dvd, mod_times}
use Rattle.theory.proofs.Polynomials.Arithmetic.{coef-scale, coef-divided, coef_modulo}
use Rattle.theory.proofs.Polynomials.Congruence.{SameModulo, same_residues, vanishes_same}
use Rattle.theory.proofs.Polynomials.Shifts.{shifted-shifted, shifted_none, shifted-scale, shifted_cong}
use Rattle.theory.proofs.Polynomials.Highest.{all_zero_intro, all_zero_fails}
use Rattle.theory.proofs.Polynomials.Primitive.{primitive-same}
use Rattle.theory.proofs.Live.Digits.{digits_finished, digits_open, scaled_digits}

-- f is p^v·g modulo pⁿ, n = v + e, coefficient by coefficient
record Carries (p n v e : ℕ) (f g : List ℕ) : Type 0 where
  sum : v + e ≡ n
  same : (i : ℕ) → Congruent (p ^ n) (coef f i) (p ^ v * coef g i)

module _ (p : ℕ) (two : 2 ≤ p) where
  hp : 0 < p
  hp = omega arith

  abbrev modulo : ℕ → List ℕ → List ℕ
  modulo e f = map (λ a. a % p ^ e) f

  -- so f modulo pⁿ is p^v times g modulo p^e
  carries-modulo : {n v e : ℕ} {f g : List ℕ} → Carries p n v e f g → (i : ℕ) → coef (modulo n f) i ≡ p ^ v * coef (modulo e g) i
  carries-modulo {n} {v} {e} {f} {g} K i =
      let q : p ^ n ≡ p ^ v * p ^ e = ap (λ (x : ℕ). p ^ x) (sym K.sum) ∙ pow-add p v e in
      coef_modulo (p ^ n) f i
      ∙ (K.same i).same
      ∙ ap (λ (x : ℕ). p ^ v * coef g i % x) q
      ∙ mod_times (p ^ v) (coef g i) (p ^ e) (pow_pos p hp v) (pow_pos p hp e)
      ∙ ap (λ (x : ℕ). p ^ v * x) (sym (coef_modulo (p ^ e) g i))

  carries-shifted : {n v e : ℕ} {f g : List ℕ} (c q : ℕ) → Carries p n v e f g → Carries p n v e (shifted c q f) (shifted c q g)
  carries-shifted {n} {v} {e} {f} {g} c q K =
      record {
        sum = K.sum;
        same = λ i.
            cong_trans
            (shifted_cong c q f (scale (p ^ v) g) (λ j. cong_trans (K.same j) (cong_of_eq (sym (coef-scale (p ^ v) g j)))) i)
            (cong_of_eq (shifted-scale c q (p ^ v) g i));
      }

  -- other polynomials with these coefficients
  carries-from : {n v e : ℕ} {f g f' g' : List ℕ} → ((i : ℕ) → coef f' i ≡ coef f i) → ((i : ℕ) → coef g i ≡ coef g' i)
      → Carries p n v e f g → Carries p n v e f' g'
  carries-from {v} a b K =
      record {
        sum = K.sum;
        same = λ i. cong_trans (cong_of_eq (a i)) (cong_trans (K.same i) (cong_of_eq (ap (λ (x : ℕ). p ^ v * x) (b i))));
      }

  -- The polynomial of a class, before it is reduced

  abbrev at : List ℕ → Class → List ℕ
  at f d = shifted d.residue (p ^ d.level) f

  at-child : (f : List ℕ) (d : Class) (c i : ℕ) → coef (at f (child_at p d c)) i ≡ coef (shifted c p (at f d)) i
  at-child f d c i =
      ap (λ (x : ℕ). coef (shifted (d.residue + p ^ d.level * c) x f) i) (pow-suc p d.level)
      ∙ sym (shifted-shifted d.residue (p ^ d.level) c p f i)

  at-everything : (f : List ℕ) (i : ℕ) → coef (at f (class 0 0)) i ≡ coef f i
  at-everything f i = ap (λ (x : ℕ). coef (shifted 0 x f) i) (pow-zero p) ∙ shifted_none f i

  -- without a power of p
  carries-none : (e : ℕ) (g h : List ℕ) → SameModulo (p ^ e) g h → Carries p e 0 e (at g (class 0 0)) h
  carries-none e g h s =
      record {
        sum = zero-add e;
        same = λ i.
            cong_trans (cong_of_eq (at-everything g i))
            (cong_trans (s i) (cong_of_eq (rw (pow-zero p) (sym (one-mul (coef h i))))));
      }

  -- Two classes, of two polynomials, whose own polynomials agree up to a power of p have as many live classes

  live_alike : {n v e : ℕ} (f g : List ℕ) (l : ℕ) (d d' : Class) → Carries p n v e (at f d) (at g d')
      → live_from f p n l d ≡ live_from g p e l d'
  unfolding live_from class_polynomial
  live_alike f g zero d d' K = refl
  live_alike {n} {v} {e} f g (suc l) d d' K =
      ap suc (ap₂ sum_over
      (fun_ext (λ c. live_alike f g l (child_at p d c) (child_at p d' c)
      (carries-from (at-child f d c) (λ i. sym (at-child g d' c i)) (carries-shifted c p K))))
      (scaled_digits p two v (modulo n (at f d)) (modulo e (at g d')) (carries-modulo K)))

  -- so the live classes of d are those of the polynomial g that is carried there, modulo p^e
  live-carried : {n v e : ℕ} (f g : List ℕ) (l : ℕ) (d : Class) → Carries p n v e (at f d) g → live_from f p n l d ≡ live_of g p e l
  live-carried f g l d K = live_alike f g l d (class 0 0) (carries-from (λ i. refl) (λ i. sym (at-everything g i)) K)

  -- coefficients congruent modulo p^e give the same number
  pub live_same : (e l : ℕ) (g h : List ℕ) → SameModulo (p ^ e) g h → live_of g p e l ≡ live_of h p e l
  live_same e l g h s = live-carried g h l (class 0 0) (carries-none e g h s)

  -- and so does a division of all coefficients by p^s
  pub live-divided : (e s e' l : ℕ) (g : List ℕ) → s + e' ≡ e → ((i : ℕ) → p ^ s ∣ coef g i)
      → live_of g p e l ≡ live_of (divided (p ^ s) g) p e' l
  live-divided e s e' l g q h =
      live-carried g (divided (p ^ s) g) l (class 0 0) (record {
        sum = q;
        same = λ i. cong_of_eq (at-everything g i ∙ sym (rw (coef-divided (p ^ s) g i) (mul-div_cancel' (p ^ s) (h i))));
      })

  -- at the last level, and where all coefficients are zero, there is one
  pub live-last : (e : ℕ) (g : List ℕ) → live_of g p e 0 ≡ 1
  unfolding live_from
  live-last e g = refl

  pub live-finished : (e l : ℕ) (g : List ℕ) → ((i : ℕ) → coef g i ≡ 0) → live_of g p e l ≡ 1
  unfolding live_from class_polynomial
  live-finished e zero g z = refl
  live-finished e (suc l) g z = ap suc (ap (sum_over (λ c. live_from g p e l (child_at p (class 0 0) c))) none)
    where
      none : live_digits p (class_polynomial g p e (class 0 0)) ≡ []
      none =
          digits_finished p (modulo e (at g (class 0 0)))
          (all_zero_intro (modulo e (at g (class 0 0)))
          (λ i u. coef_modulo (p ^ e) (at g (class 0 0)) i ∙ rw (at-everything g i, z i) (zero-mod (p ^ e))))

  -- where p does not divide all of h: 1, and the sum over the digits at which h vanishes modulo p
  pub live-scan : (e l : ℕ) (h : List ℕ) (j : ℕ) → 0 < e → ¬ (p ∣ coef h j)
      → live_of h p e (suc l) ≡ suc (sum_over (λ c. live_of (shifted c p h) p e l) (passing (vanishes p h) p 0))
  unfolding live_from class_polynomial
  live-scan e l h j pos none = ap suc (ap₂ sum_over (fun_ext child) digits)
    where
      H : List ℕ
      H = modulo e (at h (class 0 0))

      same : SameModulo p H h
      same i =
          cong_down (base_dvd p pos)
          (cong_trans (same_residues (p ^ e) (at h (class 0 0)) i) (cong_of_eq (at-everything h i)))

      stays : ¬ (p ∣ coef H j)
      stays d = none (cong_dvd (same j) d)

      digits : live_digits p H ≡ passing (vanishes p h) p 0
      digits =
          digits_open p H (all_zero_fails H j (λ z. stays (rw z (dvd-zero p))))
          ∙ ap (λ (test : ℕ → Bool). passing test p 0)
          (vanishes_same (primitive p H) h (λ i. cong_trans (cong_of_eq (primitive-same p two H j stays i)) (same i)))

      child : (c : ℕ) → live_from h p e l (child_at p (class 0 0) c) ≡ live_of (shifted c p h) p e l
      child c =
          live-carried h (shifted c p h) l (child_at p (class 0 0) c)
          (carries-from (at-child h (class 0 0) c) (λ i. refl) (carries-shifted c p (carries-none e h h (λ i. cong_refl))))
