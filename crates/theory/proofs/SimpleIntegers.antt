-- s and the simple digits, told by the coefficients of f as they were given: p^s is the largest power of p that divides them all, and c is
-- simple exactly if p^(s + 1) divides f(c) and not f'(c).
use mathlib.Core.Path.{◌≡◌, sym, subst₂}
use mathlib.Core.Logic.{◌⊎◌, inl, inr, ◌↔◌}
use mathlib.Core.Bool.{true, false}
use mathlib.Core.List.{List, map}
use Prim.Native.Nat.{ℕ, suc, ◌*◌, ◌^◌, ◌≤◌, ◌<◌, ◌∣◌}
use native.Mathlib.Nat.{pow-suc, dvd-zero, dvd_trans, mul-dvd-mul_left, dvd_of_mul-dvd-mul_left}
use native.Mathlib.Decide.{dec_lt}
use native.Mathlib.Omega.{arith}
use lib.IntN.{ℤ}
use Rattle.theory.specs.Lists.{In}
use Rattle.theory.specs.Prime.{Prime}
use Rattle.theory.specs.Polynomial.{reduce, reduced, value, vanishes, derivative, valueℤ, derivativeℤ, Multiple}
use Rattle.theory.specs.Degree.{least_valuation, degree_bound, all_zero, primitive}
use Rattle.theory.specs.Simple.{content_valuation, primitive_part, SimpleDigit, Contentℤ, SimpleDigitℤ}
use Rattle.theory.specs.inner.Polynomial.{coef}
use Rattle.theory.proofs.Tests.{contradiction, not_holding}
use Rattle.theory.proofs.Lists.Index.{index_of}
use Rattle.theory.proofs.Lists.Map.{in_map, map_in}
use Rattle.theory.proofs.Numbers.Power.{pow_pos, pow_dvd}
use Rattle.theory.proofs.Numbers.Prime.{prime_pos, divides_dvd, dvd_divides}
use Rattle.theory.proofs.Numbers.Congruence.{cong_refl}
use Rattle.theory.proofs.Numbers.Reduction.{multiple_dvd}
use Rattle.theory.proofs.Polynomials.Congruence.{SameModulo}
use Rattle.theory.proofs.Polynomials.Degree.{least-valuation-dvd, degree-bound-degree}
use Rattle.theory.proofs.Polynomials.Primitive.{value-primitive, derivative-primitive}
use Rattle.theory.proofs.Polynomials.Highest.{coef_in, all_zero-coef}
use Rattle.theory.proofs.Polynomials.Roots.{content-below}
use Rattle.theory.proofs.Polynomials.Signed.{derivative-same, value-multiple}
use Rattle.theory.proofs.Simple.{simple-intro, simple-elim}

module _ (f : List ℤ) (p n : ℕ) (P : Prime p) where
  hp : 0 < p
  hp = prime_pos P

  hm : 0 < p ^ n
  hm = pow_pos p hp n

  abbrev w : List ℕ
  w = reduced f p n

  -- p^t divides the coefficients exactly if it divides them reduced, t up to n
  multiples : (t : ℕ) → t ≤ n → ((a : ℤ) → In a f → Multiple (p ^ t) a) ↔ ((i : ℕ) → p ^ t ∣ coef w i)
  unfolding reduced
  multiples t h = (to, fro)
    where
      told : (a : ℤ) → Multiple (p ^ t) a ↔ (p ^ t ∣ reduce (p ^ n) a)
      told = multiple_dvd (p ^ t) (p ^ n) (pow_pos p hp t) hm (pow_dvd p h)

      to : ((a : ℤ) → In a f → Multiple (p ^ t) a) → (i : ℕ) → p ^ t ∣ coef w i
      to all i = go (coef_in w i)
        where
          go : (coef w i ≡ 0) ⊎ In (coef w i) w → p ^ t ∣ coef w i
          go (inl z) = rw z (dvd-zero (p ^ t))
          go (inr u) = let (a, v, e) = in_map (reduce (p ^ n)) f (coef w i) u in rw e ((told a).0 (all a v))

      fro : ((i : ℕ) → p ^ t ∣ coef w i) → (a : ℤ) → In a f → Multiple (p ^ t) a
      fro all a u =
          let (i, l, e) = index_of w 0 (reduce (p ^ n) a) (map_in (reduce (p ^ n)) f a u) in
          (told a).1 (rw e (all i))

  -- where pⁿ does not divide all of them, p^s is the largest power that does
  pub content-integers : all_zero w ≡ false → Contentℤ f p (content_valuation f p n)
  unfolding content_valuation
  content-integers left =
      let below = content-below f p n P left in
      record {
        common = (multiples (least_valuation p w) (omega arith)).1 (least-valuation-dvd p P.two w);
        largest = λ all.
            (degree-bound-degree p P.two w left).lead ((multiples (suc (least_valuation p w)) below).0 all (degree_bound p w));
      }

  -- a power that divides them all divides them all with a lower exponent
  lower : (t u : ℕ) → t < u → u ≤ n → ((a : ℤ) → In a f → Multiple (p ^ u) a) → (a : ℤ) → In a f → Multiple (p ^ suc t) a
  lower t u l h all =
      (multiples (suc t) (omega arith)).1 (λ i. dvd_trans (p ^ suc t) (pow_dvd p {t = suc t} {n = u} l) ((multiples u h).0 all i))

  -- no other exponent below n has this
  pub content-only : (s : ℕ) → s < n → Contentℤ f p s → (all_zero w ≡ false) × (content_valuation f p n ≡ s)
  unfolding content_valuation
  content-only s low C = (left, go (dec_lt s t) (dec_lt t s))
    where
      left : all_zero w ≡ false
      left =
          not_holding (all_zero w) (λ z.
          C.largest ((multiples (suc s) low).1 (λ i. rw (all_zero-coef w z i) (dvd-zero (p ^ suc s)))))

      t : ℕ
      t = least_valuation p w

      T : Contentℤ f p (content_valuation f p n)
      T = content-integers left

      go : Dec (s < t) → Dec (t < s) → t ≡ s
      go (yes l) u = absurd (C.largest (lower s t l (omega (arith, content-below f p n P left)) T.common))
      go (no l) (yes u) = absurd (T.largest (lower t s u (omega arith) C.common))
      go (no l) (no u) = omega arith

  -- p^(s + 1) divides a value of f exactly if p divides that of g, and likewise for the derivatives
  module _ (left : all_zero w ≡ false) (c : ℕ) where
    abbrev s : ℕ
    s = least_valuation p (reduced f p n)

    abbrev g : List ℕ
    g = primitive p (reduced f p n)

    told : (F : List ℤ) (h k : List ℕ) → SameModulo (p ^ n) (map (reduce (p ^ n)) F) h → value h c ≡ p ^ s * value k c
        → Multiple (p ^ suc s) (valueℤ F c) ↔ (vanishes p k c ≡ true)
    unfolding vanishes
    told F h k same times =
        let x = value k c in
        let q = value-multiple (p ^ n) hm (p ^ suc s) (pow_pos p hp (suc s)) (pow_dvd p (content-below f p n P left)) F h same c in (
          (λ m.
              dvd_divides p x
              (dvd_of_mul-dvd-mul_left p (pow_pos p hp s) (subst₂ (λ (a b : ℕ). a ∣ b) (pow-suc p s) times (q.0 m)))),
          (λ e. q.1 (subst₂ (λ (a b : ℕ). a ∣ b) (sym (pow-suc p s)) (sym times) (mul-dvd-mul_left p (p ^ s) (divides_dvd p x e)))),
        )

    pub value-told : Multiple (p ^ suc s) (valueℤ f c) ↔ (vanishes p g c ≡ true)
    unfolding reduced
    value-told = told f w g (λ i. cong_refl) (value-primitive p P.two w c)

    pub derivative-told : Multiple (p ^ suc s) (valueℤ (derivativeℤ f) c) ↔ (vanishes p (derivative g) c ≡ true)
    unfolding reduced
    derivative-told =
        told (derivativeℤ f) (derivative w) (derivative g) (derivative-same (p ^ n) hm f)
        (derivative-primitive p P.two w c)

    -- a digit is simple exactly if p^(s + 1) divides f(c) and not f'(c)
    pub simple-digit-integers : c < p → SimpleDigit f p n c ↔ SimpleDigitℤ f p (content_valuation f p n) c
    unfolding content_valuation primitive_part
    simple-digit-integers l = (
      (λ D.
          let (z, d) = simple-elim p g c D.simple in
          record { zero = value-told.1 z; simple = λ k. contradiction (derivative-told.0 k) d }),
      (λ I.
          record {
            digit = l;
            simple =
                simple-intro p g c (value-told.0 I.zero)
                (not_holding (vanishes p (derivative g) c) (λ e. I.simple (derivative-told.1 e)));
          }),
    )
