-- s and D of 01: p^(s + 1) does not divide the coefficient of index D and divides all above it.
use mathlib.Core.Path.{◌≡◌, refl, sym, ap, subst}
use mathlib.Core.Logic.{◌⊎◌, inl, inr}
use mathlib.Core.Bool.{Bool, true, false, not}
use mathlib.Core.List.{List, [], ◌∷◌, map, foldr}
use Prim.Native.Nat.{ℕ, suc, ◌*◌, ◌/◌, ◌^◌, ◌≤◌, ◌<◌, ◌∣◌, min}
use native.Mathlib.Nat.{dvd-zero, dvd_trans, dvd_of_mul-dvd-mul_left, mul-dvd-mul_left, mul-div_cancel', eq-zero-or-pos, le_of_dvd, pow-suc}
use native.Mathlib.Nat.{pow-le-pow_right, pow-zero, zero-div}
use native.Mathlib.Decide.{dec_le}
use native.Mathlib.Omega.{arith}
use borrow.Author.Tests.{eq-eqb, eqb-true, eqb-false, not-true, not-false}
use lib.Dec.{eqb}
use lib.ListN.{length}
use Rattle.theory.specs.Lists.{In, here, there}
use Rattle.theory.specs.Prime.{divides}
use Rattle.theory.specs.Degree.{valuation, nonzero, minimum, least_valuation, some, highest, degree_bound, all_zero}
use Rattle.theory.proofs.Tests.{contradiction, not_holding}
use Rattle.theory.proofs.Lists.Names.{in-cons, in-nil}
use Rattle.theory.proofs.Lists.Map.{in_map, map_in}
use Rattle.theory.proofs.Lists.Minimum.{minimum-le, minimum_in, fold_minimum}
use Rattle.theory.proofs.Numbers.Power.{pow_dvd, pow_pos}
use Rattle.theory.proofs.Numbers.Prime.{divides_dvd, dvd_divides}
use Rattle.theory.proofs.Numbers.Valuation.{valuation-dvd, valuation-most}
use Rattle.theory.specs.inner.Polynomial.{coef, Degree}
use Rattle.theory.proofs.Polynomials.Highest.{some_in, every_in, coef_in, highest_passes, above_highest, highest-lt, not_all_zero}

-- The least valuation

nonzero_in : (f : List ℕ) (a : ℕ) → In a f → 0 < a → In a (nonzero f)
unfolding nonzero
nonzero_in (b ∷ f) a u h = go (λ w. nonzero_in f a w h) (eqb b 0) refl (in-cons u)
  where
    go : (In a f → In a (nonzero f)) → (t : Bool) → eqb b 0 ≡ t → (a ≡ b) ⊎ In a f → In a (nonzero (b ∷ f))
    go ih true q (inl e) = absurd (omega (arith, eqb-true b 0 q))
    go ih true q (inr w) = rw (q, nonzero) (ih w)
    go ih false q (inl e) = rw (q, nonzero) (here e)
    go ih false q (inr w) = rw (q, nonzero) (there (ih w))
nonzero_in [] a u h = elim u [ ]

in_nonzero : (f : List ℕ) (a : ℕ) → In a (nonzero f) → In a f × (0 < a)
unfolding nonzero
in_nonzero [] a u = absurd (in-nil u)
in_nonzero (b ∷ f) a u = go (in_nonzero f a) (eqb b 0) refl
  where
    up : In a f × (0 < a) → In a (b ∷ f) × (0 < a)
    up w = (there w.0, w.1)

    go : (In a (nonzero f) → In a f × (0 < a)) → (t : Bool) → eqb b 0 ≡ t → In a (b ∷ f) × (0 < a)
    go ih true q = up (ih (rw (q, nonzero) at u))
    go ih false q = pick (in-cons (rw (q, nonzero) at u))
      where
        positive : (b ≡ 0 → ⊥) → 0 < b
        positive h = omega arith

        pick : (a ≡ b) ⊎ In a (nonzero f) → In a (b ∷ f) × (0 < a)
        pick (inl e) = (here e, rw e (positive (eqb-false b 0 q)))
        pick (inr w) = up (ih w)

-- where all coefficients are zero, s is 0
no_nonzero : (f : List ℕ) → ((a : ℕ) → In a f → a ≡ 0) → nonzero f ≡ []
unfolding nonzero
no_nonzero [] h = refl
no_nonzero (a ∷ f) h = rw (eq-eqb a 0 (h a (here refl)), nonzero) (no_nonzero f (λ b u. h b (there u)))

pub common_power_none : (p : ℕ) (f : List ℕ) → all_zero f ≡ true → p ^ least_valuation p f ≡ 1
unfolding least_valuation minimum all_zero
common_power_none p f z =
    rw (no_nonzero f (λ a u. eqb-true a 0 (every_in (λ x. eqb x 0) f z a u)), minimum) (pow-zero p)

module _ (p : ℕ) (two : 2 ≤ p) (f : List ℕ) where
  pub least-valuation-le : (a : ℕ) → In a f → 0 < a → least_valuation p f ≤ valuation p a
  unfolding least_valuation
  least-valuation-le a u h =
      minimum-le (map (valuation p) (nonzero f)) (valuation p a) (map_in (valuation p) (nonzero f) a (nonzero_in f a u h))

  -- p^s divides every coefficient
  pub least-valuation-dvd : (i : ℕ) → p ^ least_valuation p f ∣ coef f i
  least-valuation-dvd i = go (eq-zero-or-pos (coef f i)) (coef_in f i)
    where
      go : (coef f i ≡ 0) ⊎ (0 < coef f i) → (coef f i ≡ 0) ⊎ In (coef f i) f → p ^ least_valuation p f ∣ coef f i
      go (inl e) w = rw e (dvd-zero (p ^ least_valuation p f))
      go (inr h) (inl e) = rw e (dvd-zero (p ^ least_valuation p f))
      go (inr h) (inr u) =
          let a = coef f i in
          let l = least-valuation-le a u h in
          dvd_trans (p ^ least_valuation p f) (pow_dvd p l) (valuation-dvd p two a)

  -- divided by p^s it is a multiple of p exactly if p^(s + 1) divides it
  multiple-dvd : (i : ℕ) → divides p (coef f i / p ^ least_valuation p f) ≡ true → p ^ suc (least_valuation p f) ∣ coef f i
  multiple-dvd i e =
      let q = p ^ least_valuation p f in
      rw (pow-suc p (least_valuation p f))
      (subst (λ (x : ℕ). q * p ∣ x) (mul-div_cancel' q (least-valuation-dvd i)) (mul-dvd-mul_left p q (divides_dvd p (coef f i / q) e)))

  dvd-multiple : (i : ℕ) → p ^ suc (least_valuation p f) ∣ coef f i → divides p (coef f i / p ^ least_valuation p f) ≡ true
  dvd-multiple i d =
      let q = p ^ least_valuation p f in
      let hq : 0 < q = pow_pos p (omega arith) (least_valuation p f) in
      let v : q * p ∣ q * (coef f i / q) = rw (mul-div_cancel' q (least-valuation-dvd i)) (rw (pow-suc p (least_valuation p f)) at d) in
      dvd_divides p (coef f i / q) (dvd_of_mul-dvd-mul_left p hq v)

  module _ (some_left : all_zero f ≡ false) where
    -- s is attained
    pub attained : (a : ℕ) × In a f × (0 < a) × (valuation p a ≡ least_valuation p f)
    unfolding least_valuation
    attained =
        let (b, u, h) = not_all_zero f some_left in
        let m = minimum_in (map (valuation p) (nonzero f)) (valuation p b) (map_in (valuation p) (nonzero f) b (nonzero_in f b u h)) in
        let (a, v, e) = in_map (valuation p) (nonzero f) (least_valuation p f) m in
        let w = in_nonzero f a v in
        (a, w.0, w.1, sym e)

    -- s is what the valuations lower a bound to that is not below s
    pub least-valuation-fold : (b : ℕ) → least_valuation p f ≤ b → foldr min b (map (valuation p) (nonzero f)) ≡ least_valuation p f
    unfolding least_valuation
    least-valuation-fold b h =
        let (a, u, k) = not_all_zero f some_left in
        fold_minimum b (map (valuation p) (nonzero f)) (valuation p a) (map_in (valuation p) (nonzero f) a (nonzero_in f a u k)) h

    abbrev pub test : ℕ → Bool
    test a = not (divides p (a / p ^ least_valuation p f))

    -- p^(s + 1) does not divide the coefficient at which s is attained
    pub some-passes : some test f ≡ true
    some-passes =
        let (a, u, h, e) = attained in
        let q = p ^ least_valuation p f in
        let cancel : q * (a / q) ≡ a = mul-div_cancel' q (subst (λ (t : ℕ). p ^ t ∣ a) e (valuation-dvd p two a)) in
        some_in test f a u (ap not (not_holding (divides p (a / q)) (λ d.
        valuation-most p two a h (subst (λ (t : ℕ). p ^ suc t ∣ a) (sym e)
        (rw (pow-suc p (least_valuation p f)) (subst (λ (x : ℕ). q * p ∣ x) cancel (mul-dvd-mul_left p q (divides_dvd p (a / q) d))))))))

    -- "D is the highest index whose coefficient, divided by p^s, is not a multiple of p"
    pub degree-bound-degree : Degree (p ^ suc (least_valuation p f)) f (degree_bound p f)
    unfolding degree_bound
    degree-bound-degree =
        record {
          lead = λ d.
              contradiction (dvd-multiple (highest test f) d)
              (not-true (divides p (coef f (highest test f) / p ^ least_valuation p f)) (highest_passes test f some-passes));
          above = λ i l.
              multiple-dvd i (not-false (divides p (coef f i / p ^ least_valuation p f)) (above_highest test f zero-fails i l));
        }
      where
        zero-fails : test 0 ≡ false
        zero-fails = rw (zero-div (p ^ least_valuation p f), dvd_divides p 0 (dvd-zero p))

    pub degree-bound-lt : degree_bound p f < length f
    unfolding degree_bound
    degree-bound-lt = highest-lt test f some-passes

    -- and no other degree modulo a power of p is lower
    pub degree-bound-least : (k d : ℕ) → Degree (p ^ suc k) f d → degree_bound p f ≤ d
    degree-bound-least k d E = go (dec_le (degree_bound p f) d)
      where
        s : ℕ
        s = least_valuation p f

        -- as p^s divides all coefficients, k is not below s
        low : Dec (suc k ≤ s) → s < suc k
        low (yes l) = absurd (E.lead (dvd_trans (p ^ suc k) (pow_dvd p l) (least-valuation-dvd d)))
        low (no l) = omega arith

        go : Dec (degree_bound p f ≤ d) → degree_bound p f ≤ d
        go (yes l) = l
        go (no l) =
            absurd (degree-bound-degree.lead
            (dvd_trans (p ^ suc s) (pow_dvd p (low (dec_le (suc k) s))) (E.above (degree_bound p f) (omega arith))))

    -- p^s is no larger than the coefficient at which s is attained
    pub common-power-lt : (b : ℕ) → ((a : ℕ) → In a f → a < b) → p ^ least_valuation p f < b
    common-power-lt b h =
        let (a, u, w, e) = attained in
        omega (arith, h a u, le_of_dvd w (subst (λ (t : ℕ). p ^ t ∣ a) e (valuation-dvd p two a)))

    -- where the coefficients are below p^n, s is below n
    pub least-valuation-lt : (n : ℕ) → ((a : ℕ) → In a f → a < p ^ n) → least_valuation p f < n
    least-valuation-lt n h = go (dec_le n (least_valuation p f))
      where
        go : Dec (n ≤ least_valuation p f) → least_valuation p f < n
        go (no l) = omega arith
        go (yes l) = absurd (omega (arith, common-power-lt (p ^ n) h, pow-le-pow_right {n = p} (omega arith) l))
