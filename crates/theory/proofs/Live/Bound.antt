-- "never above 1 + n × D; it is 1 if all coefficients reduce to zero" (02, 2.8).
use mathlib.Core.Path.{◌≡◌, refl, ◌∙◌}
use mathlib.Core.Logic.{◌⊎◌, inl, inr}
use mathlib.Core.Bool.{Bool, true, false}
use mathlib.Core.List.{List, [], map}
use Prim.Native.Nat.{ℕ, zero, suc, ◌+◌, ◌-◌, ◌*◌, ◌/◌, ◌%◌, ◌^◌, ◌≤◌, ◌<◌, ◌∣◌}
use native.Mathlib.Omega.{arith}
use native.Mathlib.Nat.{dvd_trans, dvd-zero, div-add-mod', mod-lt, div-lt_iff_lt-mul, mul-le-mul_left}
use native.Mathlib.Nat.{pow-zero, one-dvd, mod-eq-zero_of_dvd}
use native.Mathlib.Decide.{dec_le, dec_lt}
use lib.IntN.{ℤ}
use Rattle.theory.specs.Prime.{Prime}
use Rattle.theory.specs.Polynomial.{vanishes, reduced}
use Rattle.theory.specs.Taylor.{taylor, shifted}
use Rattle.theory.specs.Degree.{least_valuation, degree_bound, all_zero, primitive}
use Rattle.theory.specs.Live.{live_of, live}
use Rattle.theory.specs.inner.Polynomial.{coef, Degree}
use Rattle.theory.proofs.Lists.Map.{in_map}
use Rattle.theory.proofs.Numbers.Power.{pow_pos, pow_dvd}
use Rattle.theory.proofs.Numbers.Prime.{prime_pos}
use Rattle.theory.proofs.Numbers.Congruence.{cong_sym, cong_down, dvd_cong}
use Rattle.theory.proofs.Polynomials.Arithmetic.{coef_modulo}
use Rattle.theory.proofs.Polynomials.Congruence.{SameModulo, same_residues, degree_same}
use Rattle.theory.proofs.Polynomials.Highest.{all_zero-coef}
use Rattle.theory.proofs.Polynomials.Degree.{least-valuation-dvd, degree-bound-degree, degree-bound-least, least-valuation-lt}
use Rattle.theory.proofs.Polynomials.Orders.{orders-at-most-degree, zeros_at_most}
use Rattle.theory.proofs.Polynomials.Bound.{degree?, degree-shifted}
use Rattle.theory.proofs.Polynomials.Primitive.{primitive-degree}
use Rattle.theory.proofs.Sums.{sum_from, where_passes, sum_over-passing}
use Rattle.theory.proofs.Live.Carried.{live-last, live-finished, live_same, live-divided, live-scan}

-- x / (l + 1), rounded up
portion : ℕ → ℕ → ℕ
portion l x = (x + l) / suc l

portion_up : (l x : ℕ) → x ≤ suc l * portion l x
unfolding portion
portion_up l x = omega (arith, div-add-mod' (x + l) (suc l), mod-lt (x + l) {m = suc l} (omega arith))

portion_down : (l x m : ℕ) → x ≤ suc l * m → portion l x ≤ m
unfolding portion
portion_down l x m h =
    let w : (x + l) / suc l < suc m = (div-lt_iff_lt-mul {k = suc l} (omega arith)).1 (omega (arith, h)) in
    omega (arith, w)

portion_sum : (l : ℕ) (f : ℕ → ℕ) (k c : ℕ) → sum_from f c k ≤ suc l * sum_from (λ x. portion l (f x)) c k
unfolding sum_from
portion_sum l f zero c = omega arith
portion_sum l f (suc k) c = omega (arith, portion_up l (f c), portion_sum l f k (suc c))

module _ (p : ℕ) (P : Prime p) where
  hp : 0 < p
  hp = prime_pos P

  -- at most 1 and `levels` times the degree modulo any power of p
  abbrev Bound : ℕ → Type 0
  Bound levels = (k e : ℕ) (g : List ℕ) (d : ℕ) → Degree (p ^ suc k) g d → live_of g p e levels ≤ 1 + levels * d

  -- One level of a polynomial that p does not divide

  module _ (l : ℕ) (ih : Bound l) (e : ℕ) (h : List ℕ) (d : ℕ) (D : Degree p h d) (pos : 0 < e) where
    -- the live classes below the digit c
    below : ℕ → ℕ
    below c = where_passes (vanishes p h c) (live_of (shifted c p h) p e l)

    -- are at most l + 1 times the order of h there
    below-order : (c i : ℕ) → ¬ (p ∣ coef (taylor c h) i) → below c ≤ suc l * i
    unfolding below
    below-order c i w =
        zeros_at_most p h c (live_of (shifted c p h) p e l) (suc l)
        (λ j u. omega (arith, ih (suc j) e (shifted c p h) (suc j) (degree-shifted p P h c (suc j) u))) i w

    scan-bound : live_of h p e (suc l) ≤ 1 + suc l * d
    unfolding below
    scan-bound =
        let orders : sum_from (λ c. portion l (below c)) 0 p ≤ d =
        orders-at-most-degree p P (λ c. portion l (below c)) d h D (λ c u i w. portion_down l (below c) i (below-order c i w)) in
        omega (
          arith,
          live-scan p P.two e l h d pos D.lead,
          sum_over-passing (vanishes p h) (λ c. live_of (shifted c p h) p e l) p 0,
          portion_sum l below p 0,
          mul-le-mul_left (suc l) orders,
        )

  -- One level of any: by its primitive part modulo p^e

  module _ (k e : ℕ) (g : List ℕ) (d : ℕ) (D : Degree (p ^ suc k) g d) where
    R : List ℕ
    R = map (λ a. a % p ^ e) g

    same : SameModulo (p ^ e) R g
    unfolding R
    same = same_residues (p ^ e) g

    degree-le : all_zero R ≡ false → degree_bound p R ≤ d
    unfolding R
    degree-le z = go (dec_le (suc k) e) (dec_le (degree_bound p R) d)
      where
        -- above d nothing is left where p^e divides p^(k + 1)
        none : e ≤ k → (i : ℕ) → d < i → coef R i ≡ 0
        none l i u =
            coef_modulo (p ^ e) g i
            ∙ mod-eq-zero_of_dvd (p ^ e) (dvd_trans (p ^ e) (pow_dvd p {n = suc k} (omega arith)) (D.above i u))

        go : Dec (suc k ≤ e) → Dec (degree_bound p R ≤ d) → degree_bound p R ≤ d
        go l (yes u) = u
        go (yes l) (no u) = degree-bound-least p P.two R z k d (degree_same (λ i. cong_down (pow_dvd p l) (same i)) D)
        go (no l) (no u) =
            absurd ((degree-bound-degree p P.two R z).lead
            (rw (none (omega arith) (degree_bound p R) (omega arith)) (dvd-zero (p ^ suc (least_valuation p R)))))

    some-bound : (l : ℕ) → Bound l → all_zero R ≡ false → live_of R p e (suc l) ≤ 1 + suc l * d
    unfolding R primitive
    some-bound l ih z =
        let s = least_valuation p R in
        let lt : s < e = least-valuation-lt p P.two R z e (λ a u.
        let (b, v, q) = in_map (λ x. x % p ^ e) g a u in rw q (mod-lt b (pow_pos p hp e))) in
        omega (
          arith,
          live-divided p P.two e s (e - s) (suc l) R (omega arith) (least-valuation-dvd p P.two R),
          scan-bound l ih (e - s) (primitive p R) (degree_bound p R) (primitive-degree p P.two R z) (omega arith),
          mul-le-mul_left (suc l) (degree-le z),
        )

    step-bound : (l : ℕ) → Bound l → live_of g p e (suc l) ≤ 1 + suc l * d
    step-bound l ih = go (all_zero R) refl
      where
        alike : live_of g p e (suc l) ≡ live_of R p e (suc l)
        alike = live_same p P.two e (suc l) g R (λ i. cong_sym (same i))

        go : (b : Bool) → all_zero R ≡ b → live_of g p e (suc l) ≤ 1 + suc l * d
        go true z = omega (arith, alike, live-finished p P.two e (suc l) R (all_zero-coef R z))
        go false z = omega (arith, alike, some-bound l ih z)

  bound : (levels : ℕ) → Bound levels
  bound zero = λ k e g d D. omega (arith, live-last p P.two e g)
  bound (suc l) = λ k e g d D. step-bound k e g d D l (bound l)

  -- where p^e divides all coefficients there is one
  live-none : (e levels : ℕ) (g : List ℕ) → ((i : ℕ) → p ^ e ∣ coef g i) → live_of g p e levels ≡ 1
  live-none e levels g all =
      live_same p P.two e levels g [] (λ i. dvd_cong (all i)) ∙ live-finished p P.two e levels [] (λ i. refl)

  -- by the last index whose coefficient may be other than 0
  pub live-few : (e levels k : ℕ) (g : List ℕ) → ((i : ℕ) → k < i → coef g i ≡ 0) → live_of g p e levels ≤ 1 + levels * k
  live-few e levels k g short = go (degree? (p ^ e) g) e refl
    where
      index : (d : ℕ) → Degree (p ^ e) g d → Dec (k < d) → d ≤ k
      index d D (no u) = omega arith
      index d D (yes u) = absurd (D.lead (rw (short d u) (dvd-zero (p ^ e))))

      go : ((i : ℕ) → p ^ e ∣ coef g i) ⊎ ((d : ℕ) × Degree (p ^ e) g d) → (x : ℕ) → x ≡ e → live_of g p e levels ≤ 1 + levels * k
      go (inl all) x q = omega (arith, live-none e levels g all)
      go (inr (d, D)) zero q = absurd (D.lead (rw (← q, pow-zero p) (one-dvd (coef g d))))
      go (inr (d, D)) (suc x) q = omega (arith, bound levels x e g d (rw (← q) at D), mul-le-mul_left levels (index d D (dec_lt k d)))

-- "it is 1 if all coefficients reduce to zero"
pub live-all_zero : (f : List ℤ) (p n : ℕ) → 2 ≤ p → all_zero (reduced f p n) ≡ true → live f p n ≡ 1
unfolding live
live-all_zero f p n two z = live-finished p two n n (reduced f p n) (all_zero-coef (reduced f p n) z)

-- "never above 1 + n × D"
pub live_most : (f : List ℤ) (p n : ℕ) → Prime p → live f p n ≤ 1 + n * degree_bound p (reduced f p n)
unfolding live
live_most f p n P = go (all_zero (reduced f p n)) refl
  where
    w : List ℕ
    w = reduced f p n

    go : (b : Bool) → all_zero w ≡ b → live f p n ≤ 1 + n * degree_bound p w
    go true z = omega (arith, live-all_zero f p n P.two z)
    go false z = bound p P n (least_valuation p w) n w (degree_bound p w) (degree-bound-degree p P.two w z)
