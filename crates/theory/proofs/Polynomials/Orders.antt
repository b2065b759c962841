-- The orders of a polynomial at the p digits: together at most its degree modulo p.
use mathlib.Core.Path.{refl, ◌≡◌}
use mathlib.Core.Bool.{Bool, true, false}
use mathlib.Core.List.{List}
use Prim.Native.Nat.{ℕ, zero, suc, pred, ◌+◌, ◌-◌, ◌*◌, ◌≤◌, ◌<◌, ◌∣◌}
use native.Mathlib.Nat.{dvd-add_iff_right, add-zero}
use native.Mathlib.Decide.{dec_dvd}
use native.Mathlib.Omega.{arith}
use Rattle.theory.specs.Polynomial.{value, vanishes}
use Rattle.theory.specs.Prime.{Prime}
use Rattle.theory.proofs.Numbers.Prime.{divides_dvd}
use Rattle.theory.proofs.Numbers.Euclid.{digit_times}
use Rattle.theory.proofs.Sums.{sum_from, where_passes}
use Rattle.theory.proofs.Polynomials.Taylor.{taylor_constant}
use Rattle.theory.specs.Taylor.{taylor}
use Rattle.theory.specs.inner.Polynomial.{coef, Degree}
use Rattle.theory.proofs.Polynomials.Quotient.{quotient, quotient_zero, quotient-suc, quotient_degree, constant_no_zero}

-- n is at most the index of each coefficient of f that p does not divide, so at most the order of f modulo p
abbrev pub AtMostOrder : ℕ → ℕ → List ℕ → Type 0
AtMostOrder p n f = (i : ℕ) → ¬ (p ∣ coef f i) → n ≤ i

-- what is counted at a zero alone is at most m times each such index, if it is so for the indices above 0
pub zeros_at_most : (p : ℕ) (f : List ℕ) (c x m : ℕ) → ((j : ℕ) → ¬ (p ∣ coef (taylor c f) (suc j)) → x ≤ m * suc j)
    → (i : ℕ) → ¬ (p ∣ coef (taylor c f) i) → where_passes (vanishes p f c) x ≤ m * i
unfolding where_passes vanishes
zeros_at_most p f c x m above i h = go (vanishes p f c) refl i h
  where
    go : (b : Bool) → vanishes p f c ≡ b → (i : ℕ) → ¬ (p ∣ coef (taylor c f) i) → where_passes b x ≤ m * i
    go true e zero w = absurd (w (rw (taylor_constant c f) (divides_dvd p (value f c) e)))
    go true e (suc j) w = above j w
    go false e j w = omega arith

module _ (p : ℕ) (P : Prime p) where
  -- away from the zero c, the quotient has the order of f
  order-away : (c k n : ℕ) (f : List ℕ) → 0 < k → k < p → p ∣ value f c → AtMostOrder p n (taylor (c + k) f)
      → AtMostOrder p n (taylor (c + k) (quotient c f))
  order-away c k n f h l v b zero w =
      let g = taylor (c + k) (quotient c f) in
      b 0 (λ u. digit_times p P k (coef g 0) h l w ((dvd-add_iff_right p v).1 (rw (← quotient_zero c k f) u)))
  order-away c k n f h l v b (suc i) w = go (order-away c k n f h l v b i) (dec_dvd p (coef (taylor (c + k) (quotient c f)) i))
    where
      g : List ℕ
      g = taylor (c + k) (quotient c f)

      go : (¬ (p ∣ coef g i) → n ≤ i) → Dec (p ∣ coef g i) → n ≤ suc i
      go ih (yes z) = b (suc i) (λ u. digit_times p P k (coef g (suc i)) h l w ((dvd-add_iff_right p z).1 (rw (← quotient-suc c k f i) u)))
      go ih (no z) = omega (arith, ih z)

  -- at c it is one less
  order-at : (c n : ℕ) (f : List ℕ) → AtMostOrder p n (taylor c f) → AtMostOrder p (pred n) (taylor c (quotient c f))
  order-at c n f b i w =
      let e : coef (taylor c f) (suc i) ≡ coef (taylor c (quotient c f)) i = omega (arith, rw (add-zero c) at (quotient-suc c 0 f i)) in
      omega (arith, b (suc i) (λ u. w (rw e at u)))

  -- where c is no zero, it is 0
  order-none : (c n : ℕ) (f : List ℕ) → AtMostOrder p n (taylor c f) → ¬ (p ∣ value f c) → n ≡ 0
  order-none c n f b w =
      omega (arith, b 0 (λ u. w (rw (taylor_constant c f) at u)))

  module _ (t : ℕ → ℕ) where
    -- t is at most the order at the digits after c, up to c + j
    abbrev After : ℕ → ℕ → List ℕ → Type 0
    After c j f = (x : ℕ) → c < x → x ≤ c + j → AtMostOrder p (t x) (taylor x f)

    after-quotient : (c j : ℕ) (f : List ℕ) → c + j < p → p ∣ value f c → After c j f → After c j (quotient c f)
    after-quotient c j f l v h x a b =
        let e : c + (x - c) ≡ x = omega arith in
        rw e at (order-away c (x - c) (t x) f (omega arith) (omega arith) v (rw e (h x a b)))

    at-digit : (c j : ℕ) → c + j < p → ((d : ℕ) (f : List ℕ) → Degree p f d → After c j f → sum_from t (suc c) j ≤ d)
        → (d n : ℕ) (f : List ℕ) → Degree p f d → AtMostOrder p n (taylor c f) → After c j f → n + sum_from t (suc c) j ≤ d
    at-digit c j l rest zero n f D b h = omega (arith, rest zero f D h, order-none c n f b (constant_no_zero p c f D))
    at-digit c j l rest (suc d) n f D b h =
        go (at-digit c j l rest d (pred n) (quotient c f) (quotient_degree p c f d D) (order-at c n f b)) (dec_dvd p (value f c))
      where
        go : (After c j (quotient c f) → pred n + sum_from t (suc c) j ≤ d) → Dec (p ∣ value f c) → n + sum_from t (suc c) j ≤ suc d
        go ih (yes v) = omega (arith, ih (after-quotient c j f l v h))
        go ih (no v) = omega (arith, rest (suc d) f D h, order-none c n f b v)

    from-digit : (j c : ℕ) → c + j < p → (d n : ℕ) (f : List ℕ) → Degree p f d → AtMostOrder p n (taylor c f) → After c j f
        → n + sum_from t (suc c) j ≤ d
    unfolding sum_from
    from-digit zero c l = at-digit c 0 l (λ d f D h. omega arith)
    from-digit (suc j) c l =
        at-digit c (suc j) l (λ d f D h.
        from-digit j (suc c) (omega arith) d (t (suc c)) f D (h (suc c) (omega arith) (omega arith))
        (λ x a b. h x (omega arith) (omega arith)))

    -- numbers that are at most the orders at 0, …, p − 1 add up to at most the degree
    pub orders-at-most-degree : (d : ℕ) (f : List ℕ) → Degree p f d → ((c : ℕ) → c < p → AtMostOrder p (t c) (taylor c f))
        → sum_from t 0 p ≤ d
    unfolding sum_from
    orders-at-most-degree d f D h =
        let e : suc (pred p) ≡ p = omega (arith, P.two) in
        rw (← e) (from-digit (pred p) 0 (omega arith) d (t 0) f D (h 0 (omega arith)) (λ x a b. h x (omega arith)))
