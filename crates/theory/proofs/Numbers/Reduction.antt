-- Integers modulo m: `reduce` is a ring homomorphism, and tells the multiples of m.
use mathlib.Core.Path.{◌≡◌, refl, sym, ap, ◌∙◌}
use mathlib.Core.Logic.{◌↔◌}
use Prim.Native.Nat.{ℕ, suc, ◌+◌, ◌-◌, ◌*◌, ◌/◌, ◌%◌, ◌^◌, ◌≤◌, ◌<◌, ◌∣◌}
use native.Mathlib.Nat.{mod-lt, mod-eq_of_lt, zero-mod, mul-add-mod_self_right, mul-mod_right, div-add-mod'}
use native.Mathlib.Nat.{mod-eq-zero_of_dvd, dvd_of_mod-eq-zero}
use native.Mathlib.Omega.{arith}
use lib.IntN.{ℤ, pos, negsuc, neg_ℤ, ◌+ℤ◌, ◌-ℤ◌, ◌*ℤ◌}
use Rattle.theory.specs.Polynomial.{reduce, Multiple}
use Rattle.theory.proofs.Numbers.Congruence.{Congruent, cong_refl, cong_sym, cong_trans, cong_of_eq, cong_mod, cong_add, cong_mul}
use Rattle.theory.proofs.Numbers.Congruence.{cong_cancel, cong_down}
use Rattle.theory.proofs.Numbers.Power.{pow_pos, pow_dvd}
use Rattle.theory.proofs.Numbers.Integers.{up, down, Is, sum_is, opposite_is, product_is}

module _ (m : ℕ) (hm : 0 < m) where
  -- the reduction of u − d, plus d, is u modulo m
  pub reduce-is : (z : ℤ) → Congruent m (reduce m z + down z) (up z)
  unfolding reduce up down
  reduce-is (pos k) = cong_trans (cong_of_eq (omega arith)) (cong_mod m k)
  reduce-is (negsuc k) =
      let q : m - 1 - k % m + suc k ≡ suc (k / m) * m + 0 = omega (arith, div-add-mod' k m, mod-lt k hm) in
      cong_trans (cong_of_eq q) (record { same = mul-add-mod_self_right (suc (k / m)) m 0 })

  -- so any u and d with z = u − d give the reduction
  pub reduce-from : (z : ℤ) (u d x : ℕ) → Is z u d → Congruent m (x + d) u → Congruent m (reduce m z) x
  reduce-from z u d x e f =
      cong_cancel (down z + d) hm
      (cong_trans (cong_of_eq (omega arith))
      (cong_trans (cong_add (reduce-is z) (cong_refl {x = d}))
      (cong_trans (cong_of_eq e) (cong_trans (cong_add (cong_sym f) (cong_refl {x = down z})) (cong_of_eq (omega arith))))))

  pub reduce-lt : (z : ℤ) → reduce m z < m
  unfolding reduce
  reduce-lt (pos k) = mod-lt k hm
  reduce-lt (negsuc k) = omega arith

  pub reduce-sum : (y z : ℤ) → Congruent m (reduce m (y +ℤ z)) (reduce m y + reduce m z)
  reduce-sum y z =
      reduce-from (y +ℤ z) (up y + up z) (down y + down z) (reduce m y + reduce m z) (sum_is y z)
      (cong_trans (cong_of_eq (omega arith)) (cong_add (reduce-is y) (reduce-is z)))

  pub reduce-product : (x : ℕ) (z : ℤ) → Congruent m (reduce m (pos x *ℤ z)) (x * reduce m z)
  reduce-product x z =
      reduce-from (pos x *ℤ z) (x * up z) (x * down z) (x * reduce m z) (product_is x z)
      (cong_trans (cong_of_eq (omega arith)) (cong_mul (cong_refl {x = x}) (reduce-is z)))

  -- Multiples of m

  pub multiple-reduces : (z : ℤ) → Multiple m z → reduce m z ≡ 0
  multiple-reduces z k =
      sym (mod-eq_of_lt (reduce-lt z))
      ∙ ap (λ (y : ℤ). reduce m y % m) (sym k.times)
      ∙ (reduce-product m k.quotient).same
      ∙ mul-mod_right m (reduce m k.quotient)

  pub reduces-multiple : (z : ℤ) → reduce m z ≡ 0 → Multiple m z
  unfolding reduce
  reduces-multiple (pos k) e =
      let q : m * (k / m) ≡ k = omega (arith, div-add-mod' k m) in
      record { quotient = pos (k / m); times = ap pos q }
  reduces-multiple (negsuc k) e =
      let q : m * suc (k / m) ≡ suc k = omega (arith, div-add-mod' k m, mod-lt k hm) in
      record { quotient = negsuc (k / m); times = ap (λ (x : ℕ). neg_ℤ (pos x)) q }

  -- a number is congruent to the reduction of z exactly if m divides its difference to z
  module _ (r : ℕ) (z : ℤ) where
    difference : Is (pos r -ℤ z) (r + down z) (up z)
    unfolding up down
    difference = omega (arith, sum_is (pos r) (neg_ℤ z), opposite_is z)

    pub congruent-multiple : r % m ≡ reduce m z → Multiple m (pos r -ℤ z)
    congruent-multiple e =
        let same : Congruent m (0 + up z) (r + down z) =
        cong_trans (cong_of_eq (omega arith))
        (cong_trans (cong_sym (reduce-is z)) (cong_add (cong_trans (cong_of_eq (sym e)) (cong_mod m r)) (cong_refl {x = down z}))) in
        let w = reduce-from (pos r -ℤ z) (r + down z) (up z) 0 difference same in
        reduces-multiple (pos r -ℤ z) (sym (mod-eq_of_lt (reduce-lt (pos r -ℤ z))) ∙ w.same ∙ zero-mod m)

    pub multiple-congruent : Multiple m (pos r -ℤ z) → r % m ≡ reduce m z
    multiple-congruent k =
        let d = pos r -ℤ z in
        let none : reduce m d ≡ 0 = multiple-reduces d k in
        let level : Congruent m (down d) (up d) = cong_trans (cong_of_eq (omega (arith, none))) (reduce-is d) in
        let sums : Congruent m (r + down z + down d) (reduce m z + down z + down d) =
        cong_trans (cong_of_eq (omega (arith, difference)))
        (cong_trans (cong_add (cong_sym level) (cong_sym (reduce-is z))) (cong_of_eq (omega arith))) in
        let w = cong_cancel (down z) hm (cong_cancel (down d) hm sums) in
        w.same ∙ mod-eq_of_lt (reduce-lt z)

-- the reduction modulo m, reduced modulo a divisor
pub reduce-down : (k m : ℕ) → 0 < k → 0 < m → k ∣ m → (z : ℤ) → reduce m z % k ≡ reduce k z
reduce-down k m hk hm d z =
    sym (reduce-from k hk z (up z) (down z) (reduce m z) refl (cong_down d (reduce-is m hm z))).same
    ∙ mod-eq_of_lt (reduce-lt k hk z)

-- the reduction modulo a power, reduced modulo a lower one
pub reduce_lower : (p : ℕ) → 0 < p → (t u : ℕ) → t ≤ u → (z : ℤ) → reduce (p ^ u) z % p ^ t ≡ reduce (p ^ t) z
reduce_lower p hp t u h z = reduce-down (p ^ t) (p ^ u) (pow_pos p hp t) (pow_pos p hp u) (pow_dvd p h) z

-- a divisor k of m divides z exactly if it divides the reduction modulo m
pub multiple_dvd : (k m : ℕ) → 0 < k → 0 < m → k ∣ m → (z : ℤ) → Multiple k z ↔ (k ∣ reduce m z)
multiple_dvd k m hk hm d z =
    let down = reduce-down k m hk hm d z in (
      (λ u. dvd_of_mod-eq-zero k (down ∙ multiple-reduces k hk z u)),
      (λ v. reduces-multiple k hk z (sym down ∙ mod-eq-zero_of_dvd k v)),
    )
