-- Integers as differences of natural numbers: sums, products and order in terms that linear arithmetic reads.
use mathlib.Core.Path.{◌≡◌, refl, sym, ap, ◌∙◌}
use mathlib.Core.Bool.{Bool, true, false, cond}
use Prim.Native.Nat.{ℕ, zero, suc, ◌+◌, ◌-◌, ◌*◌, ◌≤◌, ◌<◌}
use native.Mathlib.Nat.{add-zero}
use native.Mathlib.Omega.{arith}
use borrow.Author.Tests.{ltb-true, ltb-false, leb-true, leb-false, lt-ltb, le-ltb, le-leb, lt-leb}
use lib.Dec.{ltb, leb}
use lib.IntN.{ℤ, pos, negsuc, neg_ℤ, sub_ℕ, ◌+ℤ◌, ◌*ℤ◌}
use lib.Signed.{lt_z, le_z}

-- an integer is up − down
unfoldable pub up : ℤ → ℕ
up (pos k) = k
up (negsuc k) = 0

unfoldable pub down : ℤ → ℕ
down (pos k) = 0
down (negsuc k) = suc k

-- z is u − d
abbrev pub Is : ℤ → ℕ → ℕ → Type 0
Is z u d = up z + d ≡ u + down z

-- u and d determine z
pub is_unique : (y z : ℤ) (u d : ℕ) → Is y u d → Is z u d → y ≡ z
unfolding up down
is_unique (pos a) (pos b) u d e f = ap pos (omega arith)
is_unique (pos a) (negsuc b) u d e f = absurd (omega arith)
is_unique (negsuc a) (pos b) u d e f = absurd (omega arith)
is_unique (negsuc a) (negsuc b) u d e f = ap negsuc (omega arith)

pub difference_is : (a b : ℕ) → Is (sub_ℕ a b) a b
unfolding up down
difference_is a b = go (ltb a b) refl
  where
    go : (t : Bool) → ltb a b ≡ t → Is (cond t (negsuc (b - suc a)) (pos (a - b))) a b
    go true e = let l = ltb-true a b e in omega arith
    go false e = let l = ltb-false a b e in omega arith

pub sum_is : (y z : ℤ) → Is (y +ℤ z) (up y + up z) (down y + down z)
unfolding up down
sum_is (pos a) (pos b) = omega arith
sum_is (pos a) (negsuc b) = omega (arith, difference_is a (suc b))
sum_is (negsuc a) (pos b) = omega (arith, difference_is b (suc a))
sum_is (negsuc a) (negsuc b) = omega arith

pub opposite_is : (z : ℤ) → Is (neg_ℤ z) (down z) (up z)
unfolding up down
opposite_is (pos zero) = omega arith
opposite_is (pos (suc k)) = omega arith
opposite_is (negsuc k) = omega arith

pub negative_is : (k : ℕ) → Is (neg_ℤ (pos k)) 0 k
unfolding up down
negative_is k = opposite_is (pos k)

pub product_is : (x : ℕ) (z : ℤ) → Is (pos x *ℤ z) (x * up z) (x * down z)
unfolding up down
product_is x (pos k) = omega arith
product_is x (negsuc k) = omega (arith, negative_is (x * suc k))

-- Order: lt_z and le_z are the library's tests, with which the code's comparisons agree

pub less_test : (y z : ℤ) → lt_z y z ≡ ltb (up y + down z) (up z + down y)
unfolding up down
less_test (pos a) (pos b) = rw (add-zero a, add-zero b)
less_test (pos a) (negsuc b) = sym (le-ltb (a + suc b) (0 + 0) (omega arith))
less_test (negsuc a) (pos b) = sym (lt-ltb (0 + 0) (b + suc a) (omega arith))
less_test (negsuc a) (negsuc b) = go (ltb b a) refl
  where
    go : (t : Bool) → ltb b a ≡ t → ltb b a ≡ ltb (0 + suc b) (0 + suc a)
    go true e = let l = ltb-true b a e in e ∙ sym (lt-ltb (0 + suc b) (0 + suc a) (omega arith))
    go false e = let l = ltb-false b a e in e ∙ sym (le-ltb (0 + suc b) (0 + suc a) (omega arith))

pub at_most_test : (y z : ℤ) → le_z y z ≡ leb (up y + down z) (up z + down y)
unfolding up down
at_most_test (pos a) (pos b) = rw (add-zero a, add-zero b)
at_most_test (pos a) (negsuc b) = sym (lt-leb (a + suc b) (0 + 0) (omega arith))
at_most_test (negsuc a) (pos b) = sym (le-leb (0 + 0) (b + suc a) (omega arith))
at_most_test (negsuc a) (negsuc b) = go (leb b a) refl
  where
    go : (t : Bool) → leb b a ≡ t → leb b a ≡ leb (0 + suc b) (0 + suc a)
    go true e = let l = leb-true b a e in e ∙ sym (le-leb (0 + suc b) (0 + suc a) (omega arith))
    go false e = let l = leb-false b a e in e ∙ sym (lt-leb (0 + suc b) (0 + suc a) (omega arith))

module _ (y z : ℤ) where
  pub less-is : lt_z y z ≡ true → up y + down z < up z + down y
  less-is e = ltb-true (up y + down z) (up z + down y) (sym (less_test y z) ∙ e)

  pub is-less : up y + down z < up z + down y → lt_z y z ≡ true
  is-less h = less_test y z ∙ lt-ltb (up y + down z) (up z + down y) h

  pub is-not-less : up z + down y ≤ up y + down z → lt_z y z ≡ false
  is-not-less h = less_test y z ∙ le-ltb (up y + down z) (up z + down y) h

  pub not-less-is : lt_z y z ≡ false → up z + down y ≤ up y + down z
  not-less-is e = ltb-false (up y + down z) (up z + down y) (sym (less_test y z) ∙ e)

  pub at-most-is : le_z y z ≡ true → up y + down z ≤ up z + down y
  at-most-is e = leb-true (up y + down z) (up z + down y) (sym (at_most_test y z) ∙ e)

  pub is-at-most : up y + down z ≤ up z + down y → le_z y z ≡ true
  is-at-most h = at_most_test y z ∙ le-leb (up y + down z) (up z + down y) h

  pub not-at-most-is : le_z y z ≡ false → up z + down y < up y + down z
  not-at-most-is e = leb-false (up y + down z) (up z + down y) (sym (at_most_test y z) ∙ e)

  pub is-not-at-most : up z + down y < up y + down z → le_z y z ≡ false
  is-not-at-most h = at_most_test y z ∙ lt-leb (up y + down z) (up z + down y) h
