-- Signed words: what the machine's reading of a word's bits says of the integer in it.
use mathlib.Core.Path.{◌≡◌, refl, sym, ap, ap₂, ◌∙◌}
use mathlib.Core.Bool.{true, false, false≢true, true≢false}
use Prim.Native.Nat.{ℕ, ◌+◌, ◌-◌, ◌≤◌, ◌<◌, ◌^◌}
use native.Mathlib.Omega.{arith}
use borrow.Author.Tests.{le-ltb}
use lib.IntN.{ℤ, pos, negsuc, neg_ℤ, sub_ℕ, ◌-ℤ◌}
use lib.Signed.{lt_z}
use mir.Syntax.{w32, w64}
use mir.Val.{SFits, to_z, of_z}
use mir.ValLaws.{to_z_pos, to_z-of_z}
use Rattle.theory.specs.Centered.{is_centered}
use Rattle.theory.proofs.Numbers.Integers.{up, down, Is, is_unique, difference_is, sum_is, opposite_is}
use Rattle.theory.proofs.Signed.Centered.{in_range}

-- x is s k, and a word of 64 bits reads as k
pub record Read (s : ℕ → ℤ) (x : ℤ) (word : ℕ) : Type 0 where
  pub k : ℕ
  pub is : x ≡ s k
  pub reads : to_z w64 word ≡ pos k
  pub small : k < 2 ^ 63

-- a negative x is −(k + 1), and its complement is k
pub negative : (x : ℤ) → SFits w64 x → lt_z (to_z w64 (of_z w64 x)) (pos 0) ≡ true → Read negsuc x (18446744073709551615 - of_z w64 x)
negative (pos n) f e =
    absurd (false≢true (sym (le-ltb n 0 (omega arith)) ∙ ap (λ (z : ℤ). lt_z z (pos 0)) (sym (to_z-of_z w64 (pos n) f)) ∙ e))
negative (negsuc k) f e =
    let q : 18446744073709551615 - of_z w64 (negsuc k) ≡ k = omega (arith, f.sfits) in
    record { k = k; is = refl; reads = ap (to_z w64) q ∙ to_z_pos w64 k f.sfits; small = f.sfits }

-- any other is itself
pub not_negative : (x : ℤ) → SFits w64 x → lt_z (to_z w64 (of_z w64 x)) (pos 0) ≡ false → Read pos x (of_z w64 x)
not_negative (pos k) f e = record { k = k; is = refl; reads = to_z-of_z w64 (pos k) f; small = f.sfits }
not_negative (negsuc k) f e = absurd (true≢false (ap (λ (z : ℤ). lt_z z (pos 0)) (sym (to_z-of_z w64 (negsuc k) f)) ∙ e))

-- a difference of two numbers below 2^63 is within 64 bits
pub difference_fits : (z : ℤ) (a b : ℕ) → Is z a b → a < 2 ^ 63 → b < 2 ^ 63 → SFits w64 z
unfolding up down
difference_fits (pos k) a b e ha hb = record { sfits = omega arith }
difference_fits (negsuc k) a b e ha hb = record { sfits = omega arith }

-- and one between −2^31 and 2^31 − 1 within 32
pub narrow_difference : (z : ℤ) (a b : ℕ) → Is z a b → a < b + 2147483648 → b ≤ a + 2147483648 → SFits w32 z
unfolding up down
narrow_difference (pos k) a b e ha hb = record { sfits = omega arith }
narrow_difference (negsuc k) a b e ha hb = record { sfits = omega arith }

-- the difference of two numbers below 2^63, as it is read
module _ (a b : ℕ) (ha : a < 2 ^ 63) (hb : b < 2 ^ 63) where
  abbrev pub difference : ℤ
  difference = to_z w64 a -ℤ to_z w64 b

  parts : Is (pos a -ℤ pos b) a b
  unfolding up down
  parts = omega (arith, sum_is (pos a) (neg_ℤ (pos b)), opposite_is (pos b))

  pub difference-read : difference ≡ sub_ℕ a b
  difference-read =
      ap₂ ◌-ℤ◌ (to_z_pos w64 a ha) (to_z_pos w64 b hb) ∙ is_unique (pos a -ℤ pos b) (sub_ℕ a b) a b parts (difference_is a b)

  pub difference-read-fits : SFits w64 difference
  difference-read-fits = rw difference-read (difference_fits (sub_ℕ a b) a b (difference_is a b) ha hb)

-- A number of 32 bits, signed, as one of 64

pub wide_fits : (z : ℤ) → SFits w32 z → SFits w64 z
wide_fits z f = record { sfits = omega (arith, f.sfits) }

pub wide_read : (z : ℤ) → SFits w32 z → to_z w64 (of_z w64 (to_z w32 (of_z w32 z))) ≡ z
wide_read z f = ap (λ (x : ℤ). to_z w64 (of_z w64 x)) (to_z-of_z w32 z f) ∙ to_z-of_z w64 z (wide_fits z f)

-- its parts are at most 2^31
pub narrow_parts : (z : ℤ) → SFits w32 z → (up z ≤ 2147483648) × (down z ≤ 2147483648)
unfolding up down
narrow_parts (pos k) f = (omega (arith, f.sfits), omega arith)
narrow_parts (negsuc k) f = (omega arith, omega (arith, f.sfits))

-- a residue of least size modulo a q of 32 bits has 32 bits
pub narrow_fits : (q : ℕ) (z : ℤ) → q ≤ 4294967295 → is_centered q z ≡ true → SFits w32 z
unfolding up down
narrow_fits q (pos k) h e = record { sfits = omega (arith, (in_range q (pos k) e).fits) }
narrow_fits q (negsuc k) h e = record { sfits = omega (arith, (in_range q (negsuc k) e).above) }
