-- The bits of x | 1 << j.
use mathlib.Core.Path.{◌≡◌, refl, sym, ap, ◌∙◌}
use Prim.Native.Nat.{ℕ, zero, suc, ◌+◌, ◌-◌, ◌*◌, ◌/◌, ◌%◌, ◌^◌, ◌<◌}
use native.Mathlib.Nat.{mod-lt, mod-eq_of_lt, div-eq_of_lt, div_self, one-mul}
use native.Mathlib.Decide.{dec_lt}
use native.Mathlib.Omega.{arith}
use lib.Bits.{bit_or, or_shr, or_mod, or_lt, or_zero_r, shifted_even}
use lib.Pow.{pow_pos, pow-lt, pow-add, shl-shr}

or_digit : (d : ℕ) → d < 2 → bit_or d 1 ≡ 1
or_digit zero h = refl
or_digit (suc zero) h = refl
or_digit (suc (suc d)) h = absurd (omega arith)

-- the bit of weight 2^k of x | y
or_bit : (x y k : ℕ) → bit_or x y / 2 ^ k % 2 ≡ bit_or (x / 2 ^ k % 2) (y / 2 ^ k % 2)
or_bit x y k = ap (λ (n : ℕ). n % 2) (or_shr x y k) ∙ or_mod (x / 2 ^ k) (y / 2 ^ k) 1

-- the bit that is set
pub or_same : (x j : ℕ) → bit_or x (2 ^ j) / 2 ^ j % 2 ≡ 1
or_same x j =
    or_bit x (2 ^ j) j
    ∙ ap (λ (n : ℕ). bit_or (x / 2 ^ j % 2) (n % 2)) (div_self (pow_pos j))
    ∙ or_digit (x / 2 ^ j % 2) (mod-lt (x / 2 ^ j) (omega arith))

one-bit-below : (j k m : ℕ) → j ≡ suc m + k → 2 ^ j / 2 ^ k % 2 ≡ 0
one-bit-below j k m e =
    rw (e, pow-add 2 (suc m) k, shl-shr (2 ^ suc m) k) (ap (λ (n : ℕ). n % 2) (sym (one-mul (2 ^ suc m))) ∙ shifted_even 1 m)

-- 2^j has no other bit
one_bit : (j k : ℕ) → (k ≡ j → ⊥) → 2 ^ j / 2 ^ k % 2 ≡ 0
one_bit j k ne = go (dec_lt j k)
  where
    go : Dec (j < k) → 2 ^ j / 2 ^ k % 2 ≡ 0
    go (yes h) = ap (λ (n : ℕ). n % 2) (div-eq_of_lt (pow-lt h))
    go (no h) = one-bit-below j k (j - k - 1) (omega arith)

-- the others are kept
pub or_other : (x j k : ℕ) → (k ≡ j → ⊥) → bit_or x (2 ^ j) / 2 ^ k % 2 ≡ x / 2 ^ k % 2
or_other x j k ne = or_bit x (2 ^ j) k ∙ ap (bit_or (x / 2 ^ k % 2)) (one_bit j k ne) ∙ or_zero_r (x / 2 ^ k % 2)

pub or_byte : (x j : ℕ) → j < 8 → x < 256 → bit_or x (2 ^ j) < 256
or_byte x j h l = or_lt 8 x (2 ^ j) l (pow-lt h)

-- 1 << j of w bits
pub shl_one : (w j : ℕ) → j < w → 1 * 2 ^ j % 2 ^ w ≡ 2 ^ j
shl_one w j h = rw one-mul (mod-eq_of_lt (pow-lt h))
