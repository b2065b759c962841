-- The digits of a residue in base p: the class one level below, and those further below.
use mathlib.Core.Path.{◌≡◌, ap, ◌∙◌}
use Prim.Native.Nat.{ℕ, suc, ◌+◌, ◌*◌, ◌/◌, ◌%◌, ◌^◌, ◌<◌}
use native.Mathlib.Nat.{pow-succ', mul_comm, mul-le-mul_left, add-mul-mod_self_left, add-mul-div_left, mod-eq_of_lt, div-eq_of_lt}
use native.Mathlib.Omega.{arith}
use lib.Arith.{mod-mul}
use lib.Pow.{pow-add}
use Rattle.theory.proofs.Numbers.Power.{pow_pos}

module _ (p : ℕ) (hp : 0 < p) where
  -- a digit more
  pub digit_lt : (a t c : ℕ) → a < p ^ t → c < p → a + p ^ t * c < p ^ suc t
  digit_lt a t c h l = omega (arith, pow-succ' p t, mul-le-mul_left (p ^ t) l)

  pub digit-mod : (a t c : ℕ) → a < p ^ t → (a + p ^ t * c) % p ^ t ≡ a
  digit-mod a t c h = add-mul-mod_self_left a (p ^ t) c ∙ mod-eq_of_lt h

  -- the residue modulo p^(t + 1) is that modulo p^t and the next digit
  pub next-digit : (r t : ℕ) → r % p ^ suc t ≡ r % p ^ t + p ^ t * (r / p ^ t % p)
  next-digit r t = ap (λ (x : ℕ). r % x) (pow-succ' p t) ∙ mod-mul r hp (pow_pos p hp t) ∙ omega arith

  -- above its t lowest digits, a + p^t·y is y
  pub digits_above : (a t y : ℕ) → a < p ^ t → (a + p ^ t * y) / p ^ t ≡ y
  digits_above a t y h =
      add-mul-div_left a y (pow_pos p hp t) ∙ ap (λ (x : ℕ). x + y) (div-eq_of_lt h) ∙ omega arith

  -- the residue modulo p^(t + u) is that modulo p^t and the next u digits
  pub next-digits : (r t u : ℕ) → r % p ^ (t + u) ≡ r % p ^ t + p ^ t * (r / p ^ t % p ^ u)
  next-digits r t u =
      ap (λ (x : ℕ). r % x) (pow-add p t u ∙ mul_comm (p ^ t) (p ^ u))
      ∙ mod-mul r (pow_pos p hp u) (pow_pos p hp t)
      ∙ omega arith
