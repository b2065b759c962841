-- Roots modulo a lower power of p.
use mathlib.Core.Path.{◌≡◌, sym, ap, ◌∙◌}
use mathlib.Core.Bool.{Bool, true}
use mathlib.Core.List.{List, [], ◌∷◌}
use Prim.Native.Nat.{ℕ, zero, suc, ◌+◌, ◌*◌, ◌/◌, ◌%◌, ◌^◌, ◌≤◌, ◌<◌}
use native.Mathlib.Nat.{div-add-mod, dvd_trans}
use native.Mathlib.Omega.{arith}
use lib.IntN.{ℤ}
use Rattle.theory.specs.Polynomial.{reduced, zeros, roots}
use Rattle.theory.proofs.Numbers.Power.{pow_dvd}
use Rattle.theory.proofs.Numbers.Congruence.{cong_refl, cong_residue, cong_sym}
use Rattle.theory.proofs.Numbers.Reduction.{reduce_lower}
use Rattle.theory.proofs.Polynomials.Congruence.{SameModulo, zeros_same}
use Rattle.theory.proofs.Polynomials.Zeros.{zero_dvd, dvd_zero_at, zeros_periodic}

-- reduced modulo pⁿ, the coefficients are right for each lower precision
reduced_lower : (f : List ℤ) (p j n : ℕ) → 0 < p → j ≤ n → SameModulo (p ^ j) (reduced f p n) (reduced f p j)
unfolding reduced
reduced_lower [] p j n hp h i = cong_refl
reduced_lower (a ∷ f) p j n hp h zero =
    cong_sym (cong_residue (sym (reduce_lower p hp j n h a)))
reduced_lower (a ∷ f) p j n hp h (suc i) = reduced_lower f p j n hp h i

-- so they tell the roots there
pub zeros_lower : (f : List ℤ) (p j n : ℕ) → 0 < p → j ≤ n → zeros (reduced f p n) p j ≡ roots f p j
unfolding roots
zeros_lower f p j n hp h = zeros_same (reduced f p n) (reduced f p j) p j (reduced_lower f p j n hp h)

-- a root modulo p^m is one modulo pⁿ
pub roots_lower : (f : List ℤ) (p n m : ℕ) → 0 < p → n ≤ m → (r : ℕ) → roots f p m r ≡ true → roots f p n (r % p ^ n) ≡ true
unfolding roots
roots_lower f p n m hp h r e =
    let back : r % p ^ n + p ^ n * (r / p ^ n) ≡ r = omega (arith, div-add-mod r (p ^ n)) in
    sym (zeros_periodic (reduced f p n) p n (r % p ^ n) (r / p ^ n))
    ∙ ap (roots f p n) back
    ∙ ap (λ (S : ℕ → Bool). S r) (sym (zeros_lower f p n m hp h))
    ∙ dvd_zero_at (reduced f p m) p n r (dvd_trans (p ^ n) (pow_dvd p h) (zero_dvd (reduced f p m) p m r e))
