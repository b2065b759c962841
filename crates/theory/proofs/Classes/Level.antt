-- The level of a residue: inside a whole class it is the same for every member.
use mathlib.Core.Path.{◌≡◌, sym, ap}
use mathlib.Core.Bool.{Bool, true, false}
use Prim.Native.Nat.{ℕ, suc, ◌%◌, ◌^◌, ◌≤◌, ◌<◌}
use native.Mathlib.Nat.{mod-mod_of_dvd}
use native.Mathlib.Omega.{arith}
use Rattle.theory.specs.Class.{class}
use Rattle.theory.specs.Shortest.{is_whole, class_at, level_of}
use Rattle.theory.proofs.Numbers.Power.{pow_dvd}
use Rattle.theory.proofs.Range.{least_passes, least_same, before_least}

module _ (S : ℕ → Bool) (p n : ℕ) where
  -- where r's class of level l is whole, so is the one of r's level, which is at most l
  pub level-whole : (r l : ℕ) → l ≤ n → is_whole S p n (class_at p r l) ≡ true
      → (is_whole S p n (class_at p r (level_of S p n r)) ≡ true) × (level_of S p n r ≤ l)
  unfolding level_of
  level-whole r l h w = least_passes (λ t. is_whole S p n (class_at p r t)) (suc n) 0 l (omega arith) (omega arith) w

  -- no larger class of r is whole
  pub below-level : (r t : ℕ) → t < level_of S p n r → is_whole S p n (class_at p r t) ≡ false
  unfolding level_of
  below-level r t h = before_least (λ s. is_whole S p n (class_at p r s)) (suc n) 0 t (omega arith) h

  -- where r's class of level l is whole, its residue has r's level
  pub level-constant : (r l : ℕ) → l ≤ n → is_whole S p n (class_at p r l) ≡ true → level_of S p n (r % p ^ l) ≡ level_of S p n r
  unfolding level_of
  level-constant r l h w =
      sym (least_same (λ t. is_whole S p n (class_at p r t)) (λ t. is_whole S p n (class_at p (r % p ^ l) t)) (suc n) 0 l
      (omega arith) (omega arith) w
      (λ t q. ap (λ (x : ℕ). is_whole S p n (class x t)) (sym (mod-mod_of_dvd (p ^ t) r (pow_dvd p q)))))
