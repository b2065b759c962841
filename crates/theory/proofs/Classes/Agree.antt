-- Sets that agree below pⁿ have the same list and the same count.
use mathlib.Core.Path.{◌≡◌, refl, ap, ap₂, ◌∙◌}
use mathlib.Core.Bool.{Bool, ◌&&◌}
use mathlib.Core.List.{map}
use Prim.Native.Nat.{ℕ, suc, ◌+◌, ◌*◌, ◌-◌, ◌^◌, ◌<◌}
use native.Mathlib.Nat.{mod-lt, mul-le-mul_right}
use native.Mathlib.Omega.{arith}
use lib.Dec.{ltb}
use lib.ListN.{length}
use Rattle.theory.specs.Range.{passing}
use Rattle.theory.specs.Class.{Class, IsClass}
use Rattle.theory.specs.Shortest.{is_whole, class_at, level_of, is_listed, largest, shortest, count}
use Rattle.theory.proofs.Lists.Map.{map_same}
use Rattle.theory.proofs.Numbers.Power.{pow_pos, pow_split}
use Rattle.theory.proofs.Range.{all_same, least_agree, passing_same}
use Rattle.theory.proofs.Classes.Equal.{class_equal}

module _ (S R : ℕ → Bool) (p n : ℕ) (hp : 0 < p) (agree : (r : ℕ) → r < p ^ n → S r ≡ R r) where
  whole_agree : (c : Class) → IsClass p n c → is_whole S p n c ≡ is_whole R p n c
  unfolding is_whole
  whole_agree c k =
      let q = p ^ c.level in
      all_same (λ i. S (c.residue + i * q)) (λ i. R (c.residue + i * q)) (p ^ (n - c.level)) (λ i l.
      agree (c.residue + i * q) (rw (pow_split p k.level_fits) (omega (arith, mul-le-mul_right q l, k.residue_fits))))

  pub level-agree : (r : ℕ) → level_of S p n r ≡ level_of R p n r
  unfolding level_of
  level-agree r =
      least_agree (λ t. is_whole S p n (class_at p r t)) (λ t. is_whole R p n (class_at p r t)) (suc n) 0 (λ t l b.
      whole_agree (class_at p r t) (record { level_fits = omega arith; residue_fits = mod-lt r (pow_pos p hp t) }))

  pub shortest-agree : shortest S p n ≡ shortest R p n
  unfolding shortest is_listed largest
  shortest-agree =
      ap (map (largest S p n)) (passing_same (is_listed S p n) (is_listed R p n) (p ^ n) 0 (λ r l b.
      ap₂ (λ (s : Bool) (t : ℕ). s && ltb r (p ^ t)) (agree r (omega arith)) (level-agree r)))
      ∙ map_same (largest S p n) (largest R p n) (passing (is_listed R p n) (p ^ n) 0) (λ r u. class_equal refl (level-agree r))

  pub count-agree : count S p n ≡ count R p n
  unfolding count
  count-agree = ap length (passing_same S R (p ^ n) 0 (λ r l b. agree r (omega arith)))
