-- Sets that are told by the residue modulo p: the members of a class of level 1 or more are in such a set all or none, and those of a class
-- of level 0 have every digit as a residue modulo p.
use mathlib.Core.Path.{◌≡◌, sym, ap, ◌∙◌}
use mathlib.Core.Bool.{Bool}
use Prim.Native.Nat.{ℕ, zero, suc, ◌+◌, ◌-◌, ◌*◌, ◌%◌, ◌^◌, ◌≤◌, ◌<◌}
use native.Mathlib.Nat.{add-mul-mod_self_right, mod-lt, pow-suc, pow-zero}
use native.Mathlib.Omega.{arith}
use Rattle.theory.specs.Range.{all_below}
use Rattle.theory.specs.Class.{Class, class}
use Rattle.theory.specs.Shortest.{is_whole}
use Rattle.theory.proofs.Tests.{same_test}
use Rattle.theory.proofs.Numbers.Power.{pow_pos, base_le}
use Rattle.theory.proofs.Numbers.Congruence.{Congruent, cong_refl, cong_sym, cong_trans, cong_add, cong_mod}
use Rattle.theory.proofs.Range.{all_elim, all_intro, all_constant}

-- x is in S exactly if the numbers congruent to it modulo p are
abbrev pub Periodic : (ℕ → Bool) → ℕ → Type 0
Periodic S p = (x y : ℕ) → Congruent p x y → S x ≡ S y

-- the members of a class of level 1 or more agree modulo p
pub members_agree : (p a i t : ℕ) → 0 < t → Congruent p (a + i * p ^ t) a
members_agree p a i zero h = absurd (omega arith)
members_agree p a i (suc t) h =
    let e : a + i * (p ^ t * p) ≡ a + i * p ^ t * p = omega arith in
    record { same = rw (pow-suc p t, e) (add-mul-mod_self_right a (i * p ^ t) p) }

-- a + i has the residue c modulo p for this i
reached : (p a c : ℕ) → 0 < p → Congruent p (a + (c + a * (p - 1)) % p) c
reached p a c hp =
    let q : suc (p - 1) ≡ p = omega arith in
    let e : a + (c + a * (p - 1)) ≡ c + a * p = omega (arith, ap (λ (x : ℕ). a * x) q) in
    cong_trans (cong_add cong_refl (cong_mod p (c + a * (p - 1))))
    (record { same = ap (λ (x : ℕ). x % p) e ∙ add-mul-mod_self_right c a p })

module _ (S : ℕ → Bool) (p n : ℕ) (hp : 0 < p) (periodic : Periodic S p) where
  -- at level 1 and above one member tells
  pub whole-deep : (c : Class) → 0 < c.level → is_whole S p n c ≡ S c.residue
  unfolding is_whole
  whole-deep c deep =
      all_constant (λ i. S (c.residue + i * p ^ c.level)) (p ^ (n - c.level)) (S c.residue) (pow_pos p hp (n - c.level))
      (λ i l. periodic (c.residue + i * p ^ c.level) c.residue (members_agree p c.residue i c.level deep))

  -- at level 0 the p digits do
  pub whole_top : (a : ℕ) → 0 < n → is_whole S p n (class a 0) ≡ all_below S p
  unfolding is_whole
  whole_top a pos =
      same_test (is_whole S p n (class a 0)) (all_below S p)
      (λ e. all_intro S p (λ c l.
      let i = (c + a * (p - 1)) % p in
      sym (periodic (a + i) c (reached p a c hp))
      ∙ sym (at i)
      ∙ all_elim (λ j. S (a + j * p ^ 0)) (p ^ (n - 0)) i e (omega (arith, mod-lt (c + a * (p - 1)) hp, room))))
      (λ e. all_intro (λ j. S (a + j * p ^ 0)) (p ^ (n - 0)) (λ i l.
      periodic (a + i * p ^ 0) ((a + i * p ^ 0) % p) (cong_sym (cong_mod p (a + i * p ^ 0)))
      ∙ all_elim S p ((a + i * p ^ 0) % p) e (mod-lt (a + i * p ^ 0) hp)))
    where
      at : (i : ℕ) → S (a + i * p ^ 0) ≡ S (a + i)
      at i = ap S (rw (pow-zero p) (omega arith))

      room : p ≤ p ^ (n - 0)
      room = base_le p hp (omega arith)
