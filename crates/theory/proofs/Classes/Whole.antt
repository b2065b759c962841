-- Whole classes.
use mathlib.Core.Path.{◌≡◌, sym, ap, ◌∙◌}
use mathlib.Core.Logic.{◌↔◌}
use mathlib.Core.Bool.{Bool, true, false}
use Prim.Native.Nat.{ℕ, suc, ◌+◌, ◌-◌, ◌*◌, ◌/◌, ◌%◌, ◌^◌, ◌≤◌, ◌<◌}
use native.Mathlib.Nat.{le_refl, div-lt_iff_lt-mul, div-add-mod', mul-le-mul_right, add-mul-mod_self_right, mod-eq_of_lt, mod-lt}
use native.Mathlib.Nat.{le_trans, mod-mod_of_dvd}
use native.Mathlib.Omega.{arith}
use Rattle.theory.specs.Class.{Class, class, IsClass, Member}
use Rattle.theory.specs.Shortest.{is_whole, class_at}
use Rattle.theory.proofs.Numbers.Power.{pow_pos, pow_split, pow_dvd}
use Rattle.theory.proofs.Range.{all_elim, all_intro, some_fails}
use Rattle.theory.proofs.Classes.Digit.{digit_lt, digit-mod, next-digit}

module _ (S : ℕ → Bool) (p n : ℕ) (hp : 0 < p) where
  -- every member of a whole class is in S
  pub whole-elim : (c : Class) → c.level ≤ n → is_whole S p n c ≡ true → (r : ℕ) → Member p n c r → S r ≡ true
  unfolding is_whole
  whole-elim c h w r m =
      let q = p ^ c.level in
      let i : r / q < p ^ (n - c.level) = (div-lt_iff_lt-mul (pow_pos p hp c.level)).1 (rw (pow_split p h) at m.below) in
      let s : c.residue + r / q * q ≡ r = omega (arith, div-add-mod' r q, m.congruent) in
      rw s at (all_elim (λ j. S (c.residue + j * q)) (p ^ (n - c.level)) (r / q) w i)

  -- the members are a + i·p^t
  member-at : (c : Class) → IsClass p n c → (i : ℕ) → i < p ^ (n - c.level) → Member p n c (c.residue + i * p ^ c.level)
  member-at c k i l =
      let q = p ^ c.level in
      record {
        below = rw (pow_split p k.level_fits) (omega (arith, mul-le-mul_right q l, k.residue_fits));
        congruent = add-mul-mod_self_right c.residue i q ∙ mod-eq_of_lt k.residue_fits;
      }

  -- and a class whose every member is in S is whole
  pub whole-intro : (c : Class) → IsClass p n c → ((r : ℕ) → Member p n c r → S r ≡ true) → is_whole S p n c ≡ true
  unfolding is_whole
  whole-intro c k f =
      let q = p ^ c.level in
      all_intro (λ j. S (c.residue + j * q)) (p ^ (n - c.level)) (λ i l. f (c.residue + i * q) (member-at c k i l))

  -- one that is not whole has a member outside S
  pub whole-fails : (c : Class) → IsClass p n c → is_whole S p n c ≡ false → (r : ℕ) × Member p n c r × (S r ≡ false)
  unfolding is_whole
  whole-fails c k e =
      let q = p ^ c.level in
      let (i, l, w) = some_fails (λ j. S (c.residue + j * q)) (p ^ (n - c.level)) e in
      (c.residue + i * q, member-at c k i l, w)

  -- "at level n a class is one residue and is whole if it is a root"
  pub whole-point : (r : ℕ) → r < p ^ n → S r ≡ true → is_whole S p n (class_at p r n) ≡ true
  whole-point r h e =
      whole-intro (class_at p r n) (record { level_fits = le_refl n; residue_fits = mod-lt r (pow_pos p hp n) })
      (λ x m. let q : x ≡ r = sym (mod-eq_of_lt m.below) ∙ m.congruent ∙ mod-eq_of_lt h in rw q e)

  -- where a class around r is whole, so is each smaller one around r
  pub whole-down : (r s t : ℕ) → s ≤ t → t ≤ n → is_whole S p n (class_at p r s) ≡ true → is_whole S p n (class_at p r t) ≡ true
  whole-down r s t h k w =
      whole-intro (class_at p r t) (record { level_fits = k; residue_fits = mod-lt r (pow_pos p hp t) })
      (λ x m. whole-elim (class_at p r s) (le_trans h k) w x (record {
        below = m.below;
        congruent =
            sym (mod-mod_of_dvd (p ^ s) x (pow_dvd p h))
            ∙ ap (λ (y : ℕ). y % p ^ s) m.congruent
            ∙ mod-mod_of_dvd (p ^ s) r (pow_dvd p h);
      }))

  -- "A class is whole exactly if all p classes one level below it are whole"
  pub whole_split : (a t : ℕ) → t < n → a < p ^ t
      → (is_whole S p n (class a t) ≡ true) ↔ ((c : ℕ) → c < p → is_whole S p n (class (a + p ^ t * c) (suc t)) ≡ true)
  whole_split a t h l = (down, up)
    where
      child : (c : ℕ) → c < p → IsClass p n (class (a + p ^ t * c) (suc t))
      child c u = record { level_fits = h; residue_fits = digit_lt p hp a t c l u }

      down : is_whole S p n (class a t) ≡ true → (c : ℕ) → c < p → is_whole S p n (class (a + p ^ t * c) (suc t)) ≡ true
      down w c u =
          whole-intro (class (a + p ^ t * c) (suc t)) (child c u) (λ r m. whole-elim (class a t) (omega arith) w r (record {
            below = m.below;
            congruent =
                sym (mod-mod_of_dvd (p ^ t) r (pow_dvd p {t = t} {n = suc t} (omega arith)))
                ∙ ap (λ (x : ℕ). x % p ^ t) m.congruent
                ∙ digit-mod p hp a t c l;
          }))

      up : ((c : ℕ) → c < p → is_whole S p n (class (a + p ^ t * c) (suc t)) ≡ true) → is_whole S p n (class a t) ≡ true
      up f =
          whole-intro (class a t) (record { level_fits = omega arith; residue_fits = l }) (λ r m.
          let c = r / p ^ t % p in
          whole-elim (class (a + p ^ t * c) (suc t)) h (f c (mod-lt (r / p ^ t) hp)) r (record {
            below = m.below;
            congruent = next-digit p hp r t ∙ ap (λ (x : ℕ). x + p ^ t * c) m.congruent;
          }))
