-- The numbers of a set S above a digit c, those congruent to c modulo p. Where they are the numbers of one class a/e, 1 ≤ e: how many they
-- are, and how the class stands in the list of S.
use mathlib.Core.Path.{◌≡◌, sym, ap, ◌∙◌}
use mathlib.Core.Logic.{◌⊎◌, inl, inr, ◌↔◌}
use mathlib.Core.Bool.{Bool, true}
use Prim.Native.Nat.{ℕ, suc, ◌+◌, ◌-◌, ◌*◌, ◌%◌, ◌^◌, ◌≤◌, ◌<◌, ◌∣◌}
use native.Mathlib.Nat.{mod-lt, mod-eq_of_lt, mod-mod_of_dvd, add-mod_right, pow-le-pow_right, pow-succ', pow-zero, mul-le-mul_right}
use native.Mathlib.Nat.{eq-zero-or-pos}
use native.Mathlib.Omega.{arith}
use borrow.Author.Tests.{eqb-true, eq-eqb}
use lib.Dec.{eqb}
use lib.ListN.{length}
use Rattle.theory.specs.Class.{Class, class, IsClass, Contains, is_member, member_count}
use Rattle.theory.specs.Shortest.{is_whole, count, Maximal}
use Rattle.theory.specs.Simple.{is_above}
use Rattle.theory.proofs.Tests.{same_test, and_left, and_right, and_intro, not_holding}
use Rattle.theory.proofs.Numbers.Power.{pow_pos, pow-one, base_dvd}
use Rattle.theory.proofs.Range.{passing_same}
use Rattle.theory.proofs.Classes.Members.{member_congruent, congruent_member}
use Rattle.theory.proofs.Classes.Whole.{whole-elim, whole-intro}
use Rattle.theory.proofs.Classes.Cover.{own_member}
use Rattle.theory.proofs.Classes.Sum.{class_size}

module _ (S : ℕ → Bool) (p c r : ℕ) where
  pub above-intro : (S r ≡ true) × (r % p ≡ c) → is_above S p c r ≡ true
  unfolding is_above
  above-intro (s, q) = and_intro (S r) (eqb (r % p) c) s (eq-eqb (r % p) c q)

  pub above-elim : is_above S p c r ≡ true → (S r ≡ true) × (r % p ≡ c)
  unfolding is_above
  above-elim h = (and_left (S r) (eqb (r % p) c) h, eqb-true (r % p) c (and_right (S r) (eqb (r % p) c) h))

-- they are the numbers congruent to a modulo p^e
pub record OneAbove (S : ℕ → Bool) (p n c e a : ℕ) : Type 0 where
  pub deep : 0 < e
  pub is_class : IsClass p n (class a e)
  pub exactly : (r : ℕ) → ((S r ≡ true) × (r % p ≡ c)) ↔ (r % p ^ e ≡ a)

-- every residue is in S
abbrev pub Everything : (ℕ → Bool) → ℕ → ℕ → Type 0
Everything S p n = (r : ℕ) → r < p ^ n → S r ≡ true

module _ {S : ℕ → Bool} {p n c e a : ℕ} (two : 2 ≤ p) (O : OneAbove S p n c e a) where
  hp : 0 < p
  hp = omega arith

  pub above-member : (r : ℕ) → is_above S p c r ≡ is_member p (class a e) r
  above-member r =
      same_test (is_above S p c r) (is_member p (class a e) r)
      (λ h. congruent_member p (class a e) r ((O.exactly r).0 (above-elim S p c r h)))
      (λ h. above-intro S p c r ((O.exactly r).1 (member_congruent p (class a e) r h)))

  pub above-count : count (is_above S p c) p n ≡ p ^ (n - e)
  unfolding count member_count
  above-count =
      ap length (passing_same (is_above S p c) (is_member p (class a e)) (p ^ n) 0 (λ r l b. above-member r))
      ∙ class_size p n hp (class a e) O.is_class

  -- a itself is above c
  own : (S a ≡ true) × (a % p ≡ c)
  own = (O.exactly a).1 (mod-eq_of_lt O.is_class.residue_fits)

  -- no two of them are below p^e
  no-two : (r k : ℕ) → 0 < k → r + k < p ^ e → (S r ≡ true) × (r % p ≡ c) → (S (r + k) ≡ true) × ((r + k) % p ≡ c) → ⊥
  no-two r k h l u v =
      let first : r % p ^ e ≡ r = mod-eq_of_lt (omega arith) in
      omega (arith, sym first ∙ (O.exactly r).0 u, sym (mod-eq_of_lt l) ∙ (O.exactly (r + k)).0 v)

  wide : (t : ℕ) → t ≤ n → p ^ t ≤ p ^ n
  wide t h = pow-le-pow_right {n = p} hp {i = t} {j = n} h

  -- c and c + p are not both in S where e is above 1
  pub not-everything : 1 < e → ¬ Everything S p n
  not-everything h all =
      let square : p ^ 2 ≡ p * p = pow-succ' p 1 ∙ ap (λ (x : ℕ). p * x) (pow-one p) in
      let digit : c < p = rw (← own.1) (mod-lt a hp) in
      let fits : c + p < p ^ e =
      omega (arith, square, pow-le-pow_right {n = p} hp {i = 2} {j = e} h, mul-le-mul_right p two) in
      let room = wide e O.is_class.level_fits in
      no-two c p hp fits (all c (omega arith), mod-eq_of_lt digit)
      (all (c + p) (omega arith), add-mod_right c p ∙ mod-eq_of_lt digit)

  -- a larger class than a/e with these members that is whole holds everything
  whole-larger : (d : Class) → IsClass p n d → d.level < e → Contains p n d (class a e) → is_whole S p n d ≡ true → Everything S p n
  whole-larger d k low contains w = go (eq-zero-or-pos d.level)
    where
      t : ℕ
      t = d.level

      b : ℕ
      b = d.residue

      inside : (r : ℕ) → r < p ^ n → r % p ^ t ≡ b → S r ≡ true
      inside r l q = whole-elim S p n hp d k.level_fits w r (record { below = l; congruent = q })

      go : (t ≡ 0) ⊎ (0 < t) → Everything S p n
      go (inl z) =
          λ r l.
          let one : p ^ t ≡ 1 = ap (λ (x : ℕ). p ^ x) z ∙ pow-zero p in
          inside r l (omega (arith, mod-lt r (pow_pos p hp t), k.residue_fits, one))
      go (inr h) =
          let q = p ^ t in
          let next : p ^ suc t ≡ p * q = pow-succ' p t in
          let big : p ^ suc t ≤ p ^ e = pow-le-pow_right {n = p} hp {i = suc t} {j = e} low in
          let fits : b + q < p ^ e = omega (arith, k.residue_fits, next, big, mul-le-mul_right q two) in
          let room : p ^ e ≤ p ^ n = wide e O.is_class.level_fits in
          let step : p ∣ q = base_dvd p h in
          let a_in : a % q ≡ b = (contains a (own_member p n hp (class a e) O.is_class)).congruent in
          let near : (r : ℕ) → r % q ≡ b → r % p ≡ c =
          λ r u. sym (mod-mod_of_dvd p r step) ∙ ap (λ (x : ℕ). x % p) (u ∙ sym a_in) ∙ mod-mod_of_dvd p a step ∙ own.1 in
          let first : b % q ≡ b = mod-eq_of_lt k.residue_fits in
          let second : (b + q) % q ≡ b = add-mod_right b q ∙ first in
          absurd (no-two b q (pow_pos p hp t) fits (inside b (omega arith) first, near b first)
          (inside (b + q) (omega arith) second, near (b + q) second))

  -- so a/e is whole and lies in no larger whole class, but where everything is in S
  pub one-maximal : ¬ Everything S p n → Maximal S p n (class a e)
  one-maximal some =
      record {
        is_class = O.is_class;
        whole = whole-intro S p n hp (class a e) O.is_class (λ r m. ((O.exactly r).1 m.congruent).0);
        in_no_larger = λ d k low contains. not_holding (is_whole S p n d) (λ w. some (whole-larger d k low contains w));
      }
