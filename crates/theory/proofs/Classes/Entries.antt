-- The entries of `shortest` are exactly the whole classes that lie in no larger whole class.
use mathlib.Core.Path.{◌≡◌, refl, sym, ap, ◌∙◌}
use mathlib.Core.Logic.{◌⊎◌, inl, inr}
use mathlib.Core.Bool.{Bool, true, false}
use Prim.Native.Nat.{ℕ, ◌%◌, ◌^◌, ◌≤◌, ◌<◌}
use native.Mathlib.Nat.{eq-or-lt_of_le, mod-eq_of_lt, mod-mod_of_dvd, mod-lt, le_trans, le_of_lt}
use Rattle.theory.specs.Lists.{In}
use Rattle.theory.specs.Class.{Class, IsClass, Contains}
use Rattle.theory.specs.Shortest.{is_whole, class_at, level_of, shortest, Maximal}
use Rattle.theory.proofs.Tests.{contradiction}
use Rattle.theory.proofs.Lists.Names.{in-cast}
use Rattle.theory.proofs.Numbers.Power.{pow_pos, pow_dvd}
use Rattle.theory.proofs.Classes.Equal.{class_equal}
use Rattle.theory.proofs.Classes.Whole.{whole-elim}
use Rattle.theory.proofs.Classes.Level.{level-whole, below-level}
use Rattle.theory.proofs.Classes.Cover.{own_member, listed, member-level, shortest-complete}

-- a maximal whole class, by the larger classes of its own residue
pub record Entry (S : ℕ → Bool) (p n : ℕ) (e : Class) : Type 0 where
  pub is_class : IsClass p n e
  pub whole : is_whole S p n e ≡ true
  pub in_no_larger : (t : ℕ) → t < e.level → is_whole S p n (class_at p e.residue t) ≡ false

-- a class lies in its residue's class of any lower level
pub contained_at : (p n : ℕ) (c : Class) (t : ℕ) → t ≤ c.level → Contains p n (class_at p c.residue t) c
contained_at p n c t h r m =
    record {
      below = m.below;
      congruent = sym (mod-mod_of_dvd (p ^ t) r (pow_dvd p h)) ∙ ap (λ (x : ℕ). x % p ^ t) m.congruent;
    }

module _ (S : ℕ → Bool) (p n : ℕ) (hp : 0 < p) where
  entry-level : (e : Class) → Entry S p n e → level_of S p n e.residue ≡ e.level
  entry-level e k = go (eq-or-lt_of_le hit.1)
    where
      l : ℕ
      l = level_of S p n e.residue

      hit : (is_whole S p n (class_at p e.residue l) ≡ true) × (l ≤ e.level)
      hit = level-whole S p n e.residue e.level k.is_class.level_fits (rw (mod-eq_of_lt k.is_class.residue_fits) k.whole)

      go : (l ≡ e.level) ⊎ (l < e.level) → l ≡ e.level
      go (inl q) = q
      go (inr h) = absurd (contradiction hit.0 (k.in_no_larger l h))

  pub entry_listed : (e : Class) → Entry S p n e → In e (shortest S p n)
  entry_listed e k =
      let own = own_member p n hp e k.is_class in
      let s = whole-elim S p n hp e k.is_class.level_fits k.whole e.residue own in
      let h = shortest-complete S p n hp e.residue own.below s in
      let t : e.level ≡ h.entry.level =
      sym (entry-level e k) ∙ member-level S p n hp h.entry h.listed e.residue h.member in
      let a : e.residue ≡ h.entry.residue = sym own.congruent ∙ ap (λ (x : ℕ). e.residue % p ^ x) t ∙ h.member.congruent in
      in-cast (class_equal a t) h.listed

  pub listed-entry : (c : Class) → In c (shortest S p n) → Entry S p n c
  listed-entry c u =
      let k = listed S p n hp c u in
      record {
        is_class = k.is_class;
        whole = k.whole;
        in_no_larger = λ t h. below-level S p n c.residue t (rw k.its-level h);
      }

  -- "The list holds the whole classes that lie in no larger whole class", both ways
  pub maximal-listed : (c : Class) → Maximal S p n c → In c (shortest S p n)
  maximal-listed c k =
      entry_listed c (record {
        is_class = k.is_class;
        whole = k.whole;
        in_no_larger = λ t h.
            k.in_no_larger (class_at p c.residue t)
            (record { level_fits = le_trans (le_of_lt h) k.is_class.level_fits; residue_fits = mod-lt c.residue (pow_pos p hp t) }) h
            (contained_at p n c t (le_of_lt h));
      })

  pub listed-maximal : (c : Class) → In c (shortest S p n) → Maximal S p n c
  listed-maximal c u =
      let k = listed-entry c u in
      record {
        is_class = k.is_class;
        whole = k.whole;
        in_no_larger = λ d kd h f.
            let a = (f c.residue (own_member p n hp c k.is_class)).congruent in
            ap (is_whole S p n) (class_equal (sym a) refl) ∙ k.in_no_larger d.level h;
      }
