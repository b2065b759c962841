-- Two classes share a member exactly if their residues are congruent at the lower of their levels, and then one contains the other.
use mathlib.Core.Path.{◌≡◌, refl, sym, ap, ◌∙◌}
use mathlib.Core.Logic.{◌⊎◌, inl, inr}
use mathlib.Core.Bool.{true}
use Prim.Native.Nat.{ℕ, ◌%◌, ◌^◌, ◌≤◌, ◌<◌, min}
use native.Mathlib.Nat.{mod-mod_of_dvd, mod-eq_of_lt, min-eq_left, min_comm, min-le_left, min-le_right, le_of_lt, lt_of_not-le}
use native.Mathlib.Decide.{dec_le}
use borrow.Author.Tests.{eqb-true, eq-eqb}
use Rattle.theory.specs.Class.{Class, IsClass, Member, Contains, share}
use Rattle.theory.proofs.Numbers.Power.{pow_dvd}
use Rattle.theory.proofs.Classes.Cover.{own_member}

-- r is a member of both
pub record Common (p n : ℕ) (c d : Class) : Type 0 where
  pub residue : ℕ
  pub of_first : Member p n c residue
  pub of_second : Member p n d residue

pub share_self : (p : ℕ) (c : Class) → share p c c ≡ true
unfolding share
share_self p c = eq-eqb (c.residue % p ^ min c.level c.level) (c.residue % p ^ min c.level c.level) refl

pub share_comm : (p : ℕ) (c d : Class) → share p c d ≡ true → share p d c ≡ true
unfolding share
share_comm p c d e =
    let q = eqb-true (c.residue % p ^ min c.level d.level) (d.residue % p ^ min c.level d.level) e in
    eq-eqb (d.residue % p ^ min d.level c.level) (c.residue % p ^ min d.level c.level)
    (rw (min_comm d.level c.level) (sym q))

module _ (p n : ℕ) (hp : 0 < p) where
  -- where the first has the lower level, its residue is the second's modulo its own power
  lower-first : (c d : Class) → IsClass p n c → c.level ≤ d.level → share p c d ≡ true → d.residue % p ^ c.level ≡ c.residue
  unfolding share
  lower-first c d k l e =
      let m : min c.level d.level ≡ c.level = min-eq_left l in
      sym (rw m at (eqb-true (c.residue % p ^ min c.level d.level) (d.residue % p ^ min c.level d.level) e))
      ∙ mod-eq_of_lt k.residue_fits

  -- a class that shares a member with one of no lower level contains it
  contains-lower : (c d : Class) → IsClass p n c → c.level ≤ d.level → share p c d ≡ true → Contains p n c d
  contains-lower c d k l e r m =
      record {
        below = m.below;
        congruent =
            sym (mod-mod_of_dvd (p ^ c.level) r (pow_dvd p l))
            ∙ ap (λ (x : ℕ). x % p ^ c.level) m.congruent
            ∙ lower-first c d k l e;
      }

  -- "Two classes share a member only when one contains the other"
  pub share-contains : (c d : Class) → IsClass p n c → IsClass p n d → share p c d ≡ true → Contains p n c d ⊎ Contains p n d c
  share-contains c d kc kd e = go (dec_le c.level d.level)
    where
      go : Dec (c.level ≤ d.level) → Contains p n c d ⊎ Contains p n d c
      go (yes l) = inl (contains-lower c d kc l e)
      go (no l) = inr (contains-lower d c kd (le_of_lt (lt_of_not-le l)) (share_comm p c d e))

  -- classes that share a member have a residue below pⁿ in common
  pub share-common : (c d : Class) → IsClass p n c → IsClass p n d → share p c d ≡ true → Common p n c d
  share-common c d kc kd e = go (share-contains c d kc kd e)
    where
      go : Contains p n c d ⊎ Contains p n d c → Common p n c d
      go (inl f) = let own = own_member p n hp d kd in record { residue = d.residue; of_first = f d.residue own; of_second = own }
      go (inr f) = let own = own_member p n hp c kc in record { residue = c.residue; of_first = own; of_second = f c.residue own }

  -- and conversely
  pub common-share : (c d : Class) → Common p n c d → share p c d ≡ true
  unfolding share
  common-share c d w =
      let m = min c.level d.level in
      let r = w.residue in
      let first : c.residue % p ^ m ≡ r % p ^ m =
      ap (λ (x : ℕ). x % p ^ m) (sym w.of_first.congruent) ∙ mod-mod_of_dvd (p ^ m) r (pow_dvd p (min-le_left c.level d.level)) in
      let second : d.residue % p ^ m ≡ r % p ^ m =
      ap (λ (x : ℕ). x % p ^ m) (sym w.of_second.congruent)
      ∙ mod-mod_of_dvd (p ^ m) r (pow_dvd p (min-le_right c.level d.level)) in
      eq-eqb (c.residue % p ^ m) (d.residue % p ^ m) (first ∙ sym second)
