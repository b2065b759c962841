-- What a list has that rule 7 passes.
use mathlib.Core.Path.{◌≡◌, sym, ap, ◌∙◌}
use mathlib.Core.Bool.{false}
use mathlib.Core.List.{List}
use Prim.Native.Nat.{ℕ, ◌^◌, ◌≤◌, ◌<◌}
use native.Mathlib.Decide.{dec_lt}
use native.Mathlib.Omega.{arith}
use lib.IntN.{ℤ, pos}
use lib.ListN.{length, length-map, get_or}
use Rattle.theory.specs.Lists.{In}
use Rattle.theory.specs.Class.{Class, class, IsClass, Member, share}
use Rattle.theory.specs.ClassList.{slot, member_total}
use Rattle.theory.specs.SignedClass.{SignedClass, signed_class, IsSignedClass, natural, naturals, signed_slot, levels_of}
use Rattle.theory.proofs.Tests.{contradiction, or_fails_left, or_fails_right}
use Rattle.theory.proofs.Lists.Index.{index_of, no_repeat_at}
use Rattle.theory.proofs.Lists.Map.{in_map}
use Rattle.theory.proofs.Classes.Share.{common-share, share_self}
use Rattle.theory.proofs.Classes.Sum.{Disjoint, disjoint_most, total_least}
use Rattle.theory.proofs.Classes.Apart.{Apart}
use Rattle.theory.proofs.Signed.Classes.{natural-class, natural-levels}
use Rattle.theory.proofs.Range.{none_found}
use Rattle.classes.specs.Rule7.{classes_of, shared_earlier, fault_at}
use Rattle.classes.specs.inner.Search.{unusable_at, usable_to}
use Rattle.classes.specs.inner.Usable.{Faultless}
use Rattle.classes.proofs.Entries.{classes_slot, classes_same_length, natural-slot}
use Rattle.classes.proofs.Usables.{usable-class, usable-rises, usable-is}

-- a list none of whose entries has a fault
pub faultless_list : (p n : ℕ) (L : List SignedClass) → ((i : ℕ) → i < length L → fault_at p n L i ≡ false) → Faultless p n L
unfolding fault_at unusable_at shared_earlier
faultless_list p n L none =
    record {
      class_at = λ i h. usable-class p n L i (usable i h);
      rises = λ i j l h. usable-rises p n L i j l (omega (arith, all));
      apart = λ i j l h.
          none_found (λ k. share p (natural p (signed_slot L k)) (natural p (signed_slot L j))) j
          (or_fails_right (unusable_at p n L j) (shared_earlier p L j) (none j h)) i l;
    }
  where
    usable : (i : ℕ) → i < length L → unusable_at p n L i ≡ false
    usable i h = or_fails_left (unusable_at p n L i) (shared_earlier p L i) (none i h)

    all : usable_to p n L ≡ length L
    all = usable-is p n L (length L) (omega arith) usable (λ h. absurd (omega arith))

module _ (p n : ℕ) (L : List SignedClass) (hp : 0 < p) (F : Faultless p n L) where
  abbrev N : List Class
  N = naturals p L

  long : length N ≡ length L
  long = length-map L (natural p)

  -- its classes, as 01's
  pub faultless-in : (c : Class) → In c (naturals p L) → IsClass p n c
  faultless-in c u =
      let (d, v, e) = in_map (natural p) L c u in
      let (i, h, f) = index_of L (signed_class (pos 0) 0) d v in
      rw (e, f) (natural-class p n hp (signed_slot L i) (F.class_at i h).level_fits)

  share-at : (i j : ℕ) → i < j → j < length L → share p (slot N i) (slot N j) ≡ false
  share-at i j h l = rw (natural-slot p L i (omega arith), natural-slot p L j l) (F.apart i j h l)

  distinct : (i j : ℕ) → i < j → j < length N → slot N i ≡ slot N j → ⊥
  distinct i j h l e =
      contradiction (ap (λ (c : Class). share p c (slot N j)) e ∙ share_self p (slot N j)) (share-at i j h (omega (arith, long)))

  clash : (i j : ℕ) → i < j → j < length N → (r : ℕ) → Member p n (slot N i) r → Member p n (slot N j) r → ⊥
  clash i j h l r u v =
      contradiction (common-share p n hp (slot N i) (slot N j) (record { residue = r; of_first = u; of_second = v }))
      (share-at i j h (omega (arith, long)))

  disjoint : Disjoint p n N
  disjoint c d u v r mc md =
      let (i, hi, ei) = index_of N (class 0 0) c u in
      let (j, hj, ej) = index_of N (class 0 0) d v in
      ei ∙ go i j hi hj (rw ei at mc) (rw ej at md) (dec_lt i j) (dec_lt j i) ∙ sym ej
    where
      go : (i j : ℕ) → i < length N → j < length N → Member p n (slot N i) r → Member p n (slot N j) r → Dec (i < j) → Dec (j < i)
          → slot N i ≡ slot N j
      go i j hi hj mi mj (yes h) w = absurd (clash i j h hj r mi mj)
      go i j hi hj mi mj (no h) (yes k) = absurd (clash j i k hi r mj mi)
      go i j hi hj mi mj (no h) (no k) = let e : i ≡ j = omega arith in ap (slot N) e

  -- its classes share no member
  pub faultless-apart : Apart p n (naturals p L)
  faultless-apart = record { classes = faultless-in; no_repeat = no_repeat_at N (class 0 0) distinct; disjoint = disjoint }

  -- so together they have at most pⁿ
  pub faultless-most : member_total p n (levels_of L) ≤ p ^ n
  faultless-most =
      let k = faultless-apart in
      rw (natural-levels p L) at (disjoint_most p n hp N k.classes k.no_repeat k.disjoint)

  -- and there are at most pⁿ of them
  pub faultless-few : length L ≤ p ^ n
  faultless-few = omega (arith, faultless-most, total_least p n hp (levels_of L), length-map L (λ (c : SignedClass). c.level))

-- a list without a fault at n has none at a higher precision
pub faultless_higher : {p n m : ℕ} {L : List SignedClass} → n ≤ m → Faultless p n L → Faultless p m L
faultless_higher h F =
    record {
      class_at = λ i l. let k = F.class_at i l in record { level_fits = omega (arith, k.level_fits); residue_fits = k.residue_fits };
      rises = F.rises;
      apart = F.apart;
    }

-- entry i of a lent list, as its residue and its level
pub faultless_entry : (p n : ℕ) (residues : List ℤ) (levels : List ℕ) → length residues ≡ length levels
    → Faultless p n (classes_of residues levels) → (i : ℕ) → i < length residues
    → IsSignedClass p n (signed_class (get_or residues i (pos 0)) (get_or levels i 0))
faultless_entry p n residues levels same F i h =
    rw (classes_slot residues levels i h (omega arith)) at (F.class_at i (omega (arith, classes_same_length residues levels same)))
