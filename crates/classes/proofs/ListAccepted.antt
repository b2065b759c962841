-- The converse of rule 7: a list that has what the rule asks passes it, and the list of largest whole classes is one.
use Rattle.std.specs.Prelude.{Ok}
use mathlib.Core.Path.{◌≡◌, refl, sym, ap}
use mathlib.Core.Bool.{Bool, true, false, not}
use mathlib.Core.List.{List}
use Prim.Native.Nat.{ℕ, zero, suc, ◌≤◌, ◌<◌}
use native.Mathlib.Omega.{arith}
use borrow.Author.Tests.{le-ltb}
use lib.IntN.{pos}
use lib.ListN.{length, length-map}
use lib.Signed.{lt_z}
use Rattle.theory.specs.Class.{share}
use Rattle.theory.specs.SignedClass.{SignedClass, signed_class, IsSignedClass, natural, signed_slot, residues_of, levels_of}
use Rattle.theory.specs.SignedList.{signed_list}
use Rattle.theory.proofs.Tests.{not_holding}
use Rattle.theory.proofs.Lists.Index.{in_at, same_index}
use Rattle.theory.proofs.Lists.Rising.{rising-at}
use Rattle.theory.proofs.Numbers.Integers.{less-is, is-not-at-most}
use Rattle.theory.proofs.Classes.Share.{share-common}
use Rattle.theory.proofs.Signed.Classes.{natural-class}
use Rattle.theory.proofs.Signed.List.{SignedEarlier, signed-rising, signed-no-repeat}
use Rattle.theory.proofs.Signed.Entries.{list-class}
use Rattle.theory.proofs.Signed.Demand.{signed-disjoint}
use Rattle.theory.proofs.Range.{none_passes}
use Rattle.theory.proofs.Least.{least_is}
use Rattle.numbers.specs.inner.Usable.{Usable}
use Rattle.classes.specs.Rule7.{classes_of, level_above, residue_outside, not_above, shared_earlier, fault_at, first_fault}
use Rattle.classes.specs.Checked.{checked_of}
use Rattle.classes.specs.inner.Usable.{Faultless}
use Rattle.classes.proofs.Entries.{classes_of_parts}
use Rattle.classes.proofs.Checks.{checked-passes}

above : (L : List SignedClass) → ((i j : ℕ) → i < j → j < length L → lt_z (signed_slot L i).residue (signed_slot L j).residue ≡ true)
    → (i : ℕ) → i < length L → not_above L i ≡ false
unfolding not_above
above L rises zero h = refl
above L rises (suc i) h =
    let y = (signed_slot L i).residue in
    let z = (signed_slot L (suc i)).residue in
    is-not-at-most z y (less-is y z (rises i (suc i) (omega arith) h))

module _ (p n : ℕ) (L : List SignedClass) (F : Faultless p n L) where
  no-fault : (i : ℕ) → i < length L → fault_at p n L i ≡ false
  unfolding fault_at level_above residue_outside shared_earlier
  no-fault i h =
      let c = signed_slot L i in
      let level : level_above n c ≡ false = le-ltb n c.level (F.class_at i h).level_fits in
      let residue : residue_outside p c ≡ false = ap not (F.class_at i h).residue_fits in
      let shared : shared_earlier p L i ≡ false =
      none_passes (λ j. share p (natural p (signed_slot L j)) (natural p c)) i (λ j l. F.apart j i l h) in
      rw (level, residue, above L F.rises i h, shared)

  -- such a list has no first fault
  pub faultless-first : first_fault p n L ≡ length L
  unfolding first_fault
  faultless-first =
      least_is (fault_at p n L) (length L) 0 (length L) (omega arith) (omega arith) (λ j low h. no-fault j h) (λ h. absurd (omega arith))

module _ (S : ℕ → Bool) (p n : ℕ) (two : 2 ≤ p) where
  hp : 0 < p
  hp = omega arith

  abbrev list : List SignedClass
  list = signed_list S p n

  abbrev none : SignedClass
  none = signed_class (pos 0) 0

  class_at : (i : ℕ) → i < length list → IsSignedClass p n (signed_slot list i)
  class_at i h = list-class S p n hp (signed_slot list i) (in_at list i none h)

  pub list-faultless : Faultless p n (signed_list S p n)
  list-faultless =
      record {
        class_at = class_at;
        rises = rising-at SignedEarlier list none (signed-rising S p n);
        apart = λ i j l h.
            not_holding (share p (natural p (signed_slot list i)) (natural p (signed_slot list j))) (λ e. both i j l h e);
      }
    where
      both : (i j : ℕ) → i < j → j < length list → share p (natural p (signed_slot list i)) (natural p (signed_slot list j)) ≡ true → ⊥
      both i j l h e =
          let hi : i < length list = omega arith in
          let at : (k : ℕ) (b : k < length list) → _ = λ k b. natural-class p n hp (signed_slot list k) (class_at k b).level_fits in
          let w = share-common p n hp (natural p (signed_slot list i)) (natural p (signed_slot list j)) (at i hi) (at j h) e in
          omega (
            arith,
            same_index list none (signed-no-repeat S p n) i j hi h
                (signed-disjoint S p n two (signed_slot list i) (signed_slot list j) (in_at list i none hi) (in_at list j none h) w.residue
                w.of_first w.of_second),
          )

-- the residues and levels of the list are accepted
pub list_accepted : (S : ℕ → Bool) (p n m : ℕ) → Usable p n m
    → checked_of p n (residues_of (signed_list S p n)) (levels_of (signed_list S p n)) ≡ Ok m
list_accepted S p n m U =
    let L = signed_list S p n in
    let residues = residues_of L in
    let levels = levels_of L in
    let nr : length residues ≡ length L = length-map L (λ (c : SignedClass). c.residue) in
    let nl : length levels ≡ length L = length-map L (λ (c : SignedClass). c.level) in
    let first : length L ≡ first_fault p n (classes_of residues levels) =
    rw (classes_of_parts L) (sym (faultless-first p n L (list-faultless S p n U.prime.two))) in
    checked-passes p n residues levels U (omega arith) (length L) first (omega arith)
