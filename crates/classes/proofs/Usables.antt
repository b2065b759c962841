-- The entries that have no fault of their own: they are classes, and their residues rise.
use mathlib.Core.Path.{◌≡◌, refl, ◌∙◌}
use mathlib.Core.Logic.{◌⊎◌, inl, inr}
use mathlib.Core.Bool.{Bool, true, false, ◌||◌}
use mathlib.Core.List.{List}
use Prim.Native.Nat.{ℕ, zero, suc, ◌-◌, ◌^◌, ◌≤◌, ◌<◌}
use native.Mathlib.Nat.{eq-or-lt_of_le}
use native.Mathlib.Omega.{arith}
use borrow.Author.Tests.{ltb-false, lt-ltb, le-ltb, not-false}
use lib.IntN.{ℤ, pos}
use lib.ListN.{length, get_or, take}
use Rattle.std.proofs.lemmas.List.{length-take-le, get_or-take}
use lib.Signed.{lt_z, le_z}
use Rattle.theory.specs.Centered.{is_centered}
use Rattle.theory.specs.SignedClass.{SignedClass, signed_class, IsSignedClass, signed_slot}
use Rattle.theory.proofs.Tests.{or_left, or_right, or_fails_left, or_fails_right}
use Rattle.theory.proofs.Range.{before_least, least_range}
use Rattle.theory.proofs.Least.{least_is}
use Rattle.theory.proofs.Numbers.Integers.{less-is, is-less, not-at-most-is}
use Rattle.classes.specs.Rule7.{classes_of, level_above, residue_outside, not_above}
use Rattle.classes.specs.inner.Search.{unusable_at, usable_to, RisingTo}
use Rattle.classes.proofs.Entries.{classes_slot, classes_same_length}

-- One entry

module _ (p n : ℕ) (L : List SignedClass) (i : ℕ) where
  abbrev a : Bool
  a = level_above n (signed_slot L i)

  abbrev b : Bool
  b = residue_outside p (signed_slot L i)

  module _ (e : unusable_at p n L i ≡ false) where
    -- it is a class
    pub usable-class : IsSignedClass p n (signed_slot L i)
    unfolding unusable_at level_above residue_outside
    usable-class =
        let ab : (a || b) ≡ false = or_fails_left (a || b) (not_above L i) e in
        record {
          level_fits = ltb-false n (signed_slot L i).level (or_fails_left a b ab);
          residue_fits = not-false (is_centered (p ^ (signed_slot L i).level) (signed_slot L i).residue) (or_fails_right a b ab);
        }

    -- and above the entry before
    pub usable-above : not_above L i ≡ false
    unfolding unusable_at
    usable-above = or_fails_right (a || b) (not_above L i) e

above_before : (L : List SignedClass) (i : ℕ) → not_above L (suc i) ≡ false
    → lt_z (signed_slot L i).residue (signed_slot L (suc i)).residue ≡ true
unfolding not_above
above_before L i e =
    is-less (signed_slot L i).residue (signed_slot L (suc i)).residue
    (not-at-most-is (signed_slot L (suc i)).residue (signed_slot L i).residue e)

-- integers that rise from each to the next
rising_steps : (f : ℕ → ℤ) (m : ℕ) → ((k : ℕ) → suc k < m → lt_z (f k) (f (suc k)) ≡ true) → (j k : ℕ) → j < k → k < m
    → lt_z (f j) (f k) ≡ true
rising_steps f m step j zero h l = absurd (omega arith)
rising_steps f m step j (suc k) h l = go (rising_steps f m step j k) (eq-or-lt_of_le h)
  where
    go : (j < k → k < m → lt_z (f j) (f k) ≡ true) → (suc j ≡ suc k) ⊎ (suc j < suc k) → lt_z (f j) (f (suc k)) ≡ true
    go ih (inl q) = let s : j ≡ k = omega arith in rw s (step k l)
    go ih (inr q) =
        is-less (f j) (f (suc k))
        (omega (arith, less-is (f j) (f k) (ih (omega arith) (omega arith)), less-is (f k) (f (suc k)) (step k l)))

-- The first m of them

module _ (p n : ℕ) (L : List SignedClass) where
  pub usable-fits : usable_to p n L ≤ length L
  unfolding usable_to
  usable-fits = let r = least_range (unusable_at p n L) (length L) 0 in omega (arith, r.1)

  pub usable-before : (i : ℕ) → i < usable_to p n L → unusable_at p n L i ≡ false
  unfolding usable_to
  usable-before i h = before_least (unusable_at p n L) (length L) 0 i (omega arith) h

  pub usable-rises : (j k : ℕ) → j < k → k < usable_to p n L → lt_z (signed_slot L j).residue (signed_slot L k).residue ≡ true
  usable-rises =
      rising_steps (λ k. (signed_slot L k).residue) (usable_to p n L)
      (λ k l. above_before L k (usable-above p n L (suc k) (usable-before (suc k) l)))

  -- the first i have no fault, and entry i has, or it is past the end
  pub usable-is : (i : ℕ) → i ≤ length L → ((j : ℕ) → j < i → unusable_at p n L j ≡ false) → (i < length L → unusable_at p n L i ≡ true)
      → usable_to p n L ≡ i
  unfolding usable_to
  usable-is i h before here =
      least_is (unusable_at p n L) (length L) 0 i (omega arith) (omega arith) (λ j low l. before j l) (λ l. here (omega arith))

-- Entry i of a lent list

module _ (p n : ℕ) (residues : List ℤ) (levels : List ℕ) (i : ℕ) (hr : i < length residues) (hl : i < length levels) where
  abbrev L : List SignedClass
  L = classes_of residues levels

  abbrev z : ℤ
  z = get_or residues i (pos 0)

  abbrev t : ℕ
  t = get_or levels i 0

  entry : (j : ℕ) → j ≤ i → signed_slot L j ≡ signed_class (get_or residues j (pos 0)) (get_or levels j 0)
  entry j h = classes_slot residues levels j (omega arith) (omega arith)

  -- "level above n"
  pub level-fault : n < t → unusable_at p n L i ≡ true
  unfolding unusable_at level_above
  level-fault h =
      let e : level_above n (signed_slot L i) ≡ true = rw (entry i (omega arith)) (lt-ltb n t h) in
      rw e

  -- out of range
  pub residue-fault : is_centered (p ^ t) z ≡ false → unusable_at p n L i ≡ true
  unfolding unusable_at residue_outside
  residue-fault h =
      let e : residue_outside p (signed_slot L i) ≡ true = rw (entry i (omega arith), h) in
      or_left (level_above n (signed_slot L i) || residue_outside p (signed_slot L i)) (not_above L i)
      (or_right (level_above n (signed_slot L i)) (residue_outside p (signed_slot L i)) e)

  -- otherwise the order decides
  module _ (level : t ≤ n) (range : is_centered (p ^ t) z ≡ true) where
    order-fault : unusable_at p n L i ≡ not_above L i
    unfolding unusable_at level_above residue_outside
    order-fault =
        let A : level_above n (signed_slot L i) ≡ false = rw (entry i (omega arith)) (le-ltb n t level) in
        let B : residue_outside p (signed_slot L i) ≡ false = rw (entry i (omega arith), range) in
        rw (A, B)

    first_above : (j : ℕ) → j ≡ 0 → not_above L j ≡ false
    unfolding not_above
    first_above zero e = refl
    first_above (suc j) e = absurd (omega arith)

    not-above-at : (j : ℕ) → 0 < j → j ≤ i → not_above L j ≡ le_z (get_or residues j (pos 0)) (get_or residues (j - 1) (pos 0))
    unfolding not_above
    not-above-at zero h l = absurd (omega arith)
    not-above-at (suc j) h l =
        let e : suc j - 1 ≡ j = omega arith in
        rw (entry (suc j) l, entry j (omega arith), e)

    pub first-usable : i ≡ 0 → unusable_at p n L i ≡ false
    first-usable e = order-fault ∙ first_above i e

    pub order-decides : 0 < i → unusable_at p n L i ≡ le_z z (get_or residues (i - 1) (pos 0))
    order-decides h = order-fault ∙ not-above-at i h (omega arith)

-- the usable entries' residues rise
pub usable_rising : (p n : ℕ) (residues : List ℤ) (levels : List ℕ) → length residues ≡ length levels
    → RisingTo residues (usable_to p n (classes_of residues levels))
usable_rising p n residues levels same =
    let L = classes_of residues levels in
    let fits : usable_to p n L ≤ length residues = omega (arith, usable-fits p n L, classes_same_length residues levels same) in
    record {
      rises = λ j k l u.
          rw (classes_slot residues levels j (omega arith) (omega arith), classes_slot residues levels k (omega arith) (omega arith))
          at (usable-rises p n L j k l u);
    }

-- and so those of the list of these entries
pub front_rising : (residues : List ℤ) (m : ℕ) → m ≤ length residues → RisingTo residues m
    → RisingTo (take m residues) (length (take m residues))
front_rising residues m h R =
    let long = length-take-le m residues h in
    record {
      rises = λ j k l u.
          rw (get_or-take m residues j (pos 0) (omega arith), get_or-take m residues k (pos 0) (omega arith)) (R.rises j k l (omega arith));
    }
