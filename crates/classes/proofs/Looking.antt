-- Looking a class up by a binary search of the residues, which rise.
use mathlib.Core.Path.{◌≡◌, sym, ap, ◌∙◌}
use mathlib.Core.Bool.{true}
use mathlib.Core.List.{List}
use Prim.Native.Nat.{ℕ, ◌≤◌, ◌<◌}
use native.Mathlib.Decide.{dec_lt}
use native.Mathlib.Omega.{arith}
use Rattle.std.proofs.Common.{Ordering, Less, Equal, Greater}
use lib.IntN.{ℤ, pos}
use lib.ListN.{length, get_or}
use lib.Signed.{◌<ℤ◌, ◌≤ℤ◌}
use Rattle.std.specs.Ordering.{MatchOrdering, int_cmp, ordering_index}
use Rattle.std.specs.Cmp.{int_ranks, int_ranked}
use Rattle.std.specs.List.Sorted.{IsNonDecreasingBy, IsPartitionPoint}
use Rattle.std.proofs.lemmas.Int.{ints}
use Rattle.std.proofs.lemmas.List.Sorted.{IsNonDecreasingBy-from_default}
use Rattle.theory.specs.SignedClass.{SignedClass, signed_class, signed_slot}
use Rattle.theory.proofs.Tests.{not_holding}
use Rattle.theory.proofs.Least.{least_is}
use Rattle.theory.proofs.Numbers.Integers.{up, down, less-is}
use Rattle.classes.specs.Rule7.{classes_of}
use Rattle.classes.specs.inner.Search.{same_class, RisingTo, index_of}
use Rattle.classes.proofs.Entries.{classes_slot}
use Rattle.classes.proofs.Sharing.{same_equal, equal_same}

-- The search for a number

-- comparisons with x rise with the numbers
higher : (a b x : ℤ) → a ≤ℤ b → ordering_index (int_cmp a x) ≤ ordering_index (int_cmp b x)
higher a b x h = go (int_cmp a x) (int_cmp b x) (int_ranks a x) (int_ranks b x)
  where
    go : (r s : Ordering) → MatchOrdering r (a <ℤ x) (a ≡ x) (x <ℤ a) → MatchOrdering s (b <ℤ x) (b ≡ x) (x <ℤ b)
        → ordering_index r ≤ ordering_index s
    go Less s u v = omega arith
    go Equal Less u v = absurd (omega (arith, ints))
    go Equal Equal u v = omega arith
    go Equal Greater u v = omega arith
    go Greater Less u v = absurd (omega (arith, ints))
    go Greater Equal u v = absurd (omega (arith, ints))
    go Greater Greater u v = omega arith

module _ (l : List ℤ) (R : RisingTo l (length l)) (x : ℤ) where
  comparisons_rise : IsNonDecreasingBy (λ y. ordering_index (int_cmp y x)) l
  comparisons_rise =
      IsNonDecreasingBy-from_default (λ y. ordering_index (int_cmp y x)) l (pos 0) (λ i j le lt.
      higher (get_or l i (pos 0)) (get_or l j (pos 0)) x (rising i j le lt))
    where
      rising : (i j : ℕ) → i ≤ j → j < length l → get_or l i (pos 0) ≤ℤ get_or l j (pos 0)
      rising i j le lt = go (dec_lt i j)
        where
          go : Dec (i < j) → get_or l i (pos 0) ≤ℤ get_or l j (pos 0)
          go (yes u) = let r = R.rises i j u lt in grind (arith, ints)
          go (no u) = let e : i ≡ j = omega arith in rw e (omega (arith, ints))

  -- where the search ends between two numbers, none is x
  pub searched_absent : (i : ℕ)
      → (IsNonDecreasingBy (λ y. ordering_index (int_cmp y x)) l
      → IsPartitionPoint (λ y. int_cmp y x ≡ Less) (λ y. int_cmp y x ≡ Greater) l i)
      → (k : ℕ) → k < length l → get_or l k (pos 0) ≡ x → ⊥
  searched_absent i parted k h e = go (dec_lt k i)
    where
      parts : IsPartitionPoint (λ y. int_cmp y x ≡ Less) (λ y. int_cmp y x ≡ Greater) l i
      parts = parted comparisons_rise

      go : Dec (k < i) → ⊥
      go (yes u) =
          let b : get_or l k (pos 0) <ℤ x = int_ranked _ _ Less (sym (parts.0 k (pos 0) (omega arith) u)) in omega (arith, ints)
      go (no u) =
          let b : x <ℤ get_or l k (pos 0) = int_ranked _ _ Greater (sym (parts.1 k (pos 0) (omega arith) h)) in omega (arith, ints)

-- One class

module _ (residues : List ℤ) (levels : List ℕ) (m : ℕ) (hr : m ≤ length residues) (hl : m ≤ length levels) (a : ℤ) (t : ℕ) where
  abbrev L : List SignedClass
  L = classes_of residues levels

  abbrev c : SignedClass
  c = signed_class a t

  abbrev residue : ℕ → ℤ
  residue k = get_or residues k (pos 0)

  entry : (k : ℕ) → k < m → signed_slot L k ≡ signed_class (residue k) (get_or levels k 0)
  entry k h = classes_slot residues levels k (omega arith) (omega arith)

  same : (k : ℕ) → k < m → same_class (signed_slot L k) c ≡ true → signed_class (residue k) (get_or levels k 0) ≡ c
  same k h e = sym (entry k h) ∙ same_equal (signed_slot L k) c e

  nowhere : ((k : ℕ) → k < m → same_class (signed_slot L k) c ≡ true → ⊥) → index_of L m c ≡ m
  unfolding index_of
  nowhere h =
      least_is (λ k. same_class (signed_slot L k) c) m 0 m (omega arith) (omega arith)
      (λ k low u. not_holding (same_class (signed_slot L k) c) (h k u)) (λ u. absurd (omega arith))

  -- no entry has the residue
  pub index_absent : ((k : ℕ) → k < m → get_or residues k (pos 0) ≡ a → ⊥) → index_of (classes_of residues levels) m (signed_class a t) ≡ m
  index_absent none = nowhere (λ k h e. none k h (λ i. (same k h e i).residue))

  -- no entry has the level
  pub index_absent_level : ((k : ℕ) → k < m → get_or levels k 0 ≡ t → ⊥) → index_of (classes_of residues levels) m (signed_class a t) ≡ m
  index_absent_level none = nowhere (λ k h e. none k h (λ i. (same k h e i).level))

  -- entry j has it
  module _ (R : RisingTo residues m) (j : ℕ) (h : j < m) (ea : residue j ≡ a) where
    only : (k : ℕ) → k < m → same_class (signed_slot L k) c ≡ true → k ≡ j
    only k l e = go (dec_lt k j) (dec_lt j k)
      where
        equal : residue k ≡ residue j
        equal = (λ i. (same k l e i).residue) ∙ sym ea

        go : Dec (k < j) → Dec (j < k) → k ≡ j
        go (yes u) v = absurd (omega (arith, less-is (residue k) (residue j) (R.rises k j u h), ap up equal, ap down equal))
        go (no u) (yes v) = absurd (omega (arith, less-is (residue j) (residue k) (R.rises j k v l), ap up equal, ap down equal))
        go (no u) (no v) = omega arith

    -- with another level
    pub index_other : (get_or levels j 0 ≡ t → ⊥) → index_of (classes_of residues levels) m (signed_class a t) ≡ m
    index_other ne = nowhere (λ k l e. ne (rw (only k l e) at (ap (λ (d : SignedClass). d.level) (same k l e))))

    -- or with this
    pub index_here : get_or levels j 0 ≡ t → index_of (classes_of residues levels) m (signed_class a t) ≡ j
    unfolding index_of
    index_here et =
        least_is (λ k. same_class (signed_slot L k) c) m 0 j (omega arith) (omega arith)
        (λ k low u. not_holding (same_class (signed_slot L k) c) (λ s. omega (arith, only k (omega arith) s)))
        (λ u. equal_same (signed_slot L j) c (entry j h ∙ (λ i. signed_class (ea i) (et i))))
