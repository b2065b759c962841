-- Two lists cut, step by step: what the loop of `cut::cut` keeps true.
use mathlib.Core.Path.{◌≡◌, refl, sym, ap, ap₂, ◌∙◌}
use mathlib.Core.Logic.{◌⊎◌, inl, inr}
use mathlib.Core.Bool.{Bool, true, false, ◌||◌}
use mathlib.Core.List.{List, [], ◌∷◌, ◌++◌}
use Prim.Native.Nat.{ℕ, suc, ◌+◌, ◌%◌, ◌^◌, ◌≤◌, ◌<◌}
use native.Mathlib.Nat.{add-zero, mod-eq_of_lt}
use native.Mathlib.Decide.{dec_lt}
use native.Mathlib.Numerals.{add-one}
use native.Mathlib.Omega.{arith}
use borrow.Author.Tests.{lt-ltb, ltb-true, leb-true, leb-false}
use lib.Dec.{leb, ltb}
use lib.IntN.{ℤ, pos}
use lib.ListN.{length, length-map, get_or, take, drop, set, get_or-map}
use lib.Seq.{take-length}
use lib.Signed.{lt_z, le_z}
use Rattle.std.specs.List.{list_any, zip}
use Rattle.theory.specs.Lists.{In}
use Rattle.theory.specs.SignedClass.{SignedClass, signed_class, signed_slot, residues_of, levels_of}
use Rattle.theory.specs.SignedList.{signed_list}
use Rattle.theory.specs.inner.Cut.{both, covered_by, covered}
use Rattle.theory.proofs.Tests.{and_left, and_right, or_cases, or_fails_left, or_fails_right}
use Rattle.theory.proofs.Lists.Map.{in_map}
use Rattle.theory.proofs.Lists.Index.{in_at}
use Rattle.theory.proofs.Lists.Fill.{written_next, written_length}
use Rattle.theory.proofs.Lists.Merge.{Rest, Reached, reached-start, reached-end, reached-turned, step_left, step_kept}
use Rattle.theory.proofs.Numbers.Integers.{less-is, is-less, at-most-is, not-at-most-is}
use Rattle.theory.proofs.Signed.List.{SignedEarlier, signed_earlier_strict, signed-rising}
use Rattle.theory.proofs.Signed.Entries.{list-class}
use Rattle.theory.proofs.Signed.Covered.{listed_uncovered}
use Rattle.theory.proofs.Signed.Cut.{first-listed, second-listed, listed-from}
use Rattle.classes.specs.Rule7.{classes_of}
use Rattle.classes.proofs.Entries.{classes_of_parts}
use Rattle.systems.specs.inner.Cutting.{covers_by, Powers, LevelsTo, first_is_next, covers, KeptIf, ListOf, Written}

-- what is read off the table of powers
pub by_table : {p n : ℕ} {table : List ℕ} → Powers p n table → (limit : ℕ) (z : ℤ) (residues : List ℤ) (levels : List ℕ)
    → LevelsTo n levels → list_any (covers_by table limit z) (zip residues levels) ≡ covered p limit z (classes_of residues levels)
unfolding covered covered_by classes_of
by_table P limit z [] levels fits = refl
by_table P limit z (a ∷ residues) [] fits = refl
by_table {p} {n} {table} P limit z (a ∷ residues) (t ∷ levels) fits =
    let low : t ≤ n = fits.at 0 (omega arith) in
    let entry : get_or table (t % 32) 0 ≡ p ^ t =
    ap (λ (k : ℕ). get_or table k 0) (mod-eq_of_lt (omega (arith, P.small))) ∙ P.at t low in
    rw (entry, by_table P limit z residues levels (record { at = λ i h. fits.at (suc i) (omega arith) }))

earlier_trans : (c d e : SignedClass) → SignedEarlier c d → SignedEarlier d e → SignedEarlier c e
earlier_trans c d e h k =
    is-less c.residue e.residue (omega (arith, less-is c.residue d.residue h, less-is d.residue e.residue k))

-- the limits of the two tests
covers_own : (p : ℕ) (L : List SignedClass) (c : SignedClass) → covers p 1 L c ≡ covered p (suc c.level) c.residue L
covers_own p L c = ap (λ (t : ℕ). covered p t c.residue L) (add-one c.level)

covers_larger : (p : ℕ) (L : List SignedClass) (c : SignedClass) → covers p 0 L c ≡ covered p c.level c.residue L
covers_larger p L c = ap (λ (t : ℕ). covered p t c.residue L) (add-zero c.level)

module _ (S T : ℕ → Bool) (p n : ℕ) (hp : 0 < p) where
  abbrev A : List SignedClass
  A = signed_list S p n

  abbrev B : List SignedClass
  B = signed_list T p n

  abbrev C : List SignedClass
  C = signed_list (both S T) p n

  abbrev zero-class : SignedClass
  zero-class = signed_class (pos 0) 0

  -- the classes of C are those of A that lie in one of B, and those of B that lie in a larger one of A
  abbrev pub ReadTo : ℕ → ℕ → ℕ → Type 0
  ReadTo i j k = Reached A B C (covers p 1 B) (covers p 0 A) i j k

  pub read_none : ReadTo 0 0 0
  read_none = reached-start A B C (covers p 1 B) (covers p 0 A) (λ c u. from c (listed-from S T p n hp c u)) to
    where
      from : (c : SignedClass)
          → (In c A × (covered p (suc c.level) c.residue B ≡ true)) ⊎ (In c B × (covered p c.level c.residue A ≡ true))
          → Rest A B (covers p 1 B) (covers p 0 A) 0 0 c
      from c (inl (u, e)) = inl (u, covers_own p B c ∙ e)
      from c (inr (u, e)) = inr (u, covers_larger p A c ∙ e)

      to : (c : SignedClass) → Rest A B (covers p 1 B) (covers p 0 A) 0 0 c → In c C
      to c (inl (u, e)) = first-listed S T p n hp c u (sym (covers_own p B c) ∙ e)
      to c (inr (u, e)) = second-listed S T p n hp c u (sym (covers_larger p A c) ∙ e)

  apart : (c : SignedClass) → In c A → covers p 1 B c ≡ true → In c B → covers p 0 A c ≡ true → ⊥
  apart c u e v f = listed_uncovered S p n hp c u (sym (covers_larger p A c) ∙ f)

  -- a class of A is read, which no class of B comes before
  module _ {i j k : ℕ} (reached : ReadTo i j k) where
    pub first-kept : i < length A → (j < length B → SignedEarlier (signed_slot B j) (signed_slot A i) → ⊥)
        → covers p 1 B (signed_slot A i) ≡ true → (k < length C) × (signed_slot C k ≡ signed_slot A i) × ReadTo (i + 1) j (k + 1)
    first-kept h order e =
        step_kept SignedEarlier signed_earlier_strict earlier_trans (signed-rising S p n) (signed-rising T p n)
        (signed-rising (both S T) p n) apart zero-class reached h e order

    pub first-left : i < length A → covers p 1 B (signed_slot A i) ≡ false → ReadTo (i + 1) j k
    first-left h e =
        step_left SignedEarlier signed_earlier_strict earlier_trans (signed-rising S p n) (signed-rising T p n)
        (signed-rising (both S T) p n) apart zero-class reached h e

    -- a class of B is read, which no class of A comes before
    pub second-kept : j < length B → (i < length A → SignedEarlier (signed_slot A i) (signed_slot B j) → ⊥)
        → covers p 0 A (signed_slot B j) ≡ true → (k < length C) × (signed_slot C k ≡ signed_slot B j) × ReadTo i (j + 1) (k + 1)
    second-kept h order e =
        let (room, next, r) =
        step_kept SignedEarlier signed_earlier_strict earlier_trans (signed-rising T p n) (signed-rising S p n)
        (signed-rising (both S T) p n) (λ c u f v g. apart c v g u f) zero-class (reached-turned reached) h e order in
        (room, next, reached-turned r)

    pub second-left : j < length B → covers p 0 A (signed_slot B j) ≡ false → ReadTo i (j + 1) k
    second-left h e =
        reached-turned (step_left SignedEarlier signed_earlier_strict earlier_trans (signed-rising T p n) (signed-rising S p n)
        (signed-rising (both S T) p n) (λ c u f v g. apart c v g u f) zero-class (reached-turned reached) h e)

-- The lists that are written

module _ (C : List SignedClass) (residues₀ : List ℤ) (levels₀ : List ℕ) where
  -- the first k classes of C stand in the first slots
  pub record Stands (k : ℕ) (residues : List ℤ) (levels : List ℕ) : Type 0 where
    pub residues_are : residues ≡ residues_of (take k C) ++ drop k residues₀
    pub levels_are : levels ≡ levels_of (take k C) ++ drop k levels₀

  pub stands-long : {k : ℕ} {residues : List ℤ} {levels : List ℕ} → Stands k residues levels → k ≤ length C → length C ≤ length residues₀
      → length residues ≡ length residues₀
  stands-long {k} s h room =
      ap length s.residues_are ∙ written_length (λ (c : SignedClass). c.residue) C residues₀ k h (omega arith)

  -- a turn: a class is put where it is kept, and then it is the next of C
  module _ {k : ℕ} {residues : List ℤ} {levels : List ℕ} (s : Stands k residues levels) (room : length C ≤ length residues₀)
      (same : length residues₀ ≡ length levels₀) where
    put : (c : SignedClass) → k < length C → signed_slot C k ≡ c
        → Stands (k + 1) (set residues k c.residue) (set levels k c.level)
    put c h e =
        record {
          residues_are =
              ap (λ (x : List ℤ). set x k c.residue) s.residues_are
              ∙ written_next (λ (x : SignedClass). x.residue) C k (signed_class (pos 0) 0) h residues₀ (pos 0) c.residue (omega arith)
              (ap (λ (x : SignedClass). x.residue) (sym e));
          levels_are =
              ap (λ (x : List ℕ). set x k c.level) s.levels_are
              ∙ written_next (λ (x : SignedClass). x.level) C k (signed_class (pos 0) 0) h levels₀ 0 c.level (omega arith)
              (ap (λ (x : SignedClass). x.level) (sym e));
        }

    pub turn : (Next : ℕ → Type 0) (kept : Bool) (c : SignedClass) → k ≤ length C
        → (kept ≡ true → (k < length C) × (signed_slot C k ≡ c) × Next (k + 1)) → (kept ≡ false → Next k)
        → {k' : ℕ} {residues' : List ℤ} {levels' : List ℕ} → KeptIf kept c k k' residues residues' levels levels'
        → Next k' × Stands k' residues' levels'
    turn Next true c h on off w =
        let (l, e, next) = on refl in
        let (number, r, t) = w.put refl (omega (arith, stands-long s h room)) in
        rw (number, r, t) (next, put c l e)
    turn Next false c h on off w = let (number, r, t) = w.left refl in rw (number, r, t) (off refl, s)

-- A turn of the loop, on the lists as they are lent

-- the list that is read is not read to its end
pub first_inside : (a b : List ℤ) (i j : ℕ) → first_is_next a b i j ≡ true → i < length a
unfolding first_is_next
first_inside a b i j e =
    ltb-true i (length a) (and_left (ltb i (length a)) (leb (length b) j || le_z (get_or a i (pos 0)) (get_or b j (pos 0))) e)

pub second_inside : (a b : List ℤ) (i j : ℕ) → i + j < length a + length b → first_is_next a b i j ≡ false → j < length b
unfolding first_is_next
second_inside a b i j h e = go (dec_lt j (length b)) (dec_lt i (length a))
  where
    go : Dec (j < length b) → Dec (i < length a) → j < length b
    go (yes l) _ = l
    go (no l) (yes k) =
        let x = le_z (get_or a i (pos 0)) (get_or b j (pos 0)) in
        let rest : (leb (length b) j || x) ≡ false = rw (lt-ltb i (length a) k) at e in
        absurd (omega (arith, leb-false (length b) j (or_fails_left (leb (length b) j) x rest)))
    go (no l) (no k) = absurd (omega arith)

-- two lists of sets S and T, and so many slots for that of both
pub record Given (p : ℕ) (a : List ℤ) (t : List ℕ) (b : List ℤ) (s : List ℕ) (slots : ℕ) (S T : ℕ → Bool) (n : ℕ) : Type 0 where
  pub two : 2 ≤ p
  pub fits : p ^ n ≤ 4294967295
  pub first : ListOf S p n a t
  pub second : ListOf T p n b s
  pub room : length (signed_list (both S T) p n) ≤ slots

-- how far they are read, and what is written
pub record Turned (p : ℕ) (residues₀ : List ℤ) (levels₀ : List ℕ) (S T : ℕ → Bool) (n i j k : ℕ) (residues : List ℤ) (levels : List ℕ)
    : Type 0 where
  pub positive : 0 < p
  pub read : ReadTo S T p n positive i j k
  pub written : Stands (signed_list (both S T) p n) residues₀ levels₀ k residues levels

module _ {S : ℕ → Bool} {p n : ℕ} {a : List ℤ} {t : List ℕ} (hp : 0 < p) (L : ListOf S p n a t) where
  list-is : classes_of a t ≡ signed_list S p n
  list-is = ap₂ classes_of L.residues_are L.levels_are ∙ classes_of_parts (signed_list S p n)

  list-long : length a ≡ length (signed_list S p n)
  list-long = ap length L.residues_are ∙ length-map (signed_list S p n) (λ (c : SignedClass). c.residue)

  residue-at : (i : ℕ) → get_or a i (pos 0) ≡ (signed_slot (signed_list S p n) i).residue
  residue-at i =
      ap (λ (l : List ℤ). get_or l i (pos 0)) L.residues_are
      ∙ get_or-map (λ (c : SignedClass). c.residue) (signed_list S p n) i (signed_class (pos 0) 0)

  pub list-levels : LevelsTo n t
  list-levels = record { at = λ i h. level i h }
    where
      level : (i : ℕ) → i < length t → get_or t i 0 ≤ n
      level i h =
          let l = levels_of (signed_list S p n) in
          let u : i < length l = rw L.levels_are at h in
          let (c, v, e) = in_map (λ (c : SignedClass). c.level) (signed_list S p n) (get_or l i 0) (in_at l i 0 u) in
          rw (L.levels_are, e) (list-class S p n hp c v).level_fits

module _ {p : ℕ} {a : List ℤ} {t : List ℕ} {b : List ℤ} {s : List ℕ} {residues₀ : List ℤ} {levels₀ : List ℕ} {S T : ℕ → Bool} {n : ℕ}
    (same : length residues₀ ≡ length levels₀) (G : Given p a t b s (length residues₀) S T n) where
  pub turned_none : Turned p residues₀ levels₀ S T n 0 0 0 residues₀ levels₀
  turned_none =
      let hp : 0 < p = omega (arith, G.two) in
      record { positive = hp; read = read_none S T p n hp; written = record { residues_are = refl; levels_are = refl } }

  -- where both are read to the end
  pub turned-all : {i j k : ℕ} {residues : List ℤ} {levels : List ℕ} → Turned p residues₀ levels₀ S T n i j k residues levels
      → length a ≤ i → length b ≤ j → Written (signed_list (both S T) p n) k residues₀ residues levels₀ levels
  turned-all {k = k} R h l =
      let C = signed_list (both S T) p n in
      let hp = R.positive in
      let all : k ≡ length C =
      reached-end (signed_class (pos 0) 0) R.read (omega (arith, list-long hp G.first)) (omega (arith, list-long hp G.second)) in
      record {
        number = all;
        residues_are =
            R.written.residues_are
            ∙ ap (λ (m : ℕ). residues_of (take m C) ++ drop m residues₀) all
            ∙ ap (λ (l : List SignedClass). residues_of l ++ drop (length C) residues₀) (take-length C);
        levels_are =
            R.written.levels_are
            ∙ ap (λ (m : ℕ). levels_of (take m C) ++ drop m levels₀) all
            ∙ ap (λ (l : List SignedClass). levels_of l ++ drop (length C) levels₀) (take-length C);
      }

  module _ {i j k : ℕ} {residues : List ℤ} {levels : List ℕ} (R : Turned p residues₀ levels₀ S T n i j k residues levels) where
    -- a class of the first list is read
    pub first-turn : {k' : ℕ} {residues' : List ℤ} {levels' : List ℕ} → i < length a → first_is_next a b i j ≡ true
        → KeptIf (covers p 1 (classes_of b s) (signed_slot (classes_of a t) i)) (signed_slot (classes_of a t) i)
        k k' residues residues' levels levels'
        → Turned p residues₀ levels₀ S T n (i + 1) j k' residues' levels'
    unfolding first_is_next
    first-turn h next w =
        let hp = R.positive in
        let A = signed_list S p n in
        let B = signed_list T p n in
        let l : i < length A = omega (arith, list-long hp G.first) in
        let (read, written) =
        turn (signed_list (both S T) p n) residues₀ levels₀ R.written G.room same (ReadTo S T p n hp (i + 1) j)
        (covers p 1 B (signed_slot A i)) (signed_slot A i) R.read.within (first-kept S T p n hp R.read l order)
        (first-left S T p n hp R.read l) (rw (list-is hp G.first, list-is hp G.second) at w) in
        record { positive = hp; read = read; written = written }
      where
        u : ℤ
        u = get_or a i (pos 0)

        v : ℤ
        v = get_or b j (pos 0)

        order : j < length (signed_list T p n) → SignedEarlier (signed_slot (signed_list T p n) j) (signed_slot (signed_list S p n) i) → ⊥
        order l r = go (or_cases (leb (length b) j) (le_z u v) (and_right (ltb i (length a)) (leb (length b) j || le_z u v) next))
          where
            less : lt_z v u ≡ true
            less = rw (residue-at R.positive G.first i, residue-at R.positive G.second j) r

            go : (leb (length b) j ≡ true) ⊎ (le_z u v ≡ true) → ⊥
            go (inl e) = omega (arith, leb-true (length b) j e, list-long R.positive G.second)
            go (inr e) = omega (arith, at-most-is u v e, less-is v u less)

    -- a class of the second list is read
    pub second-turn : {k' : ℕ} {residues' : List ℤ} {levels' : List ℕ} → j < length b → first_is_next a b i j ≡ false
        → KeptIf (covers p 0 (classes_of a t) (signed_slot (classes_of b s) j)) (signed_slot (classes_of b s) j)
        k k' residues residues' levels levels'
        → Turned p residues₀ levels₀ S T n i (j + 1) k' residues' levels'
    unfolding first_is_next
    second-turn h next w =
        let hp = R.positive in
        let A = signed_list S p n in
        let B = signed_list T p n in
        let l : j < length B = omega (arith, list-long hp G.second) in
        let (read, written) =
        turn (signed_list (both S T) p n) residues₀ levels₀ R.written G.room same (ReadTo S T p n hp i (j + 1))
        (covers p 0 A (signed_slot B j)) (signed_slot B j) R.read.within (second-kept S T p n hp R.read l order)
        (second-left S T p n hp R.read l) (rw (list-is hp G.first, list-is hp G.second) at w) in
        record { positive = hp; read = read; written = written }
      where
        u : ℤ
        u = get_or a i (pos 0)

        v : ℤ
        v = get_or b j (pos 0)

        order : i < length (signed_list S p n) → SignedEarlier (signed_slot (signed_list S p n) i) (signed_slot (signed_list T p n) j) → ⊥
        order l r =
            let inside : ltb i (length a) ≡ true = lt-ltb i (length a) (omega (arith, list-long R.positive G.first)) in
            let rest : (leb (length b) j || le_z u v) ≡ false = rw inside at next in
            omega (arith, not-at-most-is u v (or_fails_right (leb (length b) j) (le_z u v) rest), less-is u v less)
          where
            less : lt_z u v ≡ true
            less = rw (residue-at R.positive G.first i, residue-at R.positive G.second j) r
