-- The search finds the first fault: within the first m entries, which have no fault of their own, every overlap is a fault at the later of
-- two entries, and the first entry that shares a member with an earlier one is among them.
use mathlib.Core.Path.{◌≡◌, refl, sym, ap, ap₂, ◌∙◌}
use mathlib.Core.Logic.{◌⊎◌, inl, inr}
use mathlib.Core.Bool.{true}
use mathlib.Core.List.{List}
use Prim.Native.Nat.{ℕ, zero, suc, ◌+◌, ◌≤◌, ◌<◌, min, max}
use native.Mathlib.Nat.{eq-or-lt_of_le, min_comm}
use native.Mathlib.Numerals.{add-one}
use native.Mathlib.Decide.{dec_lt}
use native.Mathlib.Omega.{arith}
use lib.IntN.{ℤ, pos}
use lib.ListN.{length, take}
use Rattle.std.proofs.lemmas.List.{length-take-le, get_or-take}
use Rattle.theory.specs.Range.{least}
use Rattle.theory.specs.Class.{share}
use Rattle.theory.specs.SignedClass.{SignedClass, signed_class, natural, signed_slot}
use Rattle.theory.proofs.Range.{some_passes, some_found, least_passes, least_found, least_agree}
use Rattle.theory.proofs.Least.{least_or}
use Rattle.theory.proofs.Numbers.Integers.{up, down, less-is}
use Rattle.theory.proofs.Classes.Share.{share_comm}
use Rattle.classes.specs.Rule7.{classes_of, shared_earlier, fault_at, first_fault}
use Rattle.classes.specs.inner.Search.{unusable_at, usable_to, same_class, index_of, around, overlap, least_value, searched_to}
use Rattle.classes.proofs.Entries.{classes_slot}
use Rattle.classes.proofs.Sharing.{same_equal, equal_same, shared-around, shared-equal, around-shares}
use Rattle.classes.proofs.Usables.{usable-class, usable-fits, usable-before, usable-rises}

-- The least value of a function

pub value-start : (f : ℕ → ℕ) (k d : ℕ) → least_value f k d ≤ d
unfolding least_value
value-start f zero d = omega arith
value-start f (suc k) d = omega (arith, value-start f k d)

value-le : (f : ℕ → ℕ) (k d i : ℕ) → i < k → least_value f k d ≤ f i
unfolding least_value
value-le f zero d i h = absurd (omega arith)
value-le f (suc k) d i h = go (value-le f k d i) (eq-or-lt_of_le h)
  where
    go : (i < k → least_value f k d ≤ f i) → (suc i ≡ suc k) ⊎ (suc i < suc k) → min (f k) (least_value f k d) ≤ f i
    go ih (inl q) = let s : i ≡ k = omega arith in rw s (omega arith)
    go ih (inr l) = omega (arith, ih (omega arith))

value_bound : (f : ℕ → ℕ) (k d b : ℕ) → b ≤ d → ((i : ℕ) → i < k → b ≤ f i) → b ≤ least_value f k d
unfolding least_value
value_bound f zero d b h g = h
value_bound f (suc k) d b h g = omega (arith, g k (omega arith), value_bound f k d b h (λ i l. g i (omega arith)))

pub value_none : (f : ℕ → ℕ) (d : ℕ) → d ≡ least_value f 0 d
unfolding least_value
value_none f d = refl

value_next : (f : ℕ → ℕ) (k d : ℕ) → min (least_value f k d) (f k) ≡ least_value f (k + 1) d
unfolding least_value
value_next f k d = rw add-one (min_comm (least_value f k d) (f k))

pub searched-start : (p : ℕ) (L : List SignedClass) (m k : ℕ) → searched_to p L m k ≤ m
unfolding searched_to
searched-start p L m zero = omega arith
searched-start p L m (suc k) =
    omega (arith, searched-start p L m k, value-start (overlap p L m k) (signed_slot L k).level (searched_to p L m k))

level_of : (p : ℕ) (c d : SignedClass) (s : ℕ) → c ≡ around p d s → c.level ≡ s
unfolding around
level_of p c d s e = λ i. (e i).level

module _ (p n : ℕ) (L : List SignedClass) where
  abbrev m : ℕ
  m = usable_to p n L

  -- two entries share a member
  abbrev Shares : ℕ → ℕ → Type 0
  Shares i j = share p (natural p (signed_slot L i)) (natural p (signed_slot L j)) ≡ true

  -- the first entry that shares a member with an earlier one
  first : ℕ
  first = least (shared_earlier p L) (length L) 0

  first-le : (x : ℕ) → x < length L → shared_earlier p L x ≡ true → first ≤ x
  unfolding first
  first-le x h e = (least_passes (shared_earlier p L) (length L) 0 x (omega arith) (omega arith) e).1

  fault-split : first_fault p n L ≡ min m first
  unfolding first_fault fault_at usable_to unusable_at first
  fault-split = least_or (unusable_at p n L) (shared_earlier p L) (length L) 0

  -- a shared member is a fault at the later entry
  later-shares : (i j : ℕ) → j < i → i < length L → Shares j i → first ≤ i
  unfolding shared_earlier
  later-shares i j h l e =
      first-le i l (some_passes (λ k. share p (natural p (signed_slot L k)) (natural p (signed_slot L i))) i j h e)

  -- The index of a class

  index-le : (c : SignedClass) (j : ℕ) → j < m → signed_slot L j ≡ c → index_of L m c ≤ j
  unfolding index_of
  index-le c j h e =
      (least_passes (λ k. same_class (signed_slot L k) c) m 0 j (omega arith) (omega arith) (equal_same (signed_slot L j) c e)).1

  index-found : (c : SignedClass) → index_of L m c < m → signed_slot L (index_of L m c) ≡ c
  unfolding index_of
  index-found c h =
      same_equal (signed_slot L (index_of L m c)) c (least_found (λ k. same_class (signed_slot L k) c) m 0 (omega arith))

  module _ (hp : 0 < p) where
    -- every overlap is at a fault, or past the first m entries
    overlap-sound : (i s : ℕ) → i < m → s < (signed_slot L i).level → min m first ≤ overlap p L m i s
    unfolding overlap
    overlap-sound i s hi hs = go (dec_lt j m)
      where
        c : SignedClass
        c = around p (signed_slot L i) s

        j : ℕ
        j = index_of L m c

        hit : j < m → first ≤ max i j
        hit hj = pick (dec_lt j i) (dec_lt i j)
          where
            found : signed_slot L j ≡ around p (signed_slot L i) s
            found = index-found c hj

            level : (signed_slot L j).level ≡ s
            level = level_of p (signed_slot L j) (signed_slot L i) s found

            shares : Shares j i
            shares = around-shares p n hp (signed_slot L j) (signed_slot L i) (omega (arith, level)) (rw level found)

            pick : Dec (j < i) → Dec (i < j) → first ≤ max i j
            pick (yes l) w = omega (arith, later-shares i j l (omega (arith, usable-fits p n L)) shares)
            pick (no l) (yes k) =
                let back = share_comm p (natural p (signed_slot L j)) (natural p (signed_slot L i)) shares in
                omega (arith, later-shares j i k (omega (arith, usable-fits p n L)) back)
            pick (no l) (no k) =
                let q : j ≡ i = omega arith in
                absurd (omega (arith, ap (λ (x : ℕ). (signed_slot L x).level) q, level))

        go : Dec (j < m) → min m first ≤ max i j
        go (yes h) = omega (arith, hit h)
        go (no h) = omega arith

    searched-sound : (k : ℕ) → k ≤ m → min m first ≤ searched_to p L m k
    unfolding searched_to
    searched-sound zero h = omega arith
    searched-sound (suc k) h =
        value_bound (overlap p L m k) (signed_slot L k).level (searched_to p L m k) (min m first) (searched-sound k (omega arith))
        (λ s l. overlap-sound k s (omega arith) l)

    searched-le : (k i s : ℕ) → i < k → s < (signed_slot L i).level → searched_to p L m k ≤ overlap p L m i s
    unfolding searched_to
    searched-le zero i s h l = absurd (omega arith)
    searched-le (suc k) i s h l = go (searched-le k i s) (eq-or-lt_of_le h)
      where
        go : (i < k → s < (signed_slot L i).level → searched_to p L m k ≤ overlap p L m i s) → (suc i ≡ suc k) ⊎ (suc i < suc k)
            → searched_to p L m (suc k) ≤ overlap p L m i s
        go ih (inl q) =
            let e : i ≡ k = omega arith in
            rw e (value-le (overlap p L m k) (signed_slot L k).level (searched_to p L m k) s (rw e at l))
        go ih (inr q) =
            omega (arith, ih (omega arith) l, value-start (overlap p L m k) (signed_slot L k).level (searched_to p L m k))

    -- entry i lies in entry j, and neither is after x
    inner-found : (i j x : ℕ) → i < m → j < m → i ≤ x → j ≤ x → (signed_slot L j).level < (signed_slot L i).level → Shares j i
        → searched_to p L m m ≤ x
    unfolding overlap
    inner-found i j x hi hj li lj l e =
        let s = (signed_slot L j).level in
        let c = around p (signed_slot L i) s in
        let q : signed_slot L j ≡ c =
        shared-around p n hp (signed_slot L j) (signed_slot L i) (usable-class p n L j (usable-before p n L j hj)) (omega arith) e in
        let near : index_of L m c ≤ j = index-le c j hj q in
        omega (arith, near, searched-le m i s hi l)

    -- the first entry that shares a member is found
    searched-complete : first < m → searched_to p L m m ≤ first
    unfolding first shared_earlier
    searched-complete h =
        go (some_found (λ j. share p (natural p (signed_slot L j)) (natural p (signed_slot L first))) first
        (least_found (shared_earlier p L) (length L) 0 (omega (arith, usable-fits p n L))))
      where
        go : (j : ℕ) × (j < first) × Shares j first → searched_to p L m m ≤ first
        go (j, l, e) =
            pick (dec_lt (signed_slot L j).level (signed_slot L first).level) (dec_lt (signed_slot L first).level (signed_slot L j).level)
          where
            hj : j < m
            hj = omega arith

            pick : Dec ((signed_slot L j).level < (signed_slot L first).level) → Dec ((signed_slot L first).level < (signed_slot L j).level)
                → searched_to p L m m ≤ first
            pick (yes a) b = inner-found first j first h hj (omega arith) (omega arith) a e
            pick (no a) (yes b) =
                inner-found j first first hj h (omega arith) (omega arith) b
                (share_comm p (natural p (signed_slot L j)) (natural p (signed_slot L first)) e)
            pick (no a) (no b) =
                let same : (signed_slot L j).residue ≡ (signed_slot L first).residue =
                shared-equal p n hp (signed_slot L j) (signed_slot L first) (usable-class p n L j (usable-before p n L j hj))
                (usable-class p n L first (usable-before p n L first h)) (omega arith) e in
                absurd (omega (
                  arith,
                  less-is (signed_slot L j).residue (signed_slot L first).residue (usable-rises p n L j first l h),
                  ap up same,
                  ap down same,
                ))

    pub searched-is : searched_to p L (usable_to p n L) (usable_to p n L) ≡ first_fault p n L
    searched-is = go (dec_lt first m)
      where
        low : min m first ≤ searched_to p L m m
        low = searched-sound m (omega arith)

        go : Dec (first < m) → searched_to p L m m ≡ first_fault p n L
        go (yes h) = rw fault-split (omega (arith, low, searched-complete h))
        go (no h) = rw fault-split (omega (arith, low, searched-start p L m m))

-- no entry, and one more
pub searched_none : (p : ℕ) (L : List SignedClass) (m : ℕ) → m ≡ searched_to p L m 0
unfolding searched_to
searched_none p L m = refl

pub searched_next : (p : ℕ) (L : List SignedClass) (m i : ℕ)
    → least_value (overlap p L m i) (signed_slot L i).level (searched_to p L m i) ≡ searched_to p L m (i + 1)
unfolding searched_to
searched_next p L m i = rw add-one

-- the search reads only the first m entries
searched_agree : (p : ℕ) (K L : List SignedClass) (m : ℕ) → ((i : ℕ) → i < m → signed_slot K i ≡ signed_slot L i)
    → (k : ℕ) → k ≤ m → searched_to p K m k ≡ searched_to p L m k
unfolding searched_to overlap index_of
searched_agree p K L m agree zero h = refl
searched_agree p K L m agree (suc k) h = go (searched_agree p K L m agree k (omega arith))
  where
    found : (c : SignedClass) → index_of K m c ≡ index_of L m c
    found c =
        least_agree (λ j. same_class (signed_slot K j) c) (λ j. same_class (signed_slot L j) c) m 0
        (λ x low u. ap (λ (d : SignedClass). same_class d c) (agree x (omega arith)))

    same : (s : ℕ) → overlap p K m k s ≡ overlap p L m k s
    same s =
        ap (λ (d : SignedClass). max k (index_of K m (around p d s))) (agree k (omega arith))
        ∙ ap (max k) (found (around p (signed_slot L k) s))

    go : searched_to p K m k ≡ searched_to p L m k → searched_to p K m (suc k) ≡ searched_to p L m (suc k)
    go before = λ i. least_value (λ (s : ℕ). same s i) (agree k (omega arith) i).level (before i)

-- so they may be a list of their own
pub searched_front : (p : ℕ) (residues : List ℤ) (levels : List ℕ) (m : ℕ) → m ≤ length residues → length residues ≡ length levels
    → searched_to p (classes_of (take m residues) (take m levels)) m m ≡ searched_to p (classes_of residues levels) m m
searched_front p residues levels m h same =
    searched_agree p (classes_of (take m residues) (take m levels)) (classes_of residues levels) m (λ i u.
    classes_slot (take m residues) (take m levels) i (omega (arith, length-take-le m residues h))
    (omega (arith, length-take-le m levels (omega arith)))
    ∙ ap₂ signed_class (get_or-take m residues i (pos 0) u) (get_or-take m levels i 0 u)
    ∙ sym (classes_slot residues levels i (omega arith) (omega arith))) m (omega arith)

-- The overlap of entry i at level s, where the class c of that level around it is looked up
module _ (p : ℕ) (L : List SignedClass) (m i s best : ℕ) (c : SignedClass) (c-is : c ≡ around p (signed_slot L i) s)
    (so_far : ℕ) (before : so_far ≡ least_value (overlap p L m i) s best) where
  -- c is entry j
  pub overlap_found : (j : ℕ) → index_of L m c ≡ j → min so_far (max i j) ≡ least_value (overlap p L m i) (s + 1) best
  unfolding overlap
  overlap_found j e =
      ap₂ min before (ap (max i) (sym e ∙ ap (index_of L m) c-is)) ∙ value_next (overlap p L m i) s best

  -- c is no entry
  pub overlap_none : best ≤ m → index_of L m c ≡ m → so_far ≡ least_value (overlap p L m i) (s + 1) best
  overlap_none h e =
      let low : so_far ≡ min so_far (max i m) = omega (arith, before, value-start (overlap p L m i) s best) in
      low ∙ overlap_found m e
