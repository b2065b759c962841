-- `signed_list` rises, and it is `shortest` with residues of least size, in another order.
use mathlib.Core.Path.{◌≡◌, refl, sym, ap, ◌∙◌}
use mathlib.Core.Bool.{Bool, true}
use mathlib.Core.List.{List, map}
use Prim.Native.Nat.{ℕ, ◌%◌, ◌^◌, ◌≤◌, ◌<◌}
use native.Mathlib.Nat.{pow-le-pow_right}
use native.Mathlib.Omega.{arith}
use lib.Signed.{lt_z}
use Rattle.theory.specs.Lists.{In, Permutation}
use Rattle.theory.specs.Range.{passing}
use Rattle.theory.specs.Polynomial.{reduce}
use Rattle.theory.specs.Class.{Member}
use Rattle.theory.specs.Shortest.{level_of, shortest}
use Rattle.theory.specs.Centered.{is_centered, centered}
use Rattle.theory.specs.SignedClass.{SignedClass, signed_class, signed, natural, naturals}
use Rattle.theory.specs.SignedList.{from_lowest, is_signed_listed, signed_largest, signed_list}
use Rattle.theory.proofs.Tests.{and_left, and_right, and_intro}
use Rattle.theory.proofs.Lists.Names.{in-cast}
use Rattle.theory.proofs.Lists.Map.{in_map, map_in}
use Rattle.theory.proofs.Lists.NoRepeat.{NoRepeat, no_repeat_map, no_repeat_unmap}
use Rattle.theory.proofs.Lists.Pigeonhole.{perm_of_entries}
use Rattle.theory.proofs.Lists.Rising.{Rising, rising-map}
use Rattle.theory.proofs.Numbers.Power.{pow_pos}
use Rattle.theory.proofs.Numbers.Integers.{less-is}
use Rattle.theory.proofs.Numbers.Reduction.{reduce-lt, reduce_lower}
use Rattle.theory.proofs.Range.{passing_sound, passing_complete, passing_no_repeat}
use Rattle.theory.proofs.Classes.Cover.{listed, member-level, shortest-sound, shortest-complete, shortest_no_repeat}
use Rattle.theory.proofs.Signed.Centered.{range_wider, reduce-centered, centered-range, centered-reduce}
use Rattle.theory.proofs.Signed.Centered.{index_in, index-lt, index_back, indices_rise, indices_apart}
use Rattle.theory.proofs.Signed.Classes.{signed_equal, all-natural-signed}

-- the order of the lists
abbrev pub SignedEarlier : SignedClass → SignedClass → Type 0
SignedEarlier c d = lt_z c.residue d.residue ≡ true

pub signed_earlier_strict : (c d : SignedClass) → SignedEarlier c d → SignedEarlier d c → ⊥
signed_earlier_strict c d h k = omega (arith, less-is c.residue d.residue h, less-is d.residue c.residue k)

module _ (S : ℕ → Bool) (p n : ℕ) where
  -- entry and test at an index of the range
  abbrev entry_at : ℕ → SignedClass
  entry_at i = signed_largest S p n (from_lowest (p ^ n) i)

  abbrev test_at : ℕ → Bool
  test_at i = is_signed_listed S p n (from_lowest (p ^ n) i)

  -- "lists rise by this signed number"
  pub signed-rising : Rising SignedEarlier (signed_list S p n)
  unfolding signed_list signed_largest
  signed-rising = rising-map SignedEarlier entry_at (indices_rise (p ^ n)) test_at (p ^ n) 0

  -- no entry is repeated
  pub signed-no-repeat : NoRepeat (signed_list S p n)
  unfolding signed_list signed_largest
  signed-no-repeat =
      no_repeat_map entry_at (λ i j e. indices_apart (p ^ n) i j (λ k. (e k).residue)) (passing test_at (p ^ n) 0)
      (passing_no_repeat test_at (p ^ n) 0)

  -- what is known of a class of the list
  pub record SignedListed (c : SignedClass) : Type 0 where
    pub in-set : S (reduce (p ^ n) c.residue) ≡ true
    pub its-level : level_of S p n (reduce (p ^ n) c.residue) ≡ c.level
    pub in_range : is_centered (p ^ c.level) c.residue ≡ true

  pub signed-listed : (c : SignedClass) → In c (signed_list S p n) → SignedListed c
  unfolding signed_list is_signed_listed signed_largest
  signed-listed c u =
      let (i, v, e) = in_map entry_at (passing test_at (p ^ n) 0) c u in
      let z = from_lowest (p ^ n) i in
      let w = (passing_sound test_at (p ^ n) 0 i v).passes in
      let a = S (reduce (p ^ n) z) in
      let b = is_centered (p ^ level_of S p n (reduce (p ^ n) z)) z in
      rw e (record { in-set = and_left a b w; its-level = refl; in_range = and_right a b w })

  pub listed-signed : (c : SignedClass) → SignedListed c → is_centered (p ^ n) c.residue ≡ true → In c (signed_list S p n)
  unfolding signed_list is_signed_listed signed_largest
  listed-signed c k wide =
      let z = c.residue in
      let i = index_in (p ^ n) z in
      let back : from_lowest (p ^ n) i ≡ z = index_back (p ^ n) z wide in
      let passes : test_at i ≡ true =
      rw (back, k.its-level) (and_intro (S (reduce (p ^ n) z)) (is_centered (p ^ c.level) z) k.in-set k.in_range) in
      let same : entry_at i ≡ c = rw back (signed_equal refl k.its-level) in
      in-cast (sym same)
      (map_in entry_at (passing test_at (p ^ n) 0) i
      (passing_complete test_at (p ^ n) 0 i passes (omega arith) (omega (arith, index-lt (p ^ n) z wide))))

module _ (S : ℕ → Bool) (p n : ℕ) (hp : 0 < p) where
  hq : (t : ℕ) → 0 < p ^ t
  hq t = pow_pos p hp t

  -- `shortest` with residues of least size, in 01's order
  abbrev pub signed_shortest : List SignedClass
  signed_shortest = map (signed p) (shortest S p n)

  -- each class of the list is one of those
  pub list-shortest : (c : SignedClass) → In c (signed_list S p n) → In c signed_shortest
  unfolding signed
  list-shortest c u =
      let k = signed-listed S p n c u in
      let t = c.level in
      let z = c.residue in
      let r = reduce (p ^ n) z in
      let w = shortest-complete S p n hp r (reduce-lt (p ^ n) (hq n) z) k.in-set in
      let d = w.entry in
      let level : d.level ≡ t = sym (member-level S p n hp d w.listed r w.member) ∙ k.its-level in
      let fits : t ≤ n = rw level at (listed S p n hp d w.listed).is_class.level_fits in
      let residue : d.residue ≡ reduce (p ^ t) z =
      sym w.member.congruent ∙ ap (λ (x : ℕ). r % p ^ x) level ∙ reduce_lower p hp t n fits z in
      let same : signed p d ≡ c =
      signed_equal
      (ap (λ (x : ℕ). centered (p ^ x) d.residue) level ∙ ap (centered (p ^ t)) residue ∙ centered-reduce (p ^ t) z (hq t) k.in_range)
      level in
      in-cast (sym same) (map_in (signed p) (shortest S p n) d w.listed)

  -- and conversely
  pub shortest-list : (c : SignedClass) → In c signed_shortest → In c (signed_list S p n)
  unfolding signed
  shortest-list c u =
      let (d, v, e) = in_map (signed p) (shortest S p n) c u in
      let k = (listed S p n hp d v).is_class in
      let t = d.level in
      let z = centered (p ^ t) d.residue in
      let r = reduce (p ^ n) z in
      let range : is_centered (p ^ t) z ≡ true = centered-range (p ^ t) d.residue k.residue_fits in
      let wide : is_centered (p ^ n) z ≡ true = range_wider (p ^ t) (p ^ n) (pow-le-pow_right hp k.level_fits) z range in
      let member : Member p n d r =
      record {
        below = reduce-lt (p ^ n) (hq n) z;
        congruent =
            reduce_lower p hp t n k.level_fits z
            ∙ reduce-centered (p ^ t) d.residue k.residue_fits;
      } in
      in-cast e (listed-signed S p n (signed_class z t) (record {
        in-set = shortest-sound S p n hp d v r member;
        its-level = member-level S p n hp d v r member;
        in_range = range;
      }) wide)

  pub natural-shortest : naturals p signed_shortest ≡ shortest S p n
  natural-shortest = all-natural-signed p n hp (shortest S p n) (λ c u. (listed S p n hp c u).is_class)

  -- the list is `shortest` with residues of least size, in another order
  pub signed-permutation : Permutation (signed_list S p n) signed_shortest
  signed-permutation =
      perm_of_entries signed_shortest (signed_list S p n)
      (no_repeat_unmap (natural p) signed_shortest (rw natural-shortest (shortest_no_repeat S p n))) (signed-no-repeat S p n) shortest-list
      list-shortest
