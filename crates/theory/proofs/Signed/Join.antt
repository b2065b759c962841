-- A list of classes that share no member, joined, is the list of its members.
use mathlib.Core.Path.{◌≡◌, sym, ap, ◌∙◌}
use mathlib.Core.Bool.{Bool, true}
use mathlib.Core.List.{List}
use Prim.Native.Nat.{ℕ, ◌^◌, ◌≤◌, ◌<◌}
use native.Mathlib.Nat.{pow-le-pow_right}
use native.Mathlib.Omega.{arith}
use lib.IntN.{ℤ}
use lib.ListN.{length, length-map}
use Rattle.theory.specs.Lists.{In, Permutation}
use Rattle.theory.specs.Polynomial.{reduce}
use Rattle.theory.specs.ClassList.{members}
use Rattle.theory.specs.Shortest.{level_of}
use Rattle.theory.specs.Centered.{is_centered}
use Rattle.theory.specs.SignedClass.{SignedClass, IsSignedClass, naturals}
use Rattle.theory.specs.SignedList.{signed_list}
use Rattle.theory.specs.inner.Keep.{keep}
use Rattle.theory.specs.inner.Join.{joined_level, joined_class, is_first, joined}
use Rattle.theory.proofs.Lists.Names.{in-cast}
use Rattle.theory.proofs.Lists.Map.{in_map, map_in}
use Rattle.theory.proofs.Lists.NoRepeat.{NoRepeat, no_repeat_map_on, no_repeat_unmap}
use Rattle.theory.proofs.Lists.Keep.{in-keep, keep-in, keep-no-repeat, keep-length}
use Rattle.theory.proofs.Lists.Pigeonhole.{perm_of_entries}
use Rattle.theory.proofs.Numbers.Power.{pow_pos}
use Rattle.theory.proofs.Numbers.Reduction.{reduce-lt, reduce_lower}
use Rattle.theory.proofs.Classes.Apart.{Apart}
use Rattle.theory.proofs.Signed.Centered.{range_wider, centered_unique}
use Rattle.theory.proofs.Signed.Classes.{signed_equal}
use Rattle.theory.proofs.Signed.List.{signed-listed, listed-signed, signed-no-repeat}
use Rattle.theory.proofs.Signed.AddsUp.{Around, entry_of, of_entry, own-around, one-level, entry-level, joined-level}

module _ (p n : ℕ) (hp : 0 < p) (L : List SignedClass) (classes : (c : SignedClass) → In c L → IsSignedClass p n c)
    (apart : Apart p n (naturals p L)) where
  abbrev S : ℕ → Bool
  S = members p (naturals p L)

  wider : (t u : ℕ) → t ≤ u → (z : ℤ) → is_centered (p ^ t) z ≡ true → is_centered (p ^ u) z ≡ true
  wider t u h z e = range_wider (p ^ t) (p ^ u) (pow-le-pow_right hp h) z e

  -- each class of it is one of the list
  joined-listed : (c : SignedClass) → In c (joined p n L) → In c (signed_list S p n)
  unfolding joined joined_class is_first
  joined-listed c u =
      let (d, v, q) = in_map (joined_class p n L) (keep (is_first p n L) L) c u in
      let (w, e) = in-keep (is_first p n L) L d v in
      let z = d.residue in
      let k = classes d w in
      in-cast q (listed-signed S p n (joined_class p n L d) (record {
        in-set = of_entry p L (reduce (p ^ n) z) d w (own-around p n hp L apart d w);
        its-level = sym (joined-level p n hp L apart d w);
        in_range = e;
      }) (wider d.level n k.level_fits z k.residue_fits))

  -- and conversely: an entry that holds the residue of one is not larger than it, so it has that residue
  listed-joined : (c : SignedClass) → In c (signed_list S p n) → In c (joined p n L)
  unfolding joined joined_class is_first
  listed-joined c u =
      let k = signed-listed S p n c u in
      let r = reduce (p ^ n) c.residue in
      let (d, v, m) = entry_of p L r k.in-set in
      let t = d.level in
      let f = classes d v in
      let h : c.level ≤ t = rw k.its-level at (entry-level p n hp L apart d v r m).1 in
      let e : d.residue ≡ c.residue =
      centered_unique (p ^ t) d.residue c.residue (pow_pos p hp t) f.residue_fits (wider c.level t h c.residue k.in_range)
      (sym m ∙ reduce_lower p hp t n f.level_fits c.residue) in
      let l : joined_level p n L d.residue ≡ c.level =
      joined-level p n hp L apart d v ∙ ap (λ (z : ℤ). level_of S p n (reduce (p ^ n) z)) e ∙ k.its-level in
      in-cast (sym (signed_equal e l)) (map_in (joined_class p n L) (keep (is_first p n L) L) d
      (keep-in (is_first p n L) L d v (rw (l, e) k.in_range)))

  -- entries of one residue are one
  by-residue : (c d : SignedClass) → In c L → In d L → c.residue ≡ d.residue → c ≡ d
  by-residue c d u v e =
      let own : Around p d (reduce (p ^ n) c.residue) = rw e (own-around p n hp L apart d v) in
      signed_equal e (one-level p n hp L apart c d u v (reduce (p ^ n) c.residue) (reduce-lt (p ^ n) (pow_pos p hp n) c.residue)
      (own-around p n hp L apart c u) own)

  joined-no-repeat : NoRepeat (joined p n L)
  unfolding joined joined_class
  joined-no-repeat =
      no_repeat_map_on (joined_class p n L) (keep (is_first p n L) L) (λ c d u v e.
      by-residue c d (in-keep (is_first p n L) L c u).0 (in-keep (is_first p n L) L d v).0 (ap (λ (z : SignedClass). z.residue) e))
      (keep-no-repeat (is_first p n L) L (no_repeat_unmap _ L apart.no_repeat))

  -- a list of classes that share no member, joined, is the list of its members, in another order
  pub joined-permutation : Permutation (joined p n L) (signed_list (members p (naturals p L)) p n)
  joined-permutation =
      perm_of_entries (signed_list S p n) (joined p n L) (signed-no-repeat S p n) joined-no-repeat listed-joined joined-listed

  -- joining makes no list longer
  pub joined_length : length (joined p n L) ≤ length L
  unfolding joined
  joined_length = omega (arith, length-map (keep (is_first p n L) L) (joined_class p n L), keep-length (is_first p n L) L)
