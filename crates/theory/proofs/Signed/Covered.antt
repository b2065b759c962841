-- The classes of a list around a number: whether one of them, of a level below a limit, has it as a member.
use mathlib.Core.Path.{◌≡◌, refl, sym, ap, ◌∙◌}
use mathlib.Core.Logic.{◌⊎◌, inl, inr}
use mathlib.Core.Bool.{Bool, true, false, false≢true}
use mathlib.Core.List.{List, [], ◌∷◌}
use Prim.Native.Nat.{ℕ, zero, suc, ◌^◌, ◌<◌}
use native.Mathlib.Omega.{arith}
use borrow.Author.Tests.{eqb-true, eq-eqb, ltb-true, lt-ltb}
use lib.Dec.{eqb, ltb}
use lib.IntN.{ℤ}
use lib.ListN.{length}
use Rattle.theory.specs.Lists.{In, here, there}
use Rattle.theory.specs.Polynomial.{reduce}
use Rattle.theory.specs.Class.{Class, Member}
use Rattle.theory.specs.Shortest.{level_of}
use Rattle.theory.specs.SignedClass.{SignedClass, natural, signed_slot}
use Rattle.theory.specs.SignedList.{signed_list}
use Rattle.theory.specs.inner.Cut.{covered_by, covered}
use Rattle.theory.proofs.Tests.{and_left, and_right, and_intro, or_cases, or_left, or_right}
use Rattle.theory.proofs.Lists.Names.{perm-sym}
use Rattle.theory.proofs.Lists.Map.{in_map, map_in}
use Rattle.theory.proofs.Lists.Permutation.{perm_in}
use Rattle.theory.proofs.Numbers.Power.{pow_pos}
use Rattle.theory.proofs.Numbers.Reduction.{reduce-lt, reduce_lower}
use Rattle.theory.proofs.Classes.Cover.{shortest-sound, shortest-complete, member-level}
use Rattle.theory.proofs.Signed.List.{signed-listed}
use Rattle.theory.proofs.Signed.Entries.{natural-permutation, list-class}

-- a class of the list, of a level below the limit, that has z as a member
pub record Cover (p limit : ℕ) (z : ℤ) (L : List SignedClass) : Type 0 where
  pub entry : SignedClass
  pub listed : In entry L
  pub low : entry.level < limit
  pub congruent : reduce (p ^ entry.level) z ≡ reduce (p ^ entry.level) entry.residue

module _ (p limit : ℕ) (z : ℤ) where
  pub covered-sound : (L : List SignedClass) → covered p limit z L ≡ true → Cover p limit z L
  unfolding covered covered_by
  covered-sound [] e = absurd (false≢true e)
  covered-sound (c ∷ L) e = go (covered-sound L) (or_cases (covered_by p limit z c) (covered p limit z L) e)
    where
      go : (covered p limit z L ≡ true → Cover p limit z L) → (covered_by p limit z c ≡ true) ⊎ (covered p limit z L ≡ true)
          → Cover p limit z (c ∷ L)
      go ih (inl q) =
          let x = ltb c.level limit in
          let a = reduce (p ^ c.level) z in
          let b = reduce (p ^ c.level) c.residue in
          record {
            entry = c;
            listed = here refl;
            low = ltb-true c.level limit (and_left x (eqb a b) q);
            congruent = eqb-true a b (and_right x (eqb a b) q);
          }
      go ih (inr q) = let k = ih q in record { entry = k.entry; listed = there k.listed; low = k.low; congruent = k.congruent }

  pub covered-complete : (L : List SignedClass) (d : SignedClass) → In d L → d.level < limit
      → reduce (p ^ d.level) z ≡ reduce (p ^ d.level) d.residue → covered p limit z L ≡ true
  unfolding covered covered_by
  covered-complete (c ∷ L) d (here q) l e =
      let x = ltb d.level limit in
      let a = reduce (p ^ d.level) z in
      let b = reduce (p ^ d.level) d.residue in
      let own : covered_by p limit z d ≡ true = and_intro x (eqb a b) (lt-ltb d.level limit l) (eq-eqb a b e) in
      or_left (covered_by p limit z c) (covered p limit z L) (rw (← q) own)
  covered-complete (c ∷ L) d (there u) l e =
      or_right (covered_by p limit z c) (covered p limit z L) (covered-complete L d u l e)
  covered-complete [] d x3 l e = elim x3 [ ]

  -- by the entries' indices
  pub covered-at : (L : List SignedClass) (i : ℕ) → i < length L → covered_by p limit z (signed_slot L i) ≡ true → covered p limit z L ≡ true
  unfolding covered
  covered-at [] i h e = absurd (omega arith)
  covered-at (c ∷ L) zero h e = or_left (covered_by p limit z c) (covered p limit z L) e
  covered-at (c ∷ L) (suc i) h e = or_right (covered_by p limit z c) (covered p limit z L) (covered-at L i (omega arith) e)

  pub covered_none : (L : List SignedClass) → ((i : ℕ) → i < length L → covered_by p limit z (signed_slot L i) ≡ false)
      → covered p limit z L ≡ false
  unfolding covered
  covered_none [] h = refl
  covered_none (c ∷ L) h = rw (h 0 (omega arith)) (covered_none L (λ i l. h (suc i) (omega arith)))

-- Of the list of a set

module _ (S : ℕ → Bool) (p n : ℕ) (hp : 0 < p) (z : ℤ) where
  abbrev r : ℕ
  r = reduce (p ^ n) z

  below : r < p ^ n
  below = reduce-lt (p ^ n) (pow_pos p hp n) z

  -- where a class of the list has z as a member, z is in the set, and its level is the class's
  pub listed-around : (d : SignedClass) → In d (signed_list S p n) → reduce (p ^ d.level) z ≡ reduce (p ^ d.level) d.residue
      → (S r ≡ true) × (level_of S p n r ≡ d.level)
  unfolding natural
  listed-around d u e =
      let v = perm_in (natural-permutation S p n hp) (map_in (natural p) (signed_list S p n) d u) in
      let m : Member p n (natural p d) r =
      record { below = below; congruent = reduce_lower p hp d.level n (list-class S p n hp d u).level_fits z ∙ e } in
      (shortest-sound S p n hp (natural p d) v r m, member-level S p n hp (natural p d) v r m)

  -- and where z is in the set, there is such a class
  pub around-listed : S r ≡ true → (limit : ℕ) → level_of S p n r < limit → covered p limit z (signed_list S p n) ≡ true
  unfolding natural
  around-listed s limit low =
      let w = shortest-complete S p n hp r below s in
      let (d, u, q) =
      in_map (natural p) (signed_list S p n) w.entry (perm_in (perm-sym (natural-permutation S p n hp)) w.listed) in
      let level : w.entry.level ≡ d.level = ap (λ (c : Class). c.level) q in
      let fits = (list-class S p n hp d u).level_fits in
      let e : reduce (p ^ d.level) z ≡ reduce (p ^ d.level) d.residue =
      sym (reduce_lower p hp d.level n fits z) ∙ rw q at w.member.congruent in
      covered-complete p limit z (signed_list S p n) d u (omega (arith, (listed-around d u e).1)) e

-- no class of a list lies in a larger one of it
pub listed_uncovered : (S : ℕ → Bool) (p n : ℕ) → 0 < p → (c : SignedClass) → In c (signed_list S p n)
    → covered p c.level c.residue (signed_list S p n) ≡ true → ⊥
listed_uncovered S p n hp c u e =
    let k = covered-sound p c.level c.residue (signed_list S p n) e in
    omega (
      arith,
      k.low,
      (listed-around S p n hp c.residue k.entry k.listed k.congruent).1,
      (signed-listed S p n c u).its-level,
    )
