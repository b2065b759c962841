-- The list of the residues in two sets is made of the lists of each: the level of a residue in both sets is the higher of its two levels.
use mathlib.Core.Path.{◌≡◌, refl, sym, ◌∙◌}
use mathlib.Core.Logic.{◌⊎◌, inl, inr}
use mathlib.Core.Bool.{Bool, true}
use mathlib.Core.List.{List, ◌++◌}
use Prim.Native.Nat.{ℕ, suc, ◌+◌, ◌^◌, ◌≤◌, ◌<◌}
use native.Mathlib.Nat.{le_refl, le_trans, le_of_lt, lt_of_not-le, mod-lt}
use native.Mathlib.Decide.{dec_le}
use native.Mathlib.Omega.{arith}
use lib.IntN.{ℤ}
use lib.ListN.{length, length-append}
use Rattle.theory.specs.Lists.{In}
use Rattle.theory.specs.Polynomial.{reduce}
use Rattle.theory.specs.Class.{Class, IsClass}
use Rattle.theory.specs.Shortest.{is_whole, class_at, level_of}
use Rattle.theory.specs.Centered.{is_centered}
use Rattle.theory.specs.SignedClass.{SignedClass, IsSignedClass}
use Rattle.theory.specs.SignedList.{signed_list}
use Rattle.theory.specs.inner.Cut.{both, covered}
use Rattle.theory.proofs.Tests.{contradiction, not_holding, and_left, and_right, and_intro}
use Rattle.theory.proofs.Lists.Names.{in_left, in_right}
use Rattle.theory.proofs.Lists.Pigeonhole.{pigeonhole}
use Rattle.theory.proofs.Numbers.Power.{pow_pos}
use Rattle.theory.proofs.Numbers.Reduction.{reduce-lt}
use Rattle.theory.proofs.Least.{least_is}
use Rattle.theory.proofs.Classes.Whole.{whole-elim, whole-intro, whole-point, whole-down}
use Rattle.theory.proofs.Classes.Level.{level-whole, below-level}
use Rattle.theory.proofs.Signed.List.{SignedListed, signed-listed, listed-signed, signed-no-repeat}
use Rattle.theory.proofs.Signed.Classes.{class-wide}
use Rattle.theory.proofs.Signed.Entries.{list-class}
use Rattle.theory.proofs.Signed.Covered.{covered-sound, listed-around, around-listed}

-- The level of a residue in both sets

module _ (S T : ℕ → Bool) (p n : ℕ) (hp : 0 < p) where
  -- a class is whole in both sets exactly if it is whole in each
  both-whole : (c : Class) → IsClass p n c → is_whole S p n c ≡ true → is_whole T p n c ≡ true → is_whole (both S T) p n c ≡ true
  both-whole c k s t =
      whole-intro (both S T) p n hp c k (λ r m.
      and_intro (S r) (T r) (whole-elim S p n hp c k.level_fits s r m) (whole-elim T p n hp c k.level_fits t r m))

  whole_each : (c : Class) → IsClass p n c → is_whole (both S T) p n c ≡ true → (is_whole S p n c ≡ true) × (is_whole T p n c ≡ true)
  whole_each c k w =
      let all = whole-elim (both S T) p n hp c k.level_fits w in (
        whole-intro S p n hp c k (λ r m. and_left (S r) (T r) (all r m)),
        whole-intro T p n hp c k (λ r m. and_right (S r) (T r) (all r m)),
      )

  module _ (r : ℕ) (h : r < p ^ n) (s : S r ≡ true) (t : T r ≡ true) where
    at-class : (l : ℕ) → l ≤ n → IsClass p n (class_at p r l)
    at-class l k = record { level_fits = k; residue_fits = mod-lt r (pow_pos p hp l) }

    -- the level of r in a set that it is in, and the classes from there on
    level_fits : (R : ℕ → Bool) → R r ≡ true → level_of R p n r ≤ n
    level_fits R e = (level-whole R p n r n (le_refl n) (whole-point R p n hp r h e)).1

    from-level : (R : ℕ → Bool) → R r ≡ true → (l : ℕ) → l ≤ n → level_of R p n r ≤ l → is_whole R p n (class_at p r l) ≡ true
    from-level R e l k u =
        whole-down R p n hp r (level_of R p n r) l u k (level-whole R p n r n (le_refl n) (whole-point R p n hp r h e)).0

    -- it is the higher of its levels in each
    pub level-both : (l : ℕ) → level_of S p n r ≤ l → level_of T p n r ≤ l → (level_of S p n r ≡ l) ⊎ (level_of T p n r ≡ l)
        → level_of (both S T) p n r ≡ l
    unfolding level_of
    level-both l a b one =
        least_is (λ x. is_whole (both S T) p n (class_at p r x)) (suc n) 0 l (omega arith) (omega (arith, fits one))
        (λ x low u.
        not_holding (is_whole (both S T) p n (class_at p r x)) (λ w.
        let (ws, wt) = whole_each (class_at p r x) (at-class x (le_trans (le_of_lt u) (fits one))) w in
        below one x u ws wt))
        (λ u.
        both-whole (class_at p r l) (at-class l (fits one)) (from-level S s l (fits one) a) (from-level T t l (fits one) b))
      where
        fits : (level_of S p n r ≡ l) ⊎ (level_of T p n r ≡ l) → l ≤ n
        fits (inl e) = rw e at (level_fits S s)
        fits (inr e) = rw e at (level_fits T t)

        below : (level_of S p n r ≡ l) ⊎ (level_of T p n r ≡ l) → (x : ℕ) → x < l → is_whole S p n (class_at p r x) ≡ true
            → is_whole T p n (class_at p r x) ≡ true → ⊥
        below (inl e) x u ws wt = contradiction ws (below-level S p n r x (rw e u))
        below (inr e) x u ws wt = contradiction wt (below-level T p n r x (rw e u))

-- The list of the residues in both sets

module _ (S T : ℕ → Bool) (p n : ℕ) (hp : 0 < p) where
  abbrev A : List SignedClass
  A = signed_list S p n

  abbrev B : List SignedClass
  B = signed_list T p n

  abbrev C : List SignedClass
  C = signed_list (both S T) p n

  module _ (c : SignedClass) (k : IsSignedClass p n c) where
    abbrev r : ℕ
    r = reduce (p ^ n) c.residue

    -- a class whose residue is in both sets and whose level is the higher of its levels in each
    both-listed : S r ≡ true → T r ≡ true → level_of S p n r ≤ c.level → level_of T p n r ≤ c.level
        → (level_of S p n r ≡ c.level) ⊎ (level_of T p n r ≡ c.level) → In c C
    both-listed s t a b one =
        listed-signed (both S T) p n c (record {
          in-set = and_intro (S r) (T r) s t;
          its-level = level-both S T p n hp r (reduce-lt (p ^ n) (pow_pos p hp n) c.residue) s t c.level a b one;
          in_range = k.residue_fits;
        }) (class-wide p n hp c k)

  -- a class of the first list that lies in one of the second
  pub first-listed : (c : SignedClass) → In c A → covered p (suc c.level) c.residue B ≡ true → In c C
  first-listed c u e =
      let k = signed-listed S p n c u in
      let d = covered-sound p (suc c.level) c.residue B e in
      let (t, l) = listed-around T p n hp c.residue d.entry d.listed d.congruent in
      both-listed c (list-class S p n hp c u) k.in-set t (omega (arith, k.its-level)) (omega (arith, l, d.low)) (inl k.its-level)

  -- a class of the second list that lies in a larger one of the first
  pub second-listed : (c : SignedClass) → In c B → covered p c.level c.residue A ≡ true → In c C
  second-listed c u e =
      let k = signed-listed T p n c u in
      let d = covered-sound p c.level c.residue A e in
      let (s, l) = listed-around S p n hp c.residue d.entry d.listed d.congruent in
      both-listed c (list-class T p n hp c u) s k.in-set (omega (arith, l, d.low)) (omega (arith, k.its-level)) (inr k.its-level)

  -- and there are no others
  pub listed-from : (c : SignedClass) → In c C
      → (In c A × (covered p (suc c.level) c.residue B ≡ true)) ⊎ (In c B × (covered p c.level c.residue A ≡ true))
  listed-from c u = go (dec_le (level_of T p n r) (level_of S p n r))
    where
      k : SignedListed (both S T) p n c
      k = signed-listed (both S T) p n c u

      z : ℤ
      z = c.residue

      r : ℕ
      r = reduce (p ^ n) z

      h : r < p ^ n
      h = reduce-lt (p ^ n) (pow_pos p hp n) z

      s : S r ≡ true
      s = and_left (S r) (T r) k.in-set

      t : T r ≡ true
      t = and_right (S r) (T r) k.in-set

      wide : is_centered (p ^ n) z ≡ true
      wide = class-wide p n hp c (list-class (both S T) p n hp c u)

      go : Dec (level_of T p n r ≤ level_of S p n r)
          → (In c A × (covered p (suc c.level) z B ≡ true)) ⊎ (In c B × (covered p c.level z A ≡ true))
      go (yes l) =
          let e : level_of S p n r ≡ c.level =
          sym (level-both S T p n hp r h s t (level_of S p n r) (le_refl (level_of S p n r)) l (inl refl)) ∙ k.its-level in
          inl (
            listed-signed S p n c (record { in-set = s; its-level = e; in_range = k.in_range }) wide,
            around-listed T p n hp z t (suc c.level) (omega (arith, e)),
          )
      go (no l) =
          let m = lt_of_not-le l in
          let e : level_of T p n r ≡ c.level =
          sym (level-both S T p n hp r h s t (level_of T p n r) (le_of_lt m) (le_refl (level_of T p n r)) (inr refl)) ∙ k.its-level in
          inr (
            listed-signed T p n c (record { in-set = t; its-level = e; in_range = k.in_range }) wide,
            around-listed S p n hp z s c.level (omega (arith, e)),
          )

  -- so it has at most as many classes as both lists together
  pub both-length : length C ≤ length A + length B
  both-length =
      let m = pigeonhole (λ (c : SignedClass). c) C (A ++ B) (signed-no-repeat (both S T) p n)
      (λ c u. (c, from c (listed-from c u), refl)) in
      omega (arith, length-append A B)
    where
      from : (c : SignedClass)
          → (In c A × (covered p (suc c.level) c.residue B ≡ true)) ⊎ (In c B × (covered p c.level c.residue A ≡ true))
          → In c (A ++ B)
      from c (inl (u, e)) = in_left B u
      from c (inr (u, e)) = in_right A u
