-- Of a list of classes that share no member: which classes around its entries are whole in their union, by adding up member numbers.
use mathlib.Core.Path.{◌≡◌, refl, sym, ap, ◌∙◌}
use mathlib.Core.Bool.{Bool, true}
use mathlib.Core.List.{List, [], ◌∷◌, ◌++◌}
use Prim.Native.Nat.{ℕ, ◌+◌, ◌-◌, ◌%◌, ◌^◌, ◌≤◌, ◌<◌}
use native.Mathlib.Nat.{le_refl, le_trans, lt_of_not-le, le_of_lt, mod-mod_of_dvd}
use native.Mathlib.Decide.{dec_le}
use native.Mathlib.Omega.{arith}
use lib.Dec.{eqb, leb}
use lib.IntN.{ℤ}
use lib.ListN.{length}
use borrow.Author.Tests.{eqb-true, eq-eqb, leb-true, le-leb}
use Rattle.theory.specs.Lists.{In}
use Rattle.theory.specs.Range.{passing}
use Rattle.theory.specs.Polynomial.{reduce}
use Rattle.theory.specs.Class.{Class, class, IsClass, is_member, member_count}
use Rattle.theory.specs.ClassList.{members, member_total}
use Rattle.theory.specs.Shortest.{is_whole, class_at, level_of}
use Rattle.theory.specs.SignedClass.{SignedClass, natural, naturals, levels_of}
use Rattle.theory.specs.inner.Keep.{keep}
use Rattle.theory.specs.inner.Join.{inside_at, inside_total, adds_up, joined_level, FilledDown}
use Rattle.theory.proofs.Tests.{same_test, not_holding, and_left, and_right, and_intro}
use Rattle.theory.proofs.Lists.Names.{in-cast}
use Rattle.theory.proofs.Lists.Map.{in_map, map_in, map-append}
use Rattle.theory.proofs.Lists.NoRepeat.{no_repeat_map_on, no_repeat_unmap, injective_on}
use Rattle.theory.proofs.Lists.Keep.{in-keep, keep-in, keep-no-repeat, keep-next-on, keep-next-off}
use Rattle.theory.proofs.Numbers.Power.{pow_pos, pow_dvd}
use Rattle.theory.proofs.Numbers.Reduction.{reduce-lt, reduce_lower}
use Rattle.theory.proofs.Range.{least_range, passing_same}
use Rattle.theory.proofs.Passing.{passing_as_many}
use Rattle.theory.proofs.Least.{least_is}
use Rattle.theory.proofs.Classes.Whole.{whole-elim, whole-intro, whole-down}
use Rattle.theory.proofs.Classes.Level.{level-whole, below-level}
use Rattle.theory.proofs.Classes.Members.{member_congruent, congruent_member, members_sound, members_complete}
use Rattle.theory.proofs.Classes.Sum.{class_size, disjoint_total, total_next}
use Rattle.theory.proofs.Classes.Apart.{Apart}
use Rattle.theory.proofs.Signed.Classes.{natural-levels}

-- The sum of the member numbers inside a class, with one entry more
module _ (p n a t : ℕ) (L : List SignedClass) (c : SignedClass) where
  abbrev residue-there : Bool
  residue-there = eqb (reduce (p ^ t) c.residue) a

  pub inside_on : t ≤ c.level → reduce (p ^ t) c.residue ≡ a
      → inside_total p n a t (L ++ (c ∷ [])) ≡ inside_total p n a t L + p ^ (n - c.level)
  unfolding inside_total inside_at
  inside_on h e =
      let f = inside_at p a t in
      let there = and_intro (leb t c.level) residue-there (le-leb t c.level h) (eq-eqb (reduce (p ^ t) c.residue) a e) in
      ap (λ (l : List SignedClass). member_total p n (levels_of l)) (keep-next-on f L c there)
      ∙ ap (member_total p n) (map-append (λ (d : SignedClass). d.level) (keep f L) (c ∷ []))
      ∙ total_next p n (levels_of (keep f L)) c.level

  pub inside-off : (t ≤ c.level → reduce (p ^ t) c.residue ≡ a → ⊥) → inside_total p n a t (L ++ (c ∷ [])) ≡ inside_total p n a t L
  unfolding inside_total inside_at
  inside-off h =
      let f = inside_at p a t in
      let x = leb t c.level in
      ap (λ (l : List SignedClass). member_total p n (levels_of l)) (keep-next-off f L c (not_holding (f c) (λ e.
      h (leb-true t c.level (and_left x residue-there e)) (eqb-true (reduce (p ^ t) c.residue) a (and_right x residue-there e)))))

-- the level that joining gives a residue is at most n
pub joined_level-le : (p n : ℕ) (L : List SignedClass) (z : ℤ) → joined_level p n L z ≤ n
unfolding joined_level
joined_level-le p n L z = omega (arith, (least_range (adds_up p n L z) n 0).1)

-- Members of a list

-- r is congruent to the residue of d modulo its power
abbrev pub Around : ℕ → SignedClass → ℕ → Type 0
Around p d r = r % p ^ d.level ≡ reduce (p ^ d.level) d.residue

-- a member of the list is one of an entry
pub entry_of : (p : ℕ) (L : List SignedClass) (r : ℕ) → members p (naturals p L) r ≡ true → (d : SignedClass) × In d L × Around p d r
unfolding natural
entry_of p L r e =
    let (c, u, m) = members_sound p (naturals p L) r e in
    let (d, v, q) = in_map (natural p) L c u in
    (d, v, member_congruent p (natural p d) r (rw q at m))

-- and a member of an entry is one of the list
pub of_entry : (p : ℕ) (L : List SignedClass) (r : ℕ) (d : SignedClass) → In d L → Around p d r → members p (naturals p L) r ≡ true
unfolding natural
of_entry p L r d u e =
    members_complete p (naturals p L) r (natural p d) (map_in (natural p) L d u) (congruent_member p (natural p d) r e)

module _ (p n : ℕ) (hp : 0 < p) where
  -- and then modulo a lower power too
  lower : (d : SignedClass) (t r : ℕ) → t ≤ d.level → Around p d r → r % p ^ t ≡ reduce (p ^ t) d.residue
  lower d t r h e =
      sym (mod-mod_of_dvd (p ^ t) r (pow_dvd p h)) ∙ ap (λ (x : ℕ). x % p ^ t) e ∙ reduce_lower p hp t d.level h d.residue

  module _ (L : List SignedClass) (apart : Apart p n (naturals p L)) where
    abbrev S : ℕ → Bool
    S = members p (naturals p L)

    kept : (f : SignedClass → Bool) (c : Class) → In c (naturals p (keep f L)) → In c (naturals p L)
    kept f c u =
        let (d, v, q) = in_map (natural p) (keep f L) c u in
        in-cast q (map_in (natural p) L d (in-keep f L d v).0)

    -- the entries that pass a test share no member either
    pub keep_apart : (f : SignedClass → Bool) → Apart p n (naturals p (keep f L))
    keep_apart f =
        record {
          classes = λ c u. apart.classes c (kept f c u);
          no_repeat =
              no_repeat_map_on (natural p) (keep f L) (λ c d u v.
              injective_on (natural p) L apart.no_repeat c d (in-keep f L c u).0 (in-keep f L d v).0)
              (keep-no-repeat f L (no_repeat_unmap (natural p) L apart.no_repeat));
          disjoint = λ c d u v. apart.disjoint c d (kept f c u) (kept f d v);
        }

    pub level_in : (d : SignedClass) → In d L → d.level ≤ n
    unfolding natural
    level_in d u = (apart.classes (natural p d) (map_in (natural p) L d u)).level_fits

    -- z modulo pⁿ is a member of the entry with the residue z
    pub own-around : (d : SignedClass) → In d L → Around p d (reduce (p ^ n) d.residue)
    own-around d u = reduce_lower p hp d.level n (level_in d u) d.residue

    -- entries with a member in common are of one level
    pub one-level : (d e : SignedClass) → In d L → In e L → (r : ℕ) → r < p ^ n → Around p d r → Around p e r → d.level ≡ e.level
    unfolding natural
    one-level d e u v r h f g =
        ap (λ (c : Class). c.level) (apart.disjoint (natural p d) (natural p e) (map_in (natural p) L d u) (map_in (natural p) L e v) r
        (record { below = h; congruent = f }) (record { below = h; congruent = g }))

    -- an entry is whole in the union
    entry_whole : (d : SignedClass) → In d L → (r : ℕ) → Around p d r → is_whole S p n (class_at p r d.level) ≡ true
    unfolding natural
    entry_whole d u r e =
        let k = apart.classes (natural p d) (map_in (natural p) L d u) in
        let w : is_whole S p n (natural p d) ≡ true = whole-intro S p n hp (natural p d) k (λ x m. of_entry p L x d u m.congruent) in
        rw e w

    -- so its members' levels are no higher than its own
    pub entry-level : (d : SignedClass) → In d L → (r : ℕ) → Around p d r
        → (is_whole S p n (class_at p r (level_of S p n r)) ≡ true) × (level_of S p n r ≤ d.level)
    entry-level d u r e = level-whole S p n r d.level (level_in d u) (entry_whole d u r e)

    -- The class of residue a and level t, and the entries inside it
    module _ (a t : ℕ) (k : IsClass p n (class a t)) where
      abbrev c : Class
      c = class a t

      inside : List Class
      inside = naturals p (keep (inside_at p a t) L)

      total : length (passing (members p inside) (p ^ n) 0) ≡ inside_total p n a t L
      unfolding inside inside_total
      total =
          let w = keep_apart (inside_at p a t) in
          disjoint_total p n hp inside w.classes w.no_repeat w.disjoint
          ∙ ap (member_total p n) (natural-levels p (keep (inside_at p a t) L))

      -- a member of an entry inside is one of the class, and of the list
      inner : (r : ℕ) → members p inside r ≡ true → (is_member p c r ≡ true) × (S r ≡ true)
      unfolding inside inside_at
      inner r e =
          let (d, u, m) = entry_of p (keep (inside_at p a t) L) r e in
          let (v, i) = in-keep (inside_at p a t) L d u in
          let x = leb t d.level in
          let y = eqb (reduce (p ^ t) d.residue) a in
          let l = leb-true t d.level (and_left x y i) in
          let q = eqb-true (reduce (p ^ t) d.residue) a (and_right x y i) in
          (congruent_member p c r (lower d t r l m ∙ q), of_entry p L r d v m)

      -- where the member numbers add up, the class is whole
      full : inside_total p n a t L ≡ p ^ (n - t) → is_whole S p n c ≡ true
      unfolding member_count
      full e =
          whole-intro S p n hp c k (λ r m.
          (inner r (passing_as_many (members p inside) (is_member p c) (p ^ n) 0 (λ x l b q. (inner x q).0)
          (total ∙ e ∙ sym (class_size p n hp c k)) r (omega arith) (omega (arith, m.below)) (congruent_member p c r m.congruent))).1)

      -- and where each of its members is one of an entry inside, they add up
      added-up : ((r : ℕ) → r < p ^ n → is_member p c r ≡ true → members p inside r ≡ true) → inside_total p n a t L ≡ p ^ (n - t)
      unfolding member_count
      added-up f =
          sym total
          ∙ ap length (passing_same (members p inside) (is_member p c) (p ^ n) 0 (λ r l b.
          same_test (members p inside r) (is_member p c r) (λ q. (inner r q).0) (f r (omega arith))))
          ∙ class_size p n hp c k

      -- a member of a whole class that an entry lies in is a member of an entry inside
      outer : (d : SignedClass) → In d L → t ≤ d.level → reduce (p ^ t) d.residue ≡ a → is_whole S p n c ≡ true
          → (r : ℕ) → r < p ^ n → is_member p c r ≡ true → members p inside r ≡ true
      unfolding inside inside_at
      outer d u h q w r b m =
          let (e, v, g) = entry_of p L r (whole-elim S p n hp c k.level_fits w r (record { below = b; congruent = i })) in
          go e v g (dec_le t e.level)
        where
          i : r % p ^ t ≡ a
          i = member_congruent p c r m

          x : ℕ
          x = reduce (p ^ n) d.residue

          -- the residue of d is then a member of e too
          at : (e : SignedClass) → e.level ≤ t → Around p e r → Around p e x
          at e l g =
              let s = e.level in
              reduce_lower p hp s n (le_trans l k.level_fits) d.residue
              ∙ sym (reduce_lower p hp s t l d.residue)
              ∙ ap (λ (y : ℕ). y % p ^ s) (q ∙ sym i)
              ∙ mod-mod_of_dvd (p ^ s) r (pow_dvd p l)
              ∙ g

          go : (e : SignedClass) → In e L → Around p e r → Dec (t ≤ e.level) → members p inside r ≡ true
          go e v g (yes l) =
              of_entry p (keep (inside_at p a t) L) r e
              (keep-in (inside_at p a t) L e v (and_intro (leb t e.level) (eqb (reduce (p ^ t) e.residue) a) (le-leb t e.level l)
              (eq-eqb (reduce (p ^ t) e.residue) a (sym (lower e t r l g) ∙ i)))) g
          go e v g (no l) =
              let f = at e (le_of_lt (lt_of_not-le l)) g in
              absurd (omega (arith, one-level d e u v x (reduce-lt (p ^ n) (pow_pos p hp n) d.residue) (own-around d u) f))

    -- of a class that an entry lies in, the sum tells whether it is whole
    pub whole-adds-up : (d : SignedClass) → In d L → (t : ℕ) → t ≤ d.level
        → adds_up p n L d.residue t ≡ is_whole S p n (class_at p (reduce (p ^ n) d.residue) t)
    unfolding adds_up
    whole-adds-up d u t h =
        rw (reduce_lower p hp t n fits d.residue) (same_test (adds_up p n L d.residue t) (is_whole S p n (class a t))
        (λ e. full a t k (eqb-true (inside_total p n a t L) (p ^ (n - t)) e))
        (λ w. eq-eqb (inside_total p n a t L) (p ^ (n - t)) (added-up a t k (outer a t k d u h refl w))))
      where
        fits : t ≤ n
        fits = le_trans h (level_in d u)

        a : ℕ
        a = reduce (p ^ t) d.residue

        k : IsClass p n (class a t)
        k = record { level_fits = fits; residue_fits = reduce-lt (p ^ t) (pow_pos p hp t) d.residue }

    -- so the level that joining gives an entry's residue is its level in the union
    pub joined-level : (d : SignedClass) → In d L → joined_level p n L d.residue ≡ level_of S p n (reduce (p ^ n) d.residue)
    unfolding joined_level
    joined-level d u =
        let r = reduce (p ^ n) d.residue in
        let (w, h) = entry-level d u r (own-around d u) in
        least_is (adds_up p n L d.residue) n 0 (level_of S p n r) (omega arith) (omega (arith, level_in d u))
        (λ t l b. whole-adds-up d u t (omega arith) ∙ below-level S p n r t b)
        (λ b. whole-adds-up d u (level_of S p n r) h ∙ w)

    -- and where a class around the residue adds up, so does each smaller one down to the entry
    pub filled-down : (d : SignedClass) → In d L → FilledDown p n L d
    filled-down d u =
        let r = reduce (p ^ n) d.residue in
        record {
          level_fits = level_in d u;
          own = whole-adds-up d u d.level (le_refl d.level) ∙ entry_whole d u r (own-around d u);
          down = λ s t h k e.
              whole-adds-up d u t k
              ∙ whole-down S p n hp r s t h (le_trans k (level_in d u)) (sym (whole-adds-up d u s (le_trans h k)) ∙ e);
        }
