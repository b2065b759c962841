-- The tree of digits below one class a/t: its classes are those of the numbers y with a + p^t·y in S, t levels deeper.
use mathlib.Core.Path.{◌≡◌, refl, sym, ap, ap₂, ◌∙◌, fun_ext}
use mathlib.Core.Logic.{◌⊎◌, inl, inr}
use mathlib.Core.Bool.{Bool, true, false, ◌&&◌}
use Prim.Native.Nat.{ℕ, ◌+◌, ◌-◌, ◌*◌, ◌/◌, ◌%◌, ◌^◌, ◌≤◌, ◌<◌}
use native.Mathlib.Nat.{mul-le-mul_left, div-add-mod, div-lt_iff_lt-mul, eq_of_mul-eq-mul_left, add_left_cancel}
use native.Mathlib.Nat.{mod-eq_of_lt, mod-mod_of_dvd}
use native.Mathlib.Decide.{dec_le}
use native.Mathlib.Omega.{arith}
use lib.Pow.{pow-add}
use Rattle.theory.specs.Lists.{In}
use Rattle.theory.specs.Range.{all_below}
use Rattle.theory.specs.Class.{Class, class, IsClass, Member, Contains, is_member}
use Rattle.theory.specs.Shortest.{is_whole, class_at, shortest}
use Rattle.theory.specs.Rival.{Rival}
use Rattle.theory.specs.inner.Tree.{tree}
use Rattle.theory.specs.inner.Started.{branch_at, under, tree_below}
use Rattle.theory.proofs.Tests.{contradiction, not_holding, and_left, and_right, and_intro}
use Rattle.theory.proofs.Lists.Names.{in-single, perm-sym}
use Rattle.theory.proofs.Lists.Map.{in_map, map_in}
use Rattle.theory.proofs.Lists.NoRepeat.{no_repeat_map}
use Rattle.theory.proofs.Lists.Permutation.{perm_in, perm_no_repeat}
use Rattle.theory.proofs.Numbers.Power.{pow_pos, pow_split, pow_dvd}
use Rattle.theory.proofs.Classes.Equal.{class_equal}
use Rattle.theory.proofs.Classes.Digit.{digit-mod, digits_above, next-digits}
use Rattle.theory.proofs.Classes.Whole.{whole-down}
use Rattle.theory.proofs.Classes.Cover.{shortest-disjoint, shortest_no_repeat}
use Rattle.theory.proofs.Classes.Entries.{Entry, entry_listed, contained_at}
use Rattle.theory.proofs.Classes.Tree.{entries, whole_top, tree_whole, tree-rival, tree-perm}
use Rattle.theory.proofs.Classes.Members.{member_congruent, congruent_member}
use Rattle.theory.proofs.Classes.Apart.{Apart}

-- all the numbers y are the class itself
under_top : (p : ℕ) (c : Class) → under p c (class 0 0) ≡ c
unfolding under
under_top p c = class_equal {b = c.residue} {u = c.level} (omega arith) (omega arith)

-- a class of them is whole exactly if it is whole in S, t levels deeper
whole_under : (S : ℕ → Bool) (p n : ℕ) (c e : Class) → is_whole S p n (under p c e) ≡ is_whole (branch_at S p c) p (n - c.level) e
unfolding is_whole under
whole_under S p n c e =
    ap₂ all_below
    (fun_ext (λ i. ap S (rw (pow-add p c.level e.level) (omega arith))))
    (ap (λ (x : ℕ). p ^ x) (omega arith))

module _ (p n : ℕ) (two : 2 ≤ p) (c : Class) (k : IsClass p n c) where
  abbrev a : ℕ
  a = c.residue

  abbrev t : ℕ
  t = c.level

  hp : 0 < p
  hp = omega arith

  hq : 0 < p ^ t
  hq = pow_pos p hp t

  quotient-lt : (r : ℕ) → r < p ^ n → r / p ^ t < p ^ (n - t)
  quotient-lt r h = (div-lt_iff_lt-mul hq).1 (rw (pow_split p k.level_fits) at h)

  under-class : (e : Class) → IsClass p (n - t) e → IsClass p n (under p c e)
  unfolding under
  under-class e m =
      record {
        level_fits = omega (arith, k.level_fits, m.level_fits);
        residue_fits = omega (arith, pow-add p t e.level, mul-le-mul_left (p ^ t) m.residue_fits, k.residue_fits);
      }

  under-injective : (d e : Class) → under p c d ≡ under p c e → d ≡ e
  unfolding under
  under-injective d e q =
      class_equal
      (eq_of_mul-eq-mul_left (p ^ t) hq d.residue e.residue (add_left_cancel a (ap (λ (x : Class). x.residue) q)))
      (add_left_cancel t (ap (λ (x : Class). x.level) q))

  -- the members of a class t levels deeper are the members r of c whose r / p^t is a member of the class
  under-inside : (e : Class) → Contains p n c (under p c e)
  unfolding under
  under-inside e r m =
      record {
        below = m.below;
        congruent = (contained_at p n (under p c e) t (omega arith) r m).congruent ∙ digit-mod p hp a t e.residue k.residue_fits;
      }

  under-member : (e : Class) (r : ℕ) → Member p n (under p c e) r → Member p (n - t) e (r / p ^ t)
  unfolding under
  under-member e r m =
      record {
        below = quotient-lt r m.below;
        congruent =
            eq_of_mul-eq-mul_left (p ^ t) hq (r / p ^ t % p ^ e.level) e.residue
            (omega (arith, next-digits p hp r t e.level, m.congruent, (under-inside e r m).congruent));
      }

  member-under : (e : Class) (r : ℕ) → Member p n c r → Member p (n - t) e (r / p ^ t) → Member p n (under p c e) r
  unfolding under
  member-under e r mc me =
      record { below = mc.below; congruent = next-digits p hp r t e.level ∙ rw (mc.congruent, me.congruent) }

  -- the class of a + p^t·y at t + u is that of y at u, t levels deeper
  at_under : (y u : ℕ) → class_at p (a + p ^ t * y) (t + u) ≡ under p c (class_at p y u)
  unfolding under
  at_under y u =
      class_equal
      (next-digits p hp (a + p ^ t * y) t u ∙ rw (digit-mod p hp a t y k.residue_fits, digits_above p hp a t y k.residue_fits)) refl

  -- and at lower levels that of a
  at-lower : (y s : ℕ) → s ≤ t → class_at p (a + p ^ t * y) s ≡ class_at p a s
  at-lower y s h =
      class_equal
      (sym (mod-mod_of_dvd (p ^ s) (a + p ^ t * y) (pow_dvd p h)) ∙ ap (λ (x : ℕ). x % p ^ s) (digit-mod p hp a t y k.residue_fits)) refl

  module _ (S : ℕ → Bool) where
    -- the numbers y in question, and the precision that is left for them
    abbrev B : ℕ → Bool
    B = branch_at S p c

    abbrev l : ℕ
    l = n - t

    -- a member of c is a + p^t·(r / p^t)
    branch-member : (r : ℕ) → Member p n c r → B (r / p ^ t) ≡ S r
    branch-member r m = ap S (omega (arith, div-add-mod r (p ^ t), m.congruent))

    source : (e : Class) → In e (tree_below S p n c) → (d : Class) × In d (tree B p l) × (e ≡ under p c d)
    unfolding tree_below
    source e u = in_map (under p c) (tree B p l) e u

    -- the classes lie inside c
    pub below-inside : (e : Class) → In e (tree_below S p n c) → Contains p n c e
    below-inside e u = let (d, v, q) = source e u in rw q (under-inside d)

    -- and hold the members of c that are in S
    pub below-rival : Rival (λ r. S r && is_member p c r) p n (tree_below S p n c)
    unfolding tree_below
    below-rival =
        record {
          classes = λ e u. let (d, v, q) = source e u in rw q (under-class d (entries p hp B l d v).is_class);
          every = λ r h s.
              let m : Member p n c r = record { below = h; congruent = member_congruent p c r (and_right (S r) (is_member p c r) s) } in
              let w = (tree-rival p hp B l).every (r / p ^ t) (quotient-lt r h) (branch-member r m ∙ and_left (S r) (is_member p c r) s) in
              record {
                entry = under p c w.entry;
                listed = map_in (under p c) (tree B p l) w.entry w.listed;
                member = member-under w.entry r m w.member;
              };
          no_other = λ e u r m.
              let (d, v, q) = source e u in
              let mc = below-inside e u r m in
              and_intro (S r) (is_member p c r)
              (sym (branch-member r mc) ∙ (tree-rival p hp B l).no_other d v (r / p ^ t) (under-member d r (rw q at m)))
              (congruent_member p c r mc.congruent);
        }

    -- none twice
    pub below_apart : Apart p n (tree_below S p n c)
    unfolding tree_below
    below_apart =
        record {
          classes = below-rival.classes;
          no_repeat =
              no_repeat_map (under p c) under-injective (tree B p l)
              (perm_no_repeat (perm-sym (tree-perm p hp two B l)) (shortest_no_repeat B p l));
          disjoint = λ e f u v r me mf.
              let (d, x, q) = source e u in
              let (b, y, s) = source f v in
              q
              ∙ ap (under p c) (shortest-disjoint B p l hp d b (listed d x) (listed b y) (r / p ^ t)
              (under-member d r (rw q at me)) (under-member b r (rw s at mf)))
              ∙ sym s;
        }
      where
        listed : (d : Class) → In d (tree B p l) → In d (shortest B p l)
        listed d u = perm_in (tree-perm p hp two B l) u

    -- all the numbers y are there exactly if c is whole
    all-below : is_whole S p n c ≡ all_below B (p ^ l)
    all-below = ap (is_whole S p n) (sym (under_top p c)) ∙ whole_under S p n c (class 0 0) ∙ whole_top B p l

    -- where c lies in a whole class, it is whole
    whole-inside : (s : ℕ) → s ≤ t → is_whole S p n (class_at p a s) ≡ true → is_whole S p n c ≡ true
    whole-inside s h w = rw (mod-eq_of_lt k.residue_fits) at (whole-down S p n hp a s t h k.level_fits w)

    -- where c is not whole, no class below lies in a larger whole one
    under-entry : is_whole S p n c ≡ false → (d : Class) → Entry B p l d → Entry S p n (under p c d)
    unfolding under
    under-entry none d m =
        record {
          is_class = under-class d m.is_class;
          whole = whole_under S p n c d ∙ m.whole;
          in_no_larger = λ s h. larger s h (dec_le t s);
        }
      where
        larger : (s : ℕ) → s < t + d.level → Dec (t ≤ s) → is_whole S p n (class_at p (a + p ^ t * d.residue) s) ≡ false
        larger s h (yes b) =
            let e : t + (s - t) ≡ s = omega arith in
            rw e at (ap (is_whole S p n) (at_under d.residue (s - t))
            ∙ whole_under S p n c (class_at p d.residue (s - t))
            ∙ m.in_no_larger (s - t) (omega arith))
        larger s h (no b) =
            ap (is_whole S p n) (at-lower d.residue s (omega arith))
            ∙ not_holding (is_whole S p n (class_at p a s)) (λ w. contradiction (whole-inside s (omega arith) w) none)

    -- each class is c or one of S's own list
    pub below-listed : (e : Class) → In e (tree_below S p n c) → (e ≡ c) ⊎ In e (shortest S p n)
    below-listed e u = let (d, v, q) = source e u in go d v q (is_whole S p n c) refl
      where
        go : (d : Class) → In d (tree B p l) → e ≡ under p c d → (b : Bool) → is_whole S p n c ≡ b → (e ≡ c) ⊎ In e (shortest S p n)
        go d v q true w =
            let top : d ≡ class 0 0 = in-single (rw (tree_whole B p l (sym all-below ∙ w)) at v) in
            inl (q ∙ ap (under p c) top ∙ under_top p c)
        go d v q false w = inr (rw q (entry_listed S p n hp (under p c d) (under-entry w d (entries p hp B l d v))))
