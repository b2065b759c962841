-- The tree's list is a permutation of `shortest`.
use mathlib.Core.Path.{◌≡◌, refl, sym, ap, ap₂, ◌∙◌, fun_ext}
use mathlib.Core.Bool.{Bool, true, false}
use mathlib.Core.List.{List, [], ◌∷◌, map}
use Prim.Native.Nat.{ℕ, zero, suc, ◌+◌, ◌*◌, ◌/◌, ◌%◌, ◌^◌, ◌≤◌, ◌<◌}
use native.Mathlib.Nat.{mul-le-mul_left, pow-suc, pow-succ', pow-zero, suc-sub-suc, le_antisymm}
use native.Mathlib.Nat.{mod-one, mod-lt, mod-eq_of_lt, div-eq_of_lt, add-mul-mod_self_left, add-mul-div_left, div-add-mod}
use native.Mathlib.Nat.{div-lt_iff_lt-mul, eq_of_mul-eq-mul_left, add_left_cancel, suc_inj}
use native.Mathlib.Omega.{arith}
use lib.Arith.{mod-mul}
use Rattle.theory.specs.Lists.{In, here, Permutation}
use Rattle.theory.specs.Range.{all_below}
use Rattle.theory.specs.Class.{Class, class, IsClass, Member}
use Rattle.theory.specs.Shortest.{is_whole, class_at, shortest}
use Rattle.theory.specs.inner.Tree.{concat_below, branch, deeper, tree}
use Rattle.theory.specs.Rival.{Holds, Rival}
use Rattle.theory.proofs.Tests.{contradiction}
use Rattle.theory.proofs.Lists.Names.{in-nil, in-single}
use Rattle.theory.proofs.Lists.Map.{in_map, map_in}
use Rattle.theory.proofs.Lists.NoRepeat.{NoRepeat, no_repeat_map}
use Rattle.theory.proofs.Lists.Pigeonhole.{pigeonhole}
use Rattle.theory.proofs.Numbers.Power.{pow_pos}
use Rattle.theory.proofs.Range.{all_intro}
use Rattle.theory.proofs.Classes.Concat.{in_concat, concat_in, no_repeat_concat}
use Rattle.theory.proofs.Classes.Equal.{class_equal}
use Rattle.theory.proofs.Classes.Whole.{whole-elim}
use Rattle.theory.proofs.Classes.Entries.{Entry, entry_listed}
use Rattle.theory.proofs.Classes.Rival.{rival-at-least-as-long, rival-as-long-is-shortest}

-- One step

-- the classes below the digit c
abbrev pub below : (ℕ → Bool) → ℕ → ℕ → ℕ → List Class
below S p l c = map (deeper p c) (tree (branch S p c) p l)

pub tree_whole : (S : ℕ → Bool) (p l : ℕ) → all_below S (p ^ l) ≡ true → tree S p l ≡ class 0 0 ∷ []
unfolding tree
tree_whole S p zero e = rw (e, tree)
tree_whole S p (suc l) e = rw (e, tree)

pub tree_none : (S : ℕ → Bool) (p : ℕ) → all_below S (p ^ 0) ≡ false → tree S p 0 ≡ []
unfolding tree
tree_none S p e = rw (e, tree)

pub tree_split : (S : ℕ → Bool) (p l : ℕ) → all_below S (p ^ suc l) ≡ false → tree S p (suc l) ≡ concat_below (below S p l) p
unfolding tree
tree_split S p l e = rw (e, tree)

-- A digit more

module _ (p : ℕ) (hp : 0 < p) where
  deeper-mod : (c y t : ℕ) → c < p → (c + p * y) % p ^ suc t ≡ c + p * (y % p ^ t)
  deeper-mod c y t h =
      let low : (c + p * y) % p ≡ c = add-mul-mod_self_left c p y ∙ mod-eq_of_lt h in
      let high : (c + p * y) / p ≡ y = add-mul-div_left c y hp ∙ ap (λ (x : ℕ). x + y) (div-eq_of_lt h) ∙ omega arith in
      ap (λ (x : ℕ). (c + p * y) % x) (pow-suc p t)
      ∙ mod-mul (c + p * y) (pow_pos p hp t) hp
      ∙ rw (low, high) (omega arith)

  deeper-class : (l c : ℕ) (e : Class) → c < p → IsClass p l e → IsClass p (suc l) (deeper p c e)
  unfolding deeper
  deeper-class l c e h k =
      record {
        level_fits = omega (arith, k.level_fits);
        residue_fits = omega (arith, pow-succ' p e.level, mul-le-mul_left p k.residue_fits);
      }

  deeper-member : (l c : ℕ) (e : Class) (y : ℕ) → c < p → Member p l e y → (c + p * y) % p ^ suc e.level ≡ (deeper p c e).residue
  unfolding deeper
  deeper-member l c e y h m = deeper-mod c y e.level h ∙ ap (λ (x : ℕ). c + p * x) m.congruent

-- a class below the digit c is whole in S exactly if it is whole in what lies below c
whole_deeper : (S : ℕ → Bool) (p l c : ℕ) (e : Class) → is_whole S p (suc l) (deeper p c e) ≡ is_whole (branch S p c) p l e
unfolding is_whole deeper
whole_deeper S p l c e =
    ap₂ all_below
    (fun_ext (λ i. ap S (rw (pow-succ' p e.level) (omega arith))))
    (ap (λ (x : ℕ). p ^ x) (suc-sub-suc l e.level))

pub whole_top : (S : ℕ → Bool) (p l : ℕ) → is_whole S p l (class 0 0) ≡ all_below S (p ^ l)
unfolding is_whole
whole_top S p l =
    ap₂ all_below
    (fun_ext (λ i. ap S (rw (pow-zero p) (omega arith))))
    (ap (λ (x : ℕ). p ^ x) (omega arith))

-- The entries

module _ (p : ℕ) (hp : 0 < p) where
  top-entry : (S : ℕ → Bool) (l : ℕ) → all_below S (p ^ l) ≡ true → Entry S p l (class 0 0)
  top-entry S l w =
      record {
        is_class = record { level_fits = omega arith; residue_fits = pow_pos p hp 0 };
        whole = whole_top S p l ∙ w;
        in_no_larger = λ t h. absurd (omega arith);
      }

  deeper-entry : (S : ℕ → Bool) (l c : ℕ) (e : Class) → c < p → all_below S (p ^ suc l) ≡ false → Entry (branch S p c) p l e
      → Entry S p (suc l) (deeper p c e)
  unfolding deeper
  deeper-entry S l c e h f k =
      record {
        is_class = deeper-class p hp l c e h k.is_class;
        whole = whole_deeper S p l c e ∙ k.whole;
        in_no_larger = larger;
      }
    where
      larger : (t : ℕ) → t < (deeper p c e).level → is_whole S p (suc l) (class_at p (deeper p c e).residue t) ≡ false
      larger zero u =
          ap (λ (x : ℕ). is_whole S p (suc l) (class x 0)) (rw (pow-zero p) (mod-one (c + p * e.residue)))
          ∙ whole_top S p (suc l)
          ∙ f
      larger (suc t) u =
          ap (λ (x : ℕ). is_whole S p (suc l) (class x (suc t))) (deeper-mod p hp c e.residue t h)
          ∙ whole_deeper S p l c (class_at p e.residue t)
          ∙ k.in_no_larger t (omega arith)

  top-holds : (S : ℕ → Bool) (l r : ℕ) → r < p ^ l → Holds p l (class 0 0 ∷ []) r
  top-holds S l r h =
      record { entry = class 0 0; listed = here refl; member = record { below = h; congruent = rw (pow-zero p) (mod-one r) } }

  deeper-holds : (l r : ℕ) (e : Class) → r < p ^ suc l → Member p l e (r / p) → Member p (suc l) (deeper p (r % p) e) r
  unfolding deeper
  deeper-holds l r e h m =
      let digits : r % p + p * (r / p) ≡ r = omega (arith, div-add-mod r p) in
      record { below = h; congruent = rw digits at (deeper-member p hp l (r % p) e (r / p) (mod-lt r hp) m) }

  deeper-injective : (c : ℕ) (d e : Class) → deeper p c d ≡ deeper p c e → d ≡ e
  unfolding deeper
  deeper-injective c d e q =
      class_equal
      (eq_of_mul-eq-mul_left p hp d.residue e.residue (add_left_cancel c (ap (λ (x : Class). x.residue) q)))
      (suc_inj (ap (λ (x : Class). x.level) q))

  -- the digit that an entry lies below
  below-digit : (S : ℕ → Bool) (l c : ℕ) (e : Class) → c < p → In e (below S p l c) → e.residue % p ≡ c
  unfolding deeper
  below-digit S l c e h u =
      let (d, v, q) = in_map (deeper p c) (tree (branch S p c) p l) e u in
      rw q (add-mul-mod_self_left c p d.residue ∙ mod-eq_of_lt h)

  pub entries : (S : ℕ → Bool) (l : ℕ) (e : Class) → In e (tree S p l) → Entry S p l e
  entries S zero e m = go (all_below S (p ^ 0)) refl
    where
      go : (b : Bool) → all_below S (p ^ 0) ≡ b → Entry S p 0 e
      go true w = rw (in-single (rw (tree_whole S p 0 w) at m)) (top-entry S 0 w)
      go false w = absurd (in-nil (rw (tree_none S p w) at m))
  entries S (suc l) e m = go (λ c. entries (branch S p c) l) (all_below S (p ^ suc l)) refl
    where
      go : ((c : ℕ) (d : Class) → In d (tree (branch S p c) p l) → Entry (branch S p c) p l d)
          → (b : Bool) → all_below S (p ^ suc l) ≡ b → Entry S p (suc l) e
      go ih true w = rw (in-single (rw (tree_whole S p (suc l) w) at m)) (top-entry S (suc l) w)
      go ih false w =
          let (c, h, u) = in_concat (below S p l) p e (rw (tree_split S p l w) at m) in
          let (d, v, q) = in_map (deeper p c) (tree (branch S p c) p l) e u in
          rw q (deeper-entry S l c d h w (ih c d v))

  -- every residue of S is a member of an entry
  tree-complete : (S : ℕ → Bool) (l r : ℕ) → r < p ^ l → S r ≡ true → Holds p l (tree S p l) r
  tree-complete S zero r h s = go (all_below S (p ^ 0)) refl
    where
      only : r ≡ 0
      only = omega (arith, rw (pow-zero p) at h)

      go : (b : Bool) → all_below S (p ^ 0) ≡ b → Holds p 0 (tree S p 0) r
      go true w = rw (tree_whole S p 0 w) (top-holds S 0 r h)
      go false w =
          absurd (contradiction (all_intro S (p ^ 0) (λ i l. let q : i ≡ r = omega (arith, only, rw (pow-zero p) at l) in rw q s)) w)
  tree-complete S (suc l) r h s =
      go (tree-complete (branch S p (r % p)) l (r / p) small (rw digits s)) (all_below S (p ^ suc l)) refl
    where
      digits : r % p + p * (r / p) ≡ r
      digits = omega (arith, div-add-mod r p)

      small : r / p < p ^ l
      small = (div-lt_iff_lt-mul hp).1 (rw (pow-suc p l) at h)

      go : Holds p l (tree (branch S p (r % p)) p l) (r / p) → (b : Bool) → all_below S (p ^ suc l) ≡ b
          → Holds p (suc l) (tree S p (suc l)) r
      go ih true w = rw (tree_whole S p (suc l) w) (top-holds S (suc l) r h)
      go ih false w =
          let c = r % p in
          rw (tree_split S p l w) (record {
            entry = deeper p c ih.entry;
            listed =
                concat_in (below S p l) p c (deeper p c ih.entry) (mod-lt r hp)
                (map_in (deeper p c) (tree (branch S p c) p l) ih.entry ih.listed);
            member = deeper-holds l r ih.entry h ih.member;
          })

  tree-no-repeat : (S : ℕ → Bool) (l : ℕ) → NoRepeat (tree S p l)
  tree-no-repeat S zero = go (all_below S (p ^ 0)) refl
    where
      go : (b : Bool) → all_below S (p ^ 0) ≡ b → NoRepeat (tree S p 0)
      go true w = rw (tree_whole S p 0 w) (in-nil, tt)
      go false w = rw (tree_none S p w) tt
  tree-no-repeat S (suc l) = go (λ c. tree-no-repeat (branch S p c) l) (all_below S (p ^ suc l)) refl
    where
      go : ((c : ℕ) → NoRepeat (tree (branch S p c) p l)) → (b : Bool) → all_below S (p ^ suc l) ≡ b → NoRepeat (tree S p (suc l))
      go ih true w = rw (tree_whole S p (suc l) w) (in-nil, tt)
      go ih false w =
          rw (tree_split S p l w) (no_repeat_concat (below S p l) p
          (λ c h. no_repeat_map (deeper p c) (deeper-injective c) (tree (branch S p c) p l) (ih c))
          (λ c d e hc hd u v. sym (below-digit S l c e hc u) ∙ below-digit S l d e hd v))

  -- so the tree's list is a rival
  pub tree-rival : (S : ℕ → Bool) (n : ℕ) → Rival S p n (tree S p n)
  tree-rival S n =
      record {
        classes = λ e m. (entries S n e m).is_class;
        every = tree-complete S n;
        no_other = λ e m r h. let k = entries S n e m in whole-elim S p n hp e k.is_class.level_fits k.whole r h;
      }

  pub tree-perm : 2 ≤ p → (S : ℕ → Bool) (n : ℕ) → Permutation (tree S p n) (shortest S p n)
  tree-perm two S n =
      rival-as-long-is-shortest S p n hp (tree S p n) (tree-rival S n) two
      (le_antisymm (rival-at-least-as-long S p n hp (tree S p n) (tree-rival S n))
      (pigeonhole (λ (e : Class). e) (tree S p n) (shortest S p n) (tree-no-repeat S n) (λ e m.
      (e, entry_listed S p n hp e (entries S n e m), refl))))
