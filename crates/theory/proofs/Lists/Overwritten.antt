-- Lists that are overwritten in place, one entry a step: what such a loop keeps true, upwards or downwards.
use mathlib.Core.Path.{◌≡◌, refl, sym, ap, ap₂, ◌∙◌}
use mathlib.Core.List.{List, [], ◌∷◌, ◌++◌, map, append-nil}
use Prim.Native.Nat.{ℕ, suc, zero, ◌+◌, ◌-◌, ◌≤◌, ◌<◌}
use native.Mathlib.Nat.{suc-add, zero-add}
use native.Mathlib.Numerals.{sub-one}
use native.Mathlib.Omega.{arith}
use lib.ListN
use lib.ListN.{length, get_or, take, drop, set, length-set, length-map}
use lib.Seq.{ext_get_or, drop-length}
use Rattle.theory.specs.inner.Overwritten.{Overwritten}
use Rattle.theory.proofs.Lists.Fill.{stored}
use Rattle.theory.proofs.Lists.Map.{map_kept, get_d_map}

pub written_none : (F : ℕ → ℕ) (n : ℕ) (l : List ℕ) → Overwritten F n n l l
written_none F n l = record { long = refl; inside = λ k a b. absurd (omega arith); below = λ k h. refl; above = λ k h. refl }

-- in two steps
pub written_twice : {F : ℕ → ℕ} {lo mid hi : ℕ} {l₀ l₁ l₂ : List ℕ} → Overwritten F lo mid l₀ l₁ → mid ≤ hi → Overwritten F lo hi l₁ l₂
    → Overwritten F lo hi l₀ l₂
written_twice a h b =
    record {
      long = b.long ∙ a.long;
      inside = b.inside;
      below = λ k u. b.below k u ∙ a.below k u;
      above = λ k u. b.above k u ∙ a.above k (omega arith);
    }

-- and again
pub written_again : {F : ℕ → ℕ} {lo hi : ℕ} {l₀ l : List ℕ} → Overwritten F lo hi l₀ l → Overwritten F lo hi l l
written_again w = record { long = refl; inside = w.inside; below = λ k u. refl; above = λ k u. refl }

-- by the same numbers otherwise written
pub written_same : {F G : ℕ → ℕ} {lo hi : ℕ} {l₀ l : List ℕ} → ((k : ℕ) → lo ≤ k → k < hi → F k ≡ G k) → Overwritten F lo hi l₀ l
    → Overwritten G lo hi l₀ l
written_same e w =
    record { long = w.long; inside = λ k a b. w.inside k a b ∙ e k a b; below = w.below; above = w.above }

module _ {F : ℕ → ℕ} {lo hi : ℕ} {l₀ l : List ℕ} (w : Overwritten F lo hi l₀ l) (j v : ℕ) (h : j < length l₀) (e : v ≡ F j) where
  -- a step upwards
  pub written-up : lo ≤ j → hi ≡ j → Overwritten F lo (j + 1) l₀ (set l j v)
  written-up low at =
      let n : j < length l = omega (arith, w.long) in
      record {
        long = length-set l j v ∙ w.long;
        inside = λ k a b. stored l j k v 0 (F k) n (λ q. rw q e) (λ q. w.inside k a (omega arith));
        below = λ k b. stored l j k v 0 (get_or l₀ k 0) n (λ q. absurd (omega arith)) (λ q. w.below k b);
        above = λ k b. stored l j k v 0 (get_or l₀ k 0) n (λ q. absurd (omega arith)) (λ q. w.above k (omega arith));
      }

  -- and downwards
  pub written-down : lo ≡ j + 1 → j < hi → Overwritten F j hi l₀ (set l j v)
  written-down at low =
      let n : j < length l = omega (arith, w.long) in
      record {
        long = length-set l j v ∙ w.long;
        inside = λ k a b. stored l j k v 0 (F k) n (λ q. rw q e) (λ q. w.inside k (omega arith) b);
        below = λ k b. stored l j k v 0 (get_or l₀ k 0) n (λ q. absurd (omega arith)) (λ q. w.below k (omega arith));
        above = λ k b. stored l j k v 0 (get_or l₀ k 0) n (λ q. absurd (omega arith)) (λ q. w.above k b);
      }

written_tail : {F : ℕ → ℕ} {lo hi a z : ℕ} {l₀ l : List ℕ} → Overwritten F lo hi (a ∷ l₀) (z ∷ l)
    → Overwritten (λ k. F (suc k)) (lo - 1) (hi - 1) l₀ l
written_tail w =
    record {
      long = omega (arith, w.long);
      inside = λ k a b. w.inside (suc k) (omega arith) (omega arith);
      below = λ k b. w.below (suc k) (omega arith);
      above = λ k b. w.above (suc k) (omega arith);
    }

-- where F's numbers are those of ys, ys stands in front of what is left of l₀
written_list : (F : ℕ → ℕ) (hi : ℕ) (ys l₀ l : List ℕ) → Overwritten F 0 hi l₀ l → hi ≡ length ys → hi ≤ length l₀
    → ((k : ℕ) → k < hi → F k ≡ get_or ys k 0) → l ≡ ys ++ drop (length ys) l₀
written_list F hi [] l₀ l w n h e = ext_get_or 0 l l₀ w.long (λ i u. w.above i (omega arith))
written_list F hi (y ∷ ys) [] l w n h e = absurd (omega arith)
written_list F hi (y ∷ ys) (a ∷ l₀) [] w n h e = absurd (omega (arith, w.long))
written_list F hi (y ∷ ys) (a ∷ l₀) (z ∷ l) w n h e =
    ap₂ (λ b l'. b ∷ l') (w.inside 0 (omega arith) (omega arith) ∙ e 0 (omega arith))
    (written_list (λ k. F (suc k)) (hi - 1) ys l₀ l (written_tail w) (omega arith) (omega arith) (λ k u. e (suc k) (omega arith)))

-- or between
pub written_part : (F : ℕ → ℕ) (lo hi : ℕ) (ys l₀ l : List ℕ) → Overwritten F lo hi l₀ l → hi ≡ lo + length ys → hi ≤ length l₀
    → ((k : ℕ) → lo + k < hi → F (lo + k) ≡ get_or ys k 0) → l ≡ take lo l₀ ++ ys ++ drop (length ys) (drop lo l₀)
written_part F zero hi ys l₀ l w n h e =
    written_list F hi ys l₀ l w (omega arith) h (λ k u. rw (zero-add k) at (e k (omega arith)))
written_part F (suc lo) hi ys [] l w n h e = absurd (omega arith)
written_part F (suc lo) hi ys (a ∷ l₀) [] w n h e = absurd (omega (arith, w.long))
written_part F (suc lo) hi ys (a ∷ l₀) (z ∷ l) w n h e =
    ap₂ (λ b l'. b ∷ l') (w.below 0 (omega arith))
    (written_part (λ k. F (suc k)) lo (hi - 1) ys l₀ l (rw (sub-one (suc lo)) at (written_tail w)) (omega arith) (omega arith) (λ k u.
    rw (suc-add lo k) at (e k (omega arith))))

-- g of f of each entry of xs stands in front of what is left of l₀
pub written_map : {B : Type 0} (g : B → ℕ) (f : ℕ → B) (xs l₀ l : List ℕ) → length xs ≤ length l₀
    → Overwritten (λ k. g (f (get_or xs k 0))) 0 (length xs) l₀ l → l ≡ map g (map f xs) ++ drop (length xs) l₀
written_map g f xs l₀ l h w =
    let n : length (map g (map f xs)) ≡ length xs = length-map (map f xs) g ∙ length-map xs f in
    rw n at (written_list _ (length xs) (map g (map f xs)) l₀ l w (sym n) h (λ k u.
    ap g (sym (ListN.get_or-map f xs k 0)) ∙ sym (get_d_map g (map f xs) k (f 0) 0 (omega (arith, length-map xs f)))))

-- f of each entry stands in its place
pub written_all : (f : ℕ → ℕ) (l₀ l : List ℕ) → Overwritten (λ k. f (get_or l₀ k 0)) 0 (length l₀) l₀ l → l ≡ map f l₀
written_all f l₀ l w =
    written_map f (λ (x : ℕ). x) l₀ l₀ l (omega arith) w
    ∙ rw (map_kept (λ (x : ℕ). x) l₀ (λ x u. refl), drop-length l₀) (append-nil (map f l₀))
