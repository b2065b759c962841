-- Two rising lists read side by side: those entries of the first that pass one test and those of the second that pass another make up a
-- third rising list, and each step of the reading finds its next entry.
use mathlib.Core.Path.{◌≡◌, refl, sym, ap, ◌∙◌, subst}
use mathlib.Core.Logic.{◌⊎◌, inl, inr}
use mathlib.Core.Bool.{Bool, true, false}
use mathlib.Core.List.{List, [], ◌∷◌}
use Prim.Native.Nat.{ℕ, zero, suc, ◌+◌, ◌≤◌, ◌<◌}
use native.Mathlib.Decide.{dec_lt}
use native.Mathlib.Nat.{lt_of_not-le, eq-or-lt_of_le}
use native.Mathlib.Omega.{arith}
use lib.ListN.{length, get_or, drop, drop_of_length-le}
use Rattle.theory.specs.Lists.{In, here, there}
use Rattle.theory.proofs.Tests.{contradiction}
use Rattle.theory.proofs.Lists.Names.{in-cons, in-nil}
use Rattle.theory.proofs.Lists.Fill.{drop_next}
use Rattle.theory.proofs.Lists.Rising.{Rising}

-- an entry from an index on
module _ {E : Type 0} where
  -- the entry at the index, or a later one
  from-index : (l : List E) (i : ℕ) (d x : E) → i < length l → In x (drop i l) → (x ≡ get_or l i d) ⊎ In x (drop (i + 1) l)
  from-index l i d x h u = in-cons (subst (In x) (drop_next l i d h) u)

  at-index : (l : List E) (i : ℕ) (d : E) → i < length l → In (get_or l i d) (drop i l)
  at-index l i d h = rw (drop_next l i d h) (here refl)

  after-index : (l : List E) (i : ℕ) (d x : E) → i < length l → In x (drop (i + 1) l) → In x (drop i l)
  after-index l i d x h u = rw (drop_next l i d h) (there u)

  none_from : (l : List E) (i : ℕ) (x : E) → length l ≤ i → In x (drop i l) → ⊥
  none_from l i x h u = in-nil (subst (In x) (drop_of_length-le l h) u)

  pub in-drop : (l : List E) (i : ℕ) (x : E) → In x (drop i l) → In x l
  in-drop l zero x u = u
  in-drop [] (suc i) x u = absurd (in-nil u)
  in-drop (y ∷ l) (suc i) x u = there (in-drop l i x u)

  rising-drop : (R : E → E → Type 0) (l : List E) (i : ℕ) → Rising R l → Rising R (drop i l)
  rising-drop R l zero r = r
  rising-drop R [] (suc i) r = tt
  rising-drop R (y ∷ l) (suc i) r = rising-drop R l i r.1

  -- later entries come after the one at the index
  later : (R : E → E → Type 0) (l : List E) (i : ℕ) (d x : E) → Rising R l → i < length l → In x (drop (i + 1) l) → R (get_or l i d) x
  later R l i d x r h u = let s : Rising R (get_or l i d ∷ drop (i + 1) l) = rw (drop_next l i d h) at (rising-drop R l i r) in s.0 x u

  -- an entry of A from i on that passes f, or one of B from j on that passes g
  abbrev pub Rest : List E → List E → (E → Bool) → (E → Bool) → ℕ → ℕ → E → Type 0
  Rest A B f g i j x = (In x (drop i A) × (f x ≡ true)) ⊎ (In x (drop j B) × (g x ≡ true))

  -- read up to i and j, with k entries of C found: those left of C are those still to come
  pub record Reached (A B C : List E) (f g : E → Bool) (i j k : ℕ) : Type 0 where
    pub within : k ≤ length C
    pub left : (x : E) → In x (drop k C) → Rest A B f g i j x
    pub coming : (x : E) → Rest A B f g i j x → In x (drop k C)

  pub reached-start : (A B C : List E) (f g : E → Bool) → ((x : E) → In x C → Rest A B f g 0 0 x) → ((x : E) → Rest A B f g 0 0 x → In x C)
      → Reached A B C f g 0 0 0
  reached-start A B C f g l c = record { within = omega arith; left = l; coming = c }

  -- where both are read to the end, all is found
  pub reached-end : {A B C : List E} {f g : E → Bool} {i j k : ℕ} (d : E) → Reached A B C f g i j k → length A ≤ i → length B ≤ j
      → k ≡ length C
  reached-end {A} {B} {C} {f} {g} {i} {j} {k} d R a b = go (eq-or-lt_of_le R.within)
    where
      none : Rest A B f g i j (get_or C k d) → ⊥
      none (inl (u, e)) = none_from A i (get_or C k d) a u
      none (inr (u, e)) = none_from B j (get_or C k d) b u

      go : (k ≡ length C) ⊎ (k < length C) → k ≡ length C
      go (inl e) = e
      go (inr h) = absurd (none (R.left (get_or C k d) (at-index C k d h)))

  -- the same with the lists in the other order
  pub reached-turned : {A B C : List E} {f g : E → Bool} {i j k : ℕ} → Reached A B C f g i j k → Reached B A C g f j i k
  reached-turned {A} {B} {C} {f} {g} {i} {j} R =
      record { within = R.within; left = λ x u. forth x (R.left x u); coming = λ x w. R.coming x (back x w) }
    where
      forth : (x : E) → Rest A B f g i j x → Rest B A g f j i x
      forth x (inl w) = inr w
      forth x (inr w) = inl w

      back : (x : E) → Rest B A g f j i x → Rest A B f g i j x
      back x (inl w) = inr w
      back x (inr w) = inl w

  -- A step: the entry of A at i is read
  module _ (R : E → E → Type 0) (strict : (x y : E) → R x y → R y x → ⊥) (trans : (x y z : E) → R x y → R y z → R x z)
      {A B C : List E} {f g : E → Bool} (rises-A : Rising R A) (rises-B : Rising R B) (rises-C : Rising R C)
      (apart : (x : E) → In x A → f x ≡ true → In x B → g x ≡ true → ⊥)
      {i j k : ℕ} (d : E) (reached : Reached A B C f g i j k) (h : i < length A) where
    abbrev a : E
    a = get_or A i d

    own : In a A
    own = in-drop A i a (at-index A i d h)

    -- it is not kept
    pub step_left : f a ≡ false → Reached A B C f g (i + 1) j k
    step_left e =
        record { within = reached.within; left = λ x u. keep x (reached.left x u); coming = λ x w. reached.coming x (before x w) }
      where
        keep : (x : E) → Rest A B f g i j x → Rest A B f g (i + 1) j x
        keep x (inl (u, t)) = go (from-index A i d x h u)
          where
            go : (x ≡ a) ⊎ In x (drop (i + 1) A) → Rest A B f g (i + 1) j x
            go (inl q) = absurd (contradiction t (ap f q ∙ e))
            go (inr v) = inl (v, t)
        keep x (inr w) = inr w

        before : (x : E) → Rest A B f g (i + 1) j x → Rest A B f g i j x
        before x (inl (u, t)) = inl (after-index A i d x h u, t)
        before x (inr w) = inr w

    -- it is kept, and the entry of B at j does not come before it: it is the next of C
    module _ (t : f a ≡ true) (order : j < length B → R (get_or B j d) a → ⊥) where
      first : (x : E) → Rest A B f g i j x → R x a → ⊥
      first x (inl (u, s)) r = go (from-index A i d x h u)
        where
          go : (x ≡ a) ⊎ In x (drop (i + 1) A) → ⊥
          go (inl q) = let own : R a a = rw q at r in strict a a own own
          go (inr v) = strict x a r (later R A i d x rises-A h v)
      first x (inr (u, s)) r = at (dec_lt j (length B))
        where
          go : j < length B → (x ≡ get_or B j d) ⊎ In x (drop (j + 1) B) → ⊥
          go l (inl q) = order l (rw q at r)
          go l (inr v) = order l (trans (get_or B j d) x a (later R B j d x rises-B l v) r)

          at : Dec (j < length B) → ⊥
          at (yes l) = go l (from-index B j d x l u)
          at (no l) = none_from B j x (omega arith) u

      listed : In a (drop k C)
      listed = reached.coming a (inl (at-index A i d h, t))

      room : k < length C
      room = go (dec_lt k (length C))
        where
          go : Dec (k < length C) → k < length C
          go (yes l) = l
          go (no l) = absurd (none_from C k a (omega arith) listed)

      next : get_or C k d ≡ a
      next = go (from-index C k d a room listed)
        where
          go : (a ≡ get_or C k d) ⊎ In a (drop (k + 1) C) → get_or C k d ≡ a
          go (inl q) = sym q
          go (inr v) = absurd (first (get_or C k d) (reached.left (get_or C k d) (at-index C k d room)) (later R C k d a rises-C room v))

      pub step_kept : (k < length C) × (get_or C k d ≡ a) × Reached A B C f g (i + 1) j (k + 1)
      step_kept = (room, next, record { within = omega (arith, room); left = left; coming = coming })
        where
          left : (x : E) → In x (drop (k + 1) C) → Rest A B f g (i + 1) j x
          left x u = pick (reached.left x (after-index C k d x room u))
            where
              after : R a x
              after = rw next at (later R C k d x rises-C room u)

              go : f x ≡ true → (x ≡ a) ⊎ In x (drop (i + 1) A) → Rest A B f g (i + 1) j x
              go s (inl q) = let own : R a a = rw q at after in absurd (strict a a own own)
              go s (inr v) = inl (v, s)

              pick : Rest A B f g i j x → Rest A B f g (i + 1) j x
              pick (inl (v, s)) = go s (from-index A i d x h v)
              pick (inr w) = inr w

          coming : (x : E) → Rest A B f g (i + 1) j x → In x (drop (k + 1) C)
          coming x w = go (from-index C k d x room (reached.coming x (before w)))
            where
              before : Rest A B f g (i + 1) j x → Rest A B f g i j x
              before (inl (u, s)) = inl (after-index A i d x h u, s)
              before (inr v) = inr v

              other : x ≡ a → Rest A B f g (i + 1) j x → ⊥
              other q (inl (u, s)) = let r : R a a = rw q at (later R A i d x rises-A h u) in strict a a r r
              other q (inr (u, s)) = apart a own t (rw q at (in-drop B j x u)) (rw q at s)

              go : (x ≡ get_or C k d) ⊎ In x (drop (k + 1) C) → In x (drop (k + 1) C)
              go (inl q) = absurd (other (q ∙ next) w)
              go (inr v) = v
