-- Lists in which each entry comes before all later ones by a strict order R.
use mathlib.Core.Path.{◌≡◌, refl, sym, ap₂}
use mathlib.Core.Logic.{◌⊎◌, inl, inr}
use mathlib.Core.Bool.{Bool, true, false}
use mathlib.Core.List.{List, [], ◌∷◌, map}
use Prim.Native.Nat.{ℕ, zero, suc, ◌<◌}
use native.Mathlib.Omega.{arith}
use lib.ListN.{length, get_or}
use Rattle.theory.specs.Lists.{In, here, there, Permutation}
use Rattle.theory.specs.Range.{passing}
use Rattle.theory.proofs.Lists.Names.{in-cons, in-nil, perm-sym}
use Rattle.theory.proofs.Lists.Index.{in_at}
use Rattle.theory.proofs.Lists.Map.{in_map}
use Rattle.theory.proofs.Lists.Permutation.{perm_in}
use Rattle.theory.proofs.Range.{passing_on, passing_off, passing_sound}

abbrev pub Rising : {A : Type 0} → (A → A → Type 0) → List A → Type 0
Rising R [] = Unit {0}
Rising {A} R (x ∷ l) = ((y : A) → In y l → R x y) × Rising R l

module _ {A : Type 0} (R : A → A → Type 0) where
  -- images of the numbers of a range that pass a test, where a larger number's image comes later
  pub rising-map : (f : ℕ → A) → ((i j : ℕ) → i < j → R (f i) (f j)) → (g : ℕ → Bool) (k i : ℕ) → Rising R (map f (passing g k i))
  unfolding passing
  rising-map f h g zero i = tt
  rising-map f h g (suc k) i = go (rising-map f h g k (suc i)) (g i) refl
    where
      above : (y : A) → In y (map f (passing g k (suc i))) → R (f i) y
      above y u = let (j, v, e) = in_map f (passing g k (suc i)) y u in rw e (h i j (passing_sound g k (suc i) j v).low)

      go : Rising R (map f (passing g k (suc i))) → (b : Bool) → g i ≡ b → Rising R (map f (passing g (suc k) i))
      go ih true q = rw (passing_on g k i q) (above, ih)
      go ih false q = rw (passing_off g k i q) ih

  -- entries by their index
  pub rising-at : (l : List A) (d : A) → Rising R l → (i j : ℕ) → i < j → j < length l → R (get_or l i d) (get_or l j d)
  rising-at [] d r i j h k = absurd (omega arith)
  rising-at (x ∷ l) d r i zero h k = absurd (omega arith)
  rising-at (x ∷ l) d r zero (suc j) h k = r.0 (get_or l j d) (in_at l j d (omega arith))
  rising-at (x ∷ l) d r (suc i) (suc j) h k = rising-at l d r.1 i j (omega arith) (omega arith)

  module _ (strict : (x y : A) → R x y → R y x → ⊥) where
    differ : (x y z : A) → R x y → x ≡ z → y ≡ z → ⊥
    differ x y z h e f = let own : R z z = rw (e, f) at h in strict z z own own

    -- a rising list is determined by its entries
    pub rising-same : (l m : List A) → Rising R l → Rising R m → ((x : A) → In x l → In x m) → ((x : A) → In x m → In x l) → l ≡ m
    rising-same [] [] rl rm f g = refl
    rising-same [] (y ∷ m) rl rm f g = absurd (in-nil (g y (here refl)))
    rising-same (x ∷ l) [] rl rm f g = absurd (in-nil (f x (here refl)))
    rising-same (x ∷ l) (y ∷ m) rl rm f g =
        ap₂ (λ z zs. z ∷ zs) heads
        (rising-same l m rl.1 rm.1 (λ z u. tail z u (in-cons (f z (there u)))) (λ z u. tail' z u (in-cons (g z (there u)))))
      where
        pick : (x ≡ y) ⊎ In x m → (y ≡ x) ⊎ In y l → x ≡ y
        pick (inl e) w = e
        pick (inr u) (inl e) = sym e
        pick (inr u) (inr v) = absurd (strict x y (rl.0 y v) (rm.0 x u))

        heads : x ≡ y
        heads = pick (in-cons (f x (here refl))) (in-cons (g y (here refl)))

        tail : (z : A) → In z l → (z ≡ y) ⊎ In z m → In z m
        tail z u (inl q) = absurd (differ x z y (rl.0 z u) heads q)
        tail z u (inr w) = w

        tail' : (z : A) → In z m → (z ≡ x) ⊎ In z l → In z l
        tail' z u (inl q) = absurd (differ y z x (rm.0 z u) (sym heads) q)
        tail' z u (inr w) = w

    -- so a rising permutation is the list itself
    pub rising-perm : (l m : List A) → Rising R l → Rising R m → Permutation l m → l ≡ m
    rising-perm l m rl rm d = rising-same l m rl rm (λ x u. perm_in d u) (λ x u. perm_in (perm-sym d) u)
