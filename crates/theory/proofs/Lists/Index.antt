-- Entries by their index.
use mathlib.Core.Path.{◌≡◌, refl, sym, ap}
use mathlib.Core.Logic.{◌⊎◌, inl, inr}
use mathlib.Core.List.{List, [], ◌∷◌}
use Prim.Native.Nat.{ℕ, zero, suc, ◌<◌}
use native.Mathlib.Omega.{arith}
use lib.ListN.{length, get_or, take}
use Rattle.theory.specs.Lists.{In, here, there}
use Rattle.theory.proofs.Lists.Names.{in-cast, in-cons, in-nil}
use Rattle.theory.proofs.Lists.NoRepeat.{NoRepeat}

pub in_at : {A : Type 0} (l : List A) (i : ℕ) (d : A) → i < length l → In (get_or l i d) l
in_at [] i d h = absurd (omega arith)
in_at (x ∷ l) zero d h = here refl
in_at (x ∷ l) (suc i) d h = there (in_at l i d (omega arith))

pub in_take : {A : Type 0} (l : List A) (i : ℕ) (x : A) → In x (take i l) → In x l
in_take l zero x u = absurd (in-nil u)
in_take [] (suc i) x u = absurd (in-nil u)
in_take (y ∷ l) (suc i) x u = go (in_take l i x) (in-cons u)
  where
    go : (In x (take i l) → In x l) → (x ≡ y) ⊎ In x (take i l) → In x (y ∷ l)
    go ih (inl e) = here e
    go ih (inr v) = there (ih v)

pub index_of : {A : Type 0} (l : List A) (d x : A) → In x l → (i : ℕ) × (i < length l) × (x ≡ get_or l i d)
index_of (y ∷ l) d x (here e) = (0, omega arith, e)
index_of (y ∷ l) d x (there u) = let (i, h, e) = index_of l d x u in (suc i, omega arith, e)
index_of {A = A} [] d x x3 = elim x3 [ ]

-- where no entry is repeated, equal entries stand at one index
pub same_index : {A : Type 0} (l : List A) (d : A) → NoRepeat l → (i j : ℕ) → i < length l → j < length l → get_or l i d ≡ get_or l j d → i ≡ j
same_index [] d nr i j hi hj e = absurd (omega arith)
same_index (x ∷ l) d nr zero zero hi hj e = refl
same_index (x ∷ l) d nr zero (suc j) hi hj e = absurd (nr.0 (in-cast e (in_at l j d (omega arith))))
same_index (x ∷ l) d nr (suc i) zero hi hj e = absurd (nr.0 (in-cast (sym e) (in_at l i d (omega arith))))
same_index (x ∷ l) d nr (suc i) (suc j) hi hj e = ap suc (same_index l d nr.1 i j (omega arith) (omega arith) e)

-- and where entries at two indices differ, none is repeated
pub no_repeat_at : {A : Type 0} (l : List A) (d : A) → ((i j : ℕ) → i < j → j < length l → get_or l i d ≡ get_or l j d → ⊥) → NoRepeat l
no_repeat_at [] d h = tt
no_repeat_at (x ∷ l) d h = (
  (λ u. let (j, k, e) = index_of l d x u in h 0 (suc j) (omega arith) (omega arith) e),
  no_repeat_at l d (λ i j u v. h (suc i) (suc j) (omega arith) (omega arith)),
)
