-- Laws of `map`.
use mathlib.Core.Path.{◌≡◌, refl, ap, ap₂}
use mathlib.Core.Logic.{◌⊎◌, inl, inr}
use mathlib.Core.List.{List, [], ◌∷◌, ◌++◌, map}
use Prim.Native.Nat.{ℕ, zero, suc, ◌<◌}
use native.Mathlib.Omega.{arith}
use lib.ListN.{length, get_or}
use Rattle.theory.specs.Lists.{In, here, there}
use Rattle.theory.proofs.Lists.Names.{in-cons, in-nil}

-- an entry of the image has a source
pub in_map : {A B : Type 0} (f : A → B) (l : List A) (b : B) → In b (map f l) → (a : A) × In a l × (b ≡ f a)
in_map f [] b m = absurd (in-nil m)
in_map {A} f (x ∷ l) b m = go (in_map f l b) (in-cons m)
  where
    go : (In b (map f l) → (a : A) × In a l × (b ≡ f a)) → (b ≡ f x) ⊎ In b (map f l) → (a : A) × In a (x ∷ l) × (b ≡ f a)
    go ih (inl e) = (x, here refl, e)
    go ih (inr w) = let (a, u, e) = ih w in (a, there u, e)

-- the image of an entry is an entry of the image
pub map_in : {A B : Type 0} (f : A → B) (l : List A) (a : A) → In a l → In (f a) (map f l)
map_in f (x ∷ l) a (here e) = here (ap f e)
map_in f (x ∷ l) a (there m) = there (map_in f l a m)
map_in {A = A} {B = B} f [] a x' = elim x' [ ]

pub map-append : {A B : Type 0} (f : A → B) (l m : List A) → map f (l ++ m) ≡ map f l ++ map f m
map-append f [] m = refl
map-append f (x ∷ l) m = ap (λ xs. f x ∷ xs) (map-append f l m)

pub map-map : {A B C : Type 0} (g : B → C) (f : A → B) (l : List A) → map g (map f l) ≡ map (λ x. g (f x)) l
map-map g f [] = refl
map-map g f (x ∷ l) = ap (λ xs. g (f x) ∷ xs) (map-map g f l)

-- two functions that agree on the entries
pub map_same : {A B : Type 0} (f g : A → B) (l : List A) → ((x : A) → In x l → f x ≡ g x) → map f l ≡ map g l
map_same f g [] h = refl
map_same f g (x ∷ l) h = ap₂ (λ y ys. y ∷ ys) (h x (here refl)) (map_same f g l (λ y u. h y (there u)))

-- a function that keeps each entry
pub map_kept : {A : Type 0} (f : A → A) (l : List A) → ((x : A) → In x l → f x ≡ x) → map f l ≡ l
map_kept f [] h = refl
map_kept f (x ∷ l) h = ap₂ (λ y ys. y ∷ ys) (h x (here refl)) (map_kept f l (λ y u. h y (there u)))

-- an entry of the image
pub get_d_map : {A B : Type 0} (f : A → B) (l : List A) (k : ℕ) (a : A) (b : B) → k < length l → get_or (map f l) k b ≡ f (get_or l k a)
get_d_map f [] k a b h = absurd (omega arith)
get_d_map f (x ∷ l) zero a b h = refl
get_d_map f (x ∷ l) (suc k) a b h = get_d_map f l k a b (omega arith)
