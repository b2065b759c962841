-- Lists in which no entry is repeated.
use mathlib.Core.Path.{◌≡◌, refl, sym, ap, ◌∙◌}
use mathlib.Core.Logic.{◌⊎◌, inl, inr}
use mathlib.Core.List.{List, [], ◌∷◌, ◌++◌, map}
use Rattle.theory.specs.Lists.{In, here, there}
use Rattle.theory.proofs.Lists.Names.{in-append, in-cast}
use Rattle.theory.proofs.Lists.Map.{in_map, map_in}

abbrev pub NoRepeat : {A : Type 0} → List A → Type 0
NoRepeat [] = Unit {0}
NoRepeat (x ∷ l) = (In x l → ⊥) × NoRepeat l

-- the images under a function that tells the entries apart
pub no_repeat_map_on : {A B : Type 0} (f : A → B) (l : List A) → ((x y : A) → In x l → In y l → f x ≡ f y → x ≡ y) → NoRepeat l
    → NoRepeat (map f l)
no_repeat_map_on f [] inj nr = tt
no_repeat_map_on f (x ∷ l) inj nr = (
  (λ m. let (a, u, e) = in_map f l (f x) m in nr.0 (in-cast (inj x a (here refl) (there u) e) u)),
  no_repeat_map_on f l (λ y z u v. inj y z (there u) (there v)) nr.1,
)

pub no_repeat_map : {A B : Type 0} (f : A → B) → ((x y : A) → f x ≡ f y → x ≡ y) → (l : List A) → NoRepeat l → NoRepeat (map f l)
no_repeat_map f inj l nr = no_repeat_map_on f l (λ x y u v. inj x y) nr

pub no_repeat_append : {A : Type 0} (l m : List A) → NoRepeat l → NoRepeat m → ((x : A) → In x l → In x m → ⊥) → NoRepeat (l ++ m)
no_repeat_append [] m nl nm apart = nm
no_repeat_append {A} (x ∷ l) m nl nm apart =
    ((λ u. go (in-append l u)), no_repeat_append l m nl.1 nm (λ y u v. apart y (there u) v))
  where
    go : In x l ⊎ In x m → ⊥
    go (inl u) = nl.0 u
    go (inr u) = apart x (here refl) u

-- where the images are not repeated, f tells the entries apart
pub injective_on : {A B : Type 0} (f : A → B) (l : List A) → NoRepeat (map f l) → (x y : A) → In x l → In y l → f x ≡ f y → x ≡ y
injective_on f (a ∷ l) nr x y (here q) (here r) e = q ∙ sym r
injective_on f (a ∷ l) nr x y (here q) (there w) e = absurd (nr.0 (in-cast (ap f (sym q) ∙ e) (map_in f l y w)))
injective_on f (a ∷ l) nr x y (there u) (here r) e = absurd (nr.0 (in-cast (ap f (sym r) ∙ sym e) (map_in f l x u)))
injective_on f (a ∷ l) nr x y (there u) (there w) e = injective_on f l nr.1 x y u w e
injective_on {A = A} {B = B} f [] nr x y x6 _ e = elim x6 [ ]

-- where the images are not repeated, neither are the entries
pub no_repeat_unmap : {A B : Type 0} (f : A → B) (l : List A) → NoRepeat (map f l) → NoRepeat l
no_repeat_unmap f [] nr = tt
no_repeat_unmap f (x ∷ l) nr = ((λ u. nr.0 (map_in f l x u)), no_repeat_unmap f l nr.1)
