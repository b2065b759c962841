-- Permutations, the library's `List-as-Permᴰ`: what they keep.
use mathlib.Core.Path.{◌≡◌, refl, sym, ap, ◌∙◌}
use mathlib.Core.List.{List, ◌∷◌}
use Prim.Native.Nat.{suc}
use lib.ListN.{length}
use Rattle.theory.specs.Lists.{In, here, there, Permutation}
use Rattle.theory.proofs.Lists.Names.{in-cast, same-nil, same_head, swapped, perm-trans, perm-sym}
use Rattle.theory.proofs.Lists.NoRepeat.{NoRepeat}

pub perm_length : {A : Type 0} {l m : List A} → Permutation l m → length l ≡ length m
perm_length same-nil = refl
perm_length (same_head e d) = ap suc (perm_length d)
perm_length (swapped e f) = refl
perm_length (perm-trans d e) = perm_length d ∙ perm_length e

in_head : {A : Type 0} {x a b : A} {l m : List A} → a ≡ b → (In x l → In x m) → In x (a ∷ l) → In x (b ∷ m)
in_head e f (here q) = here (q ∙ e)
in_head e f (there w) = there (f w)

in_swapped : {A : Type 0} {x a b a' b' : A} {l : List A} → a ≡ b' → b ≡ a' → In x (a ∷ b ∷ l) → In x (a' ∷ b' ∷ l)
in_swapped e f (here q) = there (here (q ∙ e))
in_swapped e f (there (here q)) = here (q ∙ f)
in_swapped e f (there (there w)) = there (there w)

pub perm_in : {A : Type 0} {x : A} {l m : List A} → Permutation l m → In x l → In x m
perm_in same-nil u = u
perm_in (same_head e d) u = in_head e (perm_in d) u
perm_in (swapped e f) u = in_swapped e f u
perm_in (perm-trans d e) u = perm_in e (perm_in d u)

no_repeat_swapped : {A : Type 0} {a b a' b' : A} {l : List A} → a ≡ b' → b ≡ a' → NoRepeat (a ∷ b ∷ l) → NoRepeat (a' ∷ b' ∷ l)
no_repeat_swapped {a} {b} {a'} {b'} {l} e f nr = ((λ u. first u), ((λ u. nr.0 (there (in-cast e u))), nr.1.1))
  where
    first : In a' (b' ∷ l) → ⊥
    first (here q) = nr.0 (here (e ∙ sym q ∙ sym f))
    first (there w) = nr.1.0 (in-cast f w)

pub perm_no_repeat : {A : Type 0} {l m : List A} → Permutation l m → NoRepeat l → NoRepeat m
perm_no_repeat same-nil nr = tt
perm_no_repeat (same_head e d) nr = ((λ u. nr.0 (in-cast e (perm_in (perm-sym d) u))), perm_no_repeat d nr.1)
perm_no_repeat (swapped e f) nr = no_repeat_swapped e f nr
perm_no_repeat (perm-trans d e) nr = perm_no_repeat e (perm_no_repeat d nr)
