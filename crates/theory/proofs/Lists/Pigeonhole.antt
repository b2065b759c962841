-- The pigeonhole principle: a list without repeats whose entries all come from another list is no longer than that list.
use mathlib.Core.Path.{◌≡◌, refl, sym, ◌∙◌}
use mathlib.Core.Logic.{◌⊎◌, inl, inr}
use mathlib.Core.List.{List, [], ◌∷◌, ◌++◌, map}
use Prim.Native.Nat.{◌≤◌}
use native.Mathlib.Omega.{arith}
use lib.ListN.{length, length-append, length-map}
use Rattle.theory.specs.Lists.{In, here, there, Permutation}
use Rattle.theory.proofs.Lists.Names.{in-cons, in-cast, same_head, swapped, perm-trans, perm-refl, perm-append-nil}
use Rattle.theory.proofs.Lists.Map.{map_in}
use Rattle.theory.proofs.Lists.NoRepeat.{NoRepeat}
use Rattle.theory.proofs.Lists.Permutation.{perm_length}

-- m without one occurrence of x
record Removed {A : Type 0} (x : A) (m : List A) : Type 0 where
  rest : List A
  perm : Permutation m (x ∷ rest)
  other : (y : A) → In y m → (y ≡ x) ⊎ In y rest

remove : {A : Type 0} {x : A} {m : List A} → In x m → Removed x m
remove {x} (here {x = a} {xs = l} e) =
    record { rest = l; perm = same_head (sym e) (perm-refl l); other = λ y w. go y (in-cons w) }
  where
    go : (y : _) → (y ≡ a) ⊎ In y l → (y ≡ x) ⊎ In y l
    go y (inl q) = inl (q ∙ sym e)
    go y (inr w) = inr w
remove {x} (there {x = a} {xs = l} w) = add (remove w)
  where
    add : Removed x l → Removed x (a ∷ l)
    add k =
        record {
          rest = a ∷ k.rest;
          perm = perm-trans (same_head refl k.perm) (swapped refl refl);
          other = λ y u. go y (in-cons u);
        }
      where
        up : (y : _) → (y ≡ x) ⊎ In y k.rest → (y ≡ x) ⊎ In y (a ∷ k.rest)
        up y (inl q) = inl q
        up y (inr u) = inr (there u)

        go : (y : _) → (y ≡ a) ⊎ In y l → (y ≡ x) ⊎ In y (a ∷ k.rest)
        go y (inl q) = inr (here q)
        go y (inr u) = up y (k.other y u)

-- where l has no repeats and its entries all stand in m, m is l and a rest
pub with_rest : {A : Type 0} (l m : List A) → NoRepeat l → ((x : A) → In x l → In x m) → (r : List A) × Permutation m (l ++ r)
with_rest [] m nr h = (m, perm-refl m)
with_rest {A} (x ∷ l) m nr h =
    let k = remove (h x (here refl)) in
    let (r, d) = with_rest l k.rest nr.1 (λ y u. other y u (k.other y (h y (there u)))) in
    (r, perm-trans k.perm (same_head refl d))
  where
    other : {ys : List A} (y : A) → In y l → (y ≡ x) ⊎ In y ys → In y ys
    other y u (inl q) = absurd (nr.0 (in-cast (sym q) u))
    other y u (inr w) = w

no_rest : {A : Type 0} {m : List A} (l r : List A) → Permutation m (l ++ r) → length r ≡ 0 → Permutation m l
no_rest l [] d q = perm-trans d (perm-append-nil l)
no_rest l (x ∷ r) d q = absurd (omega arith)

-- l has no repeats, and each of its entries is the image of an entry of s
module _ {A B : Type 0} (φ : B → A) (l : List A) (s : List B) (nr : NoRepeat l)
    (onto : (x : A) → In x l → (e : B) × In e s × (x ≡ φ e)) where
  in_image : (x : A) → In x l → In x (map φ s)
  in_image x u = let (e, w, q) = onto x u in in-cast q (map_in φ s e w)

  pub pigeonhole : length l ≤ length s
  pigeonhole =
      let (r, d) = with_rest l (map φ s) nr in_image in
      omega (arith, perm_length d, length-append l r, length-map s φ)

  pub pigeonhole-full : length l ≡ length s → Permutation (map φ s) l
  pigeonhole-full e =
      let (r, d) = with_rest l (map φ s) nr in_image in
      no_rest l r d (omega (arith, perm_length d, length-append l r, length-map s φ))

-- two lists without repeats that have the same entries
pub perm_of_entries : {A : Type 0} (l m : List A) → NoRepeat l → NoRepeat m → ((x : A) → In x l → In x m) → ((x : A) → In x m → In x l)
    → Permutation m l
perm_of_entries l m nl nm f g =
    let (r, d) = with_rest l m nl f in
    let (s, e) = with_rest m l nm g in
    no_rest l r d (omega (arith, perm_length d, perm_length e, length-append l r, length-append m s))
