-- Lists that are filled from the front, one entry a step: what a loop that writes f of each entry of xs keeps true.
use mathlib.Core.Path.{◌≡◌, refl, sym, ap, ap₂, ◌∙◌}
use mathlib.Core.List.{List, [], ◌∷◌, ◌++◌, map}
use Prim.Native.Nat.{ℕ, zero, suc, ◌+◌, ◌≤◌, ◌<◌}
use native.Mathlib.Numerals.{add-one}
use native.Mathlib.Omega.{arith}
use lib.ListN.{length, get_or, take, drop, set, replicate, length-append, length-map, length-drop}
use lib.Seq.{get_or_at, get_or-set_other, get_or-set_same, take-suc, take-suc-set, drop-cons, set_at, append_snoc, length-take-le, take_at}
use native.Mathlib.Decide.{ℕ_discrete}
use Rattle.theory.proofs.Lists.Map.{map-append}

-- one entry more
pub take_next : {A : Type 0} (l : List A) (i : ℕ) (d : A) → i < length l → take (i + 1) l ≡ take i l ++ (get_or l i d ∷ [])
take_next l i d h = ap (λ (k : ℕ). take k l) (add-one i) ∙ take-suc l i d h

pub take_set_next : {A : Type 0} (l : List A) (i : ℕ) (v : A) → i < length l → take (i + 1) (set l i v) ≡ take i l ++ (v ∷ [])
take_set_next l i v h = ap (λ (k : ℕ). take k (set l i v)) (add-one i) ∙ take-suc-set l i v h

pub drop_next : {A : Type 0} (l : List A) (i : ℕ) (d : A) → i < length l → drop i l ≡ get_or l i d ∷ drop (i + 1) l
drop_next l i d h = drop-cons l i d h ∙ ap (λ (k : ℕ). get_or l i d ∷ drop k l) (sym (add-one i))

-- the first n entries of l, lent and come back as e
pub part_back : {A : Type 0} (n : ℕ) (l e : List A) → n ≤ length l → length e ≡ length (take n l) → take n (e ++ drop n l) ≡ e
part_back n l e h k = take_at e (drop n l) n (k ∙ length-take-le n l h)

module _ {A B : Type 0} (f : A → B) (xs : List A) (i : ℕ) (d : A) (hx : i < length xs) where
  pub map-take-next : map f (take (i + 1) xs) ≡ map f (take i xs) ++ (f (get_or xs i d) ∷ [])
  map-take-next = ap (map f) (take_next xs i d hx) ∙ map-append f (take i xs) (get_or xs i d ∷ [])

  -- the first i entries are f of xs, and the next is written
  pub filled_next : (l : List B) (v : B) → i < length l → v ≡ f (get_or xs i d) → take i l ≡ map f (take i xs)
      → take (i + 1) (set l i v) ≡ map f (take (i + 1) xs)
  filled_next l v hl e h = take_set_next l i v hl ∙ ap₂ (λ ys y. ys ++ (y ∷ [])) h e ∙ sym map-take-next

  abbrev front : List B
  front = map f (take i xs)

  front_length : length front ≡ i
  front_length = length-map (take i xs) f ∙ length-take-le i xs (omega arith)

  -- the same of a list that keeps the rest of l₀
  pub written_next : (l₀ : List B) (b v : B) → i < length l₀ → v ≡ f (get_or xs i d)
      → set (map f (take i xs) ++ drop i l₀) i v ≡ map f (take (i + 1) xs) ++ drop (i + 1) l₀
  written_next l₀ b v hl e =
      ap (λ ys. set (front ++ ys) i v) (drop_next l₀ i b hl)
      ∙ set_at front (get_or l₀ i b) (drop (i + 1) l₀) v i front_length
      ∙ ap (λ y. front ++ y ∷ drop (i + 1) l₀) e
      ∙ sym (append_snoc front (f (get_or xs i d)) (drop (i + 1) l₀))
      ∙ ap (λ ys. ys ++ drop (i + 1) l₀) (sym map-take-next)

  -- whose entry at i is still that of l₀
  pub written_entry : (l₀ : List B) (b : B) → i < length l₀ → get_or (map f (take i xs) ++ drop i l₀) i b ≡ get_or l₀ i b
  written_entry l₀ b hl =
      ap (λ ys. get_or (front ++ ys) i b) (drop_next l₀ i b hl) ∙ get_or_at front (get_or l₀ i b) (drop (i + 1) l₀) b i front_length

-- such a list is as long as l₀
pub written_length : {A B : Type 0} (f : A → B) (xs : List A) (l₀ : List B) (i : ℕ) → i ≤ length xs → i ≤ length l₀
    → length (map f (take i xs) ++ drop i l₀) ≡ length l₀
written_length f xs l₀ i hx hl =
    length-append (map f (take i xs)) (drop i l₀)
    ∙ rw (length-map (take i xs) f, length-take-le i xs hx, length-drop i l₀) (omega arith)

-- the same of entries that are copied
module _ {A : Type 0} (xs l₀ : List A) (i : ℕ) where
  pub copied_next : (d : A) → i < length xs → i < length l₀
      → set (take i xs ++ drop i l₀) i (get_or xs i d) ≡ take (i + 1) xs ++ drop (i + 1) l₀
  copied_next d hx hl =
      let v = get_or xs i d in
      ap (λ ys. set (take i xs ++ ys) i v) (drop_next l₀ i d hl)
      ∙ set_at (take i xs) (get_or l₀ i d) (drop (i + 1) l₀) v i (length-take-le i xs (omega arith))
      ∙ sym (append_snoc (take i xs) v (drop (i + 1) l₀))
      ∙ ap (λ ys. ys ++ drop (i + 1) l₀) (sym (take_next xs i d hx))

  pub copied-length : i ≤ length xs → i ≤ length l₀ → length (take i xs ++ drop i l₀) ≡ length l₀
  copied-length hx hl =
      length-append (take i xs) (drop i l₀) ∙ rw (length-take-le i xs hx, length-drop i l₀) (omega arith)

-- an entry after one store
pub stored : {A : Type 0} (l : List A) (j k : ℕ) (v d x : A) → j < length l → (k ≡ j → v ≡ x) → ((k ≡ j → ⊥) → get_or l k d ≡ x)
    → get_or (set l j v) k d ≡ x
stored l j k v d x h on off = go (ℕ_discrete k j)
  where
    go : Dec (k ≡ j) → get_or (set l j v) k d ≡ x
    go (yes q) = rw q (get_or-set_same l j v d h) ∙ on q
    go (no q) = get_or-set_other l j k v d q ∙ off q

-- the same, entry by entry: F is what stands at each index below i
pub entry_next : {A : Type 0} (l : List A) (i : ℕ) (v d : A) (F : ℕ → A) → i < length l → v ≡ F i
    → ((k : ℕ) → k < i → get_or l k d ≡ F k) → (k : ℕ) → k < i + 1 → get_or (set l i v) k d ≡ F k
entry_next l i v d F h e below k u = stored l i k v d (F k) h (λ q. rw q e) (λ q. below k (omega arith))

-- a list that holds d everywhere, cut
pub replicate_taken : {A : Type 0} (d : A) (n k i : ℕ) → get_or (take k (replicate n d)) i d ≡ d
replicate_taken d zero zero i = refl
replicate_taken d zero (suc k) i = refl
replicate_taken d (suc n) zero i = refl
replicate_taken d (suc n) (suc k) zero = refl
replicate_taken d (suc n) (suc k) (suc i) = replicate_taken d n k i
