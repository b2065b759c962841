-- Slots of which a list takes the first: the list in them, one entry more, and one less.
use Rattle.std.proofs.Common.{◌≡◌, List, [], ◌∷◌, ◌++◌, ℕ, suc, ◌+◌, ◌-◌, ◌≤◌, ◌<◌, length, take, drop, get_or, set, replicate, sym, ap}
use Rattle.std.proofs.Common.{◌∙◌, append_assoc, arith, length-append, length-drop}
use lib.Seq.{paste, get_or-drop}
use Rattle.std.specs.List.{remove}
use Rattle.std.proofs.Math.Seq.{take_at, set-append_seam}
use Rattle.std.proofs.lemmas.List.{drop_all, drop-replicate, replicate-append-replicate, length-replicate}
use Rattle.std.proofs.lemmas.List.Edits.{remove-append_left, length-remove, paste_none, paste_more, paste_all, drop-paste}
use Rattle.theory.proofs.Lists.Fill.{drop_next}
use Rattle.systems.specs.State.{slots}

module _ {A : Type 0} (m : ℕ) (d : A) where
  pub slots_front : (l : List A) (k : ℕ) → k ≡ length l → take k (slots m d l) ≡ l
  slots_front l k e = take_at l (drop (length l) (replicate m d)) k (sym e)

  pub slots_length : (l : List A) → length l ≤ m → length (slots m d l) ≡ m
  slots_length l h =
      length-append l (drop (length l) (replicate m d)) ∙ rw (length-drop (length l) (replicate m d), length-replicate m d) (omega arith)

  -- the slots after the list
  unused : (l : List A) → slots m d l ≡ l ++ replicate (m - length l) d
  unused l = ap (λ r. l ++ r) (drop-replicate (length l) m d)

  -- the first unused slot is written
  pub slots_put : (l : List A) (x : A) → length l < m → set (slots m d l) (length l) x ≡ slots m d (l ++ (x ∷ []))
  slots_put l x h =
      let left = m - length (l ++ (x ∷ [])) in
      let one : m - length l ≡ suc left = omega (arith, length-append l (x ∷ [])) in
      rw (unused l, one) (set-append_seam l d (replicate left d) x)
      ∙ sym (append_assoc l (x ∷ []) (replicate left d))
      ∙ sym (unused (l ++ (x ∷ [])))

  -- an entry goes, and a slot is added at the end
  slots_removed : (l : List A) (at : ℕ) → at < length l → length l ≤ m
      → remove (slots m d l) at ++ (d ∷ []) ≡ slots m d (remove l at)
  slots_removed l at h fits =
      let one : m - length l + 1 ≡ m - length (remove l at) = omega (arith, length-remove l at h) in
      rw (unused l, remove-append_left l (replicate (m - length l) d) at h)
      (append_assoc (remove l at) (replicate (m - length l) d) (d ∷ [])
      ∙ ap (λ r. remove l at ++ r) (replicate-append-replicate (m - length l) 1 d ∙ ap (λ k. replicate k d) one)
      ∙ sym (unused (remove l at)))

  -- an entry is moved to the end, and cleared there
  pub slots_cleared : (l : List A) (at last : ℕ) (x : A) → at < length l → length l ≤ m → last + 1 ≡ m
      → set (remove (slots m d l) at ++ (x ∷ [])) last d ≡ slots m d (remove l at)
  slots_cleared l at last x h fits e =
      let long : last ≡ length (remove (slots m d l) at) = omega (arith, length-remove (slots m d l) at, slots_length l fits) in
      ap (λ k. set (remove (slots m d l) at ++ (x ∷ [])) k d) long
      ∙ set-append_seam (remove (slots m d l) at) x [] d
      ∙ slots_removed l at h fits

-- A list whose entries after one move up, one at a time

module _ {A : Type 0} (l : List A) (at : ℕ) where
  -- the entries from `at` to i are the ones after them, and the others are as they were
  abbrev pub shifted_to : ℕ → List A
  shifted_to i = paste l at (drop (suc at) l) (i - at)

  pub shifted_none : l ≡ shifted_to at
  shifted_none = let z : at - at ≡ 0 = omega arith in rw z (paste_none l at (drop (suc at) l))

  pub shifted_next : (now : List A) (i : ℕ) (d : A) → at ≤ i → i + 1 < length l → now ≡ shifted_to i
      → set now i (get_or now (i + 1) d) ≡ shifted_to (i + 1)
  shifted_next now i d from h e =
      ap (λ x. set x i (get_or x (i + 1) d)) e
      ∙ ap (set (shifted_to i) i) next
      ∙ ap (λ k. set (shifted_to i) k (get_or s n d)) (sym here)
      ∙ paste_more l at s n d (omega arith) (omega (arith, long))
      ∙ ap (paste l at s) one
    where
      s : List A
      s = drop (suc at) l

      n : ℕ
      n = i - at

      long : length s ≡ length l - suc at
      long = length-drop (suc at) l

      here : at + n ≡ i
      here = omega arith

      one : n + 1 ≡ i + 1 - at
      one = omega arith

      -- the entry that moves is still where it was
      next : get_or (shifted_to i) (i + 1) d ≡ get_or s n d
      next =
          let after : at + n + 1 ≡ i + 1 = omega arith in
          let same : at + n + 1 ≡ suc at + n = omega arith in
          ap (λ k. get_or (shifted_to i) k d) (sym after)
          ∙ sym (get_or-drop (at + n) (shifted_to i) 1 d)
          ∙ ap (λ x. get_or x 1 d) (drop-paste l at s n (omega arith) (omega (arith, long)))
          ∙ get_or-drop (at + n) l 1 d
          ∙ ap (λ k. get_or l k d) same
          ∙ sym (get_or-drop (suc at) l n d)

  pub shifted_all : (i : ℕ) (d : A) → at ≤ i → i + 1 ≡ length l → shifted_to i ≡ remove l at ++ (get_or l i d ∷ [])
  shifted_all i d from e =
      let here : at + (i - at) ≡ i = omega arith in
      paste_all l at (drop (suc at) l) (i - at) (omega (arith, length-drop (suc at) l))
      ∙ ap (λ k. take at l ++ (drop (suc at) l ++ drop k l)) here
      ∙ sym (append_assoc (take at l) (drop (suc at) l) (drop i l))
      ∙ ap (λ x. remove l at ++ x) (drop_next l i d (omega arith) ∙ ap (λ x. get_or l i d ∷ x) (drop_all (i + 1) l (omega arith)))
