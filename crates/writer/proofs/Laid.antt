-- Bytes laid over a list from a place on.
use mathlib.Core.Path.{◌≡◌, sym, ap, ◌∙◌}
use mathlib.Core.List.{List, [], ◌∷◌, ◌++◌, append_assoc, append-nil}
use Prim.Native.Nat.{ℕ, ◌+◌, ◌-◌, ◌≤◌, ◌<◌}
use native.Mathlib.Numerals.{add-one}
use native.Mathlib.Nat.{zero-add, add-zero}
use native.Mathlib.Omega.{arith}
use lib.ListN.{length, take, drop, set, length-append, length-drop, take-append-drop}
use lib.Seq.{take_at, drop_at, take_all, drop-drop, drop-length, set_split, length-take-le}
use Rattle.writer.specs.inner.Place.{laid}

module _ (at : ℕ) (e l : List ℕ) where
  -- nothing is longer or shorter
  pub laid-length : at + length e ≤ length l → length (laid at e l) ≡ length l
  unfolding laid
  laid-length h =
      length-append (take at l) (e ++ drop (at + length e) l)
      ∙ rw (length-take-le at l (omega arith), length-append, length-drop) (omega arith)

  -- what follows keeps its place
  laid-front : at + length e ≤ length l → length (take at l ++ e) ≡ at + length e
  laid-front h = length-append (take at l) e ∙ rw (length-take-le at l (omega arith))

  -- more bytes after those laid
  pub laid_next : (f : List ℕ) (next : ℕ) → next ≡ at + length e → next ≤ length l → laid next f (laid at e l) ≡ laid at (e ++ f) l
  unfolding laid
  laid_next f next q h =
      let rest = drop (at + length e) l in
      let fits : at + length e ≤ length l = omega arith in
      let whole : take at l ++ (e ++ rest) ≡ (take at l ++ e) ++ rest = sym (append_assoc (take at l) e rest) in
      let front : length (take at l ++ e) ≡ next = laid-front fits ∙ sym q in
      let kept : take next (take at l ++ (e ++ rest)) ≡ take at l ++ e = ap (take next) whole ∙ take_at (take at l ++ e) rest next front in
      let past : at + length e + length f ≡ at + length (e ++ f) = omega (arith, length-append e f) in
      let after : drop (next + length f) (take at l ++ (e ++ rest)) ≡ drop (at + length (e ++ f)) l =
      sym (drop-drop (length f) next (take at l ++ (e ++ rest)))
      ∙ ap (λ (y : List ℕ). drop (length f) (drop next y)) whole
      ∙ ap (drop (length f)) (drop_at (take at l ++ e) rest next front)
      ∙ drop-drop (length f) (at + length e) l
      ∙ ap (λ (k : ℕ). drop k l) past in
      rw (kept, after) (append_assoc (take at l) e (f ++ drop (at + length (e ++ f)) l)
      ∙ ap (λ (y : List ℕ). take at l ++ y) (sym (append_assoc e f (drop (at + length (e ++ f)) l))))

  -- a part from `at` to the end, given back with e at its front
  pub laid-part : (ys : List ℕ) (w : ℕ) → length e ≡ w → at + w ≤ length l
      → ys ≡ e ++ drop w (take (length l - at) (drop at l))
      → take at l ++ (ys ++ drop (length l - at) (drop at l)) ≡ laid at e l
  unfolding laid
  laid-part ys w n h p =
      let q : at + (length l - at) ≡ length l = omega arith in
      rw (
        p,
        take_all (length l - at) (drop at l) (simp length-drop (omega arith)),
        drop-drop (length l - at) at l,
        q,
        drop-length l,
        drop-drop w at l,
        append-nil,
        n,
      )

-- one byte stored
pub laid_byte : (at v : ℕ) (l : List ℕ) → at < length l → set l at v ≡ laid at (v ∷ []) l
unfolding laid
laid_byte at v l h = set_split l at v h ∙ ap (λ (k : ℕ). take at l ++ (v ∷ drop k l)) (sym (add-one at))

-- from the front on
pub laid_zero : (e l : List ℕ) → laid 0 e l ≡ e ++ drop (length e) l
unfolding laid
laid_zero e l = ap (λ (k : ℕ). e ++ drop k l) (zero-add (length e))

-- nothing laid
pub laid_nothing : (at : ℕ) (l : List ℕ) → l ≡ laid at [] l
unfolding laid
laid_nothing at l = sym (take-append-drop at l) ∙ ap (λ (k : ℕ). take at l ++ drop k l) (sym (add-zero at))
