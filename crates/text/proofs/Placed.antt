-- Columns and line ends at a place of the text: what stands from there on.
use mathlib.Core.Path.{◌≡◌, refl, sym, ap, ap₂, ◌∙◌}
use mathlib.Core.Bool.{Bool, true, false}
use mathlib.Core.List.{List, [], ◌∷◌, ◌++◌}
use Rattle.std.specs.Prelude.{Some, None}
use Prim.Native.Nat.{ℕ, ◌+◌, ◌-◌, ◌^◌, ◌≤◌, ◌<◌}
use native.Mathlib.Decide.{dec_le}
use native.Mathlib.Numerals.{add-one}
use native.Mathlib.Omega.{arith}
use borrow.Author.Tests.{leb-true, leb-false}
use lib.Dec.{leb}
use lib.IntN.{ℤ}
use lib.ListN.{length, get_or, take, drop, length-append, length-drop, take-append-drop, get_or-eq_default}
use lib.Seq.{length-take-le, drop-drop, drop-cons, take_at, drop_at, get_or-drop}
use Rattle.columns.specs.Column.{column, signed_column, FitsColumn}
use Rattle.text.specs.Reading.{scan, unsigned_of, signed_of}
use Rattle.text.specs.Text.{column_at, unsigned_value, signed_value}
use Rattle.columns.proofs.Length.{column-length, signed-length}
use Rattle.text.proofs.Values.{column_whole, column_incomplete}
use Rattle.text.proofs.ReadBack.{InRange, unsigned_reads_column, signed_reads_column, unsigned_is_column, signed_is_column}

-- From a place on

module _ (text : List ℕ) (at : ℕ) where
  -- what stands from the place on is w bytes and the rest
  column-split : (w : ℕ) → drop at text ≡ take w (drop at text) ++ drop (at + w) text
  column-split w = sym (take-append-drop w (drop at text)) ∙ ap (λ (l : List ℕ). take w (drop at text) ++ l) (drop-drop w at text)

  room : (l rest : List ℕ) → 0 < length l → drop at text ≡ l ++ rest → at + length l ≤ length text
  room l rest h e =
      let n : length text - at ≡ length l + length rest = sym (length-drop at text) ∙ ap length e ∙ length-append l rest in
      omega arith

  pub after : (l rest : List ℕ) (w : ℕ) → length l ≡ w → drop at text ≡ l ++ rest → drop (at + w) text ≡ rest
  after l rest w n e = sym (drop-drop w at text) ∙ ap (drop w) e ∙ drop_at l rest w n

  -- a column of w bytes makes what its bytes make
  placed-column : (l rest : List ℕ) (w : ℕ) → 0 < w → length l ≡ w → drop at text ≡ l ++ rest → column_at text at w ≡ scan l
  placed-column l rest w h n e =
      let r : at + w ≤ length text = omega (arith, n, room l rest (omega (arith, n)) e) in
      column_whole text at w r ∙ ap scan (ap (take w) e ∙ take_at l rest w n)

  pub unsigned-placed : (w x : ℕ) (rest : List ℕ) → 0 < w → x < 10 ^ w → x ≤ 4294967295 → drop at text ≡ column w x ++ rest
      → unsigned_value text at w ≡ Some x
  unfolding unsigned_value
  unsigned-placed w x rest h f r e =
      ap unsigned_of (placed-column (column w x) rest w h (column-length w x) e) ∙ unsigned_reads_column w x h f r

  pub signed-placed : (w : ℕ) (z : ℤ) (rest : List ℕ) → 0 < w → FitsColumn w z → InRange z → drop at text ≡ signed_column w z ++ rest
      → signed_value text at w ≡ Some z
  unfolding signed_value
  signed-placed w z rest h f r e =
      ap signed_of (placed-column (signed_column w z) rest w h (signed-length w z) e) ∙ signed_reads_column w z f r

  -- and a column that has a value is the writer's column of it
  complete : (w : ℕ) → (column_at text at w ≡ None → ⊥) → at + w ≤ length text
  complete w ne = go (leb (at + w) (length text)) refl
    where
      go : (t : Bool) → leb (at + w) (length text) ≡ t → at + w ≤ length text
      go true q = leb-true (at + w) (length text) q
      go false q = absurd (ne (column_incomplete text at w (leb-false (at + w) (length text) q)))

  bytes-length : (w : ℕ) → at + w ≤ length text → length (take w (drop at text)) ≡ w
  bytes-length w h = length-take-le w (drop at text) (omega (arith, length-drop at text))

  pub unsigned-column-is : (w x : ℕ) → unsigned_value text at w ≡ Some x
      → (drop at text ≡ column w x ++ drop (at + w) text) × (x ≤ 4294967295)
  unfolding unsigned_value
  unsigned-column-is w x e =
      let r = complete w (λ q. none-no-some x (sym (ap unsigned_of q) ∙ e)) in
      let v = unsigned_is_column (take w (drop at text)) x (ap unsigned_of (sym (column_whole text at w r)) ∙ e) in
      (column-split w ∙ ap (λ (l : List ℕ). l ++ drop (at + w) text) (v.0 ∙ ap (λ (k : ℕ). column k x) (bytes-length w r)), v.1)
    where
      none-no-some : (x : ℕ) → None ≡ Some x → ⊥
      none-no-some x e = let z : ◌≡◌ {A = ℕ} 0 1 = cc in omega arith

  pub signed-column-is : (w : ℕ) (z : ℤ) → signed_value text at w ≡ Some z
      → (drop at text ≡ signed_column w z ++ drop (at + w) text) × InRange z
  unfolding signed_value
  signed-column-is w z e =
      let r = complete w (λ q. none-no-some z (sym (ap signed_of q) ∙ e)) in
      let v = signed_is_column (take w (drop at text)) z (ap signed_of (sym (column_whole text at w r)) ∙ e) in
      (column-split w ∙ ap (λ (l : List ℕ). l ++ drop (at + w) text) (v.0 ∙ ap (λ (k : ℕ). signed_column k z) (bytes-length w r)), v.1)
    where
      none-no-some : (z : ℤ) → None ≡ Some z → ⊥
      none-no-some z e = let o : ◌≡◌ {A = ℕ} 0 1 = cc in omega arith

  -- the line end
  pub end-placed : (rest : List ℕ) → drop at text ≡ 10 ∷ rest → (get_or text at 0 ≡ 10) × (drop (at + 1) text ≡ rest)
  end-placed rest e =
      let z : at + 0 ≡ at = omega arith in (
        ap (λ (k : ℕ). get_or text k 0) (sym z) ∙ sym (get_or-drop at text 0 0) ∙ ap (λ (l : List ℕ). get_or l 0 0) e,
        after (10 ∷ []) rest 1 refl e,
      )

  pub end_is : get_or text at 0 ≡ 10 → drop at text ≡ 10 ∷ drop (at + 1) text
  end_is e = go (dec_le (length text) at)
    where
      go : Dec (length text ≤ at) → drop at text ≡ 10 ∷ drop (at + 1) text
      go (yes h) = absurd (omega (arith, get_or-eq_default text 0 h))
      go (no h) = drop-cons text at 0 (omega arith) ∙ ap₂ (λ (b k : ℕ). b ∷ drop k text) e (sym (add-one at))
