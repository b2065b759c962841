-- The line of a row, laid column by column.
use mathlib.Core.Path.{◌≡◌, refl, sym, ap, ◌∙◌}
use mathlib.Core.List.{List, [], ◌∷◌, ◌++◌, append_assoc, append-nil}
use Prim.Native.Nat.{ℕ, ◌+◌, ◌*◌, ◌≤◌, ◌<◌}
use native.Mathlib.Omega.{arith}
use lib.ListN.{length, get_or, set, take, length-append}
use lib.Seq.{take_all, length-take-le}
use Rattle.theory.proofs.Lists.Fill.{take_next}
use Rattle.columns.specs.Column.{column, line_end}
use Rattle.columns.proofs.Length.{column-length}
use Rattle.writer.specs.inner.Place.{laid}
use Rattle.writer.specs.Output.{row_line}
use Rattle.writer.proofs.Laid.{laid-length, laid_next, laid_byte, laid_nothing}

-- the columns of a row
abbrev pub columns_of : List ℕ → List ℕ
columns_of [] = []
columns_of (x ∷ xs) = column 20 x ++ columns_of xs

-- and the line's end
row_line_lem : (xs : List ℕ) → row_line xs ≡ columns_of xs ++ line_end ∷ []
unfolding row_line
row_line_lem [] = refl
row_line_lem (x ∷ xs) =
    ap (λ (l : List ℕ). column 20 x ++ l) (row_line_lem xs) ∙ sym (append_assoc (column 20 x) (columns_of xs) (line_end ∷ []))

columns_length : (xs : List ℕ) → length (columns_of xs) ≡ 20 * length xs
columns_length [] = refl
columns_length (x ∷ xs) =
    length-append (column 20 x) (columns_of xs) ∙ omega (arith, column-length 20 x, columns_length xs)

columns_append : (xs ys : List ℕ) → columns_of (xs ++ ys) ≡ columns_of xs ++ columns_of ys
columns_append [] ys = refl
columns_append (x ∷ xs) ys =
    ap (λ (l : List ℕ). column 20 x ++ l) (columns_append xs ys) ∙ sym (append_assoc (column 20 x) (columns_of xs) (columns_of ys))

-- a line of k numbers has 20 k + 1 bytes
pub row_length : (xs : List ℕ) → length (row_line xs) ≡ 20 * length xs + 1
row_length xs =
    ap length (row_line_lem xs) ∙ length-append (columns_of xs) (line_end ∷ []) ∙ ap (λ (k : ℕ). k + 1) (columns_length xs)

module _ (row : List ℕ) (i : ℕ) where
  -- one column more
  columns-next : i < length row → columns_of (take (i + 1) row) ≡ columns_of (take i row) ++ column 20 (get_or row i 0)
  columns-next h =
      ap columns_of (take_next row i 0 h)
      ∙ columns_append (take i row) (get_or row i 0 ∷ [])
      ∙ ap (λ (l : List ℕ). columns_of (take i row) ++ l) (append-nil (column 20 (get_or row i 0)))

  columns-to-length : i ≤ length row → length (columns_of (take i row)) ≡ 20 * i
  columns-to-length h = columns_length (take i row) ∙ ap (λ (k : ℕ). 20 * k) (length-take-le i row h)

  -- the first i columns are laid over the text
  module _ (text now : List ℕ) (room : 20 * length row + 1 ≤ length text) (laid-is : now ≡ laid 0 (columns_of (take i row)) text) where
    pub row-again : (next : List ℕ) → i < length row → next ≡ laid (20 * i) (column 20 (get_or row i 0)) now
        → next ≡ laid 0 (columns_of (take (i + 1) row)) text
    row-again next h e =
        let before = columns_of (take i row) in
        let this = column 20 (get_or row i 0) in
        let place : 20 * i ≡ 0 + length before = omega (arith, columns-to-length (omega arith)) in
        e
        ∙ ap (laid (20 * i) this) laid-is
        ∙ laid_next 0 before text this (20 * i) place (omega arith)
        ∙ ap (λ (l : List ℕ). laid 0 l text) (sym (columns-next h))

    -- and no column is left
    module _ (all : i ≡ length row) where
      pub row-end : set now (20 * i) line_end ≡ laid 0 (row_line row) text
      row-end =
          let before = columns_of (take i row) in
          let size = columns-to-length (omega arith) in
          let place : 20 * i ≡ 0 + length before = omega (arith, size) in
          let same : length now ≡ length text = ap length laid-is ∙ laid-length 0 before text (omega (arith, size)) in
          let whole : take i row ≡ row = take_all i row (omega arith) in
          laid_byte (20 * i) line_end now (omega arith)
          ∙ ap (laid (20 * i) (line_end ∷ [])) laid-is
          ∙ laid_next 0 before text (line_end ∷ []) (20 * i) place (omega arith)
          ∙ ap (λ (l : List ℕ). laid 0 l text) (sym (row_line_lem (take i row)) ∙ ap row_line whole)

pub row_begin : (row text : List ℕ) → text ≡ laid 0 (columns_of (take 0 row)) text
row_begin row text = laid_nothing 0 text
