-- "The reader takes one column and gives its value together with the place after it." (01, "Lent lists, map and text")
use Rattle.std.specs.Prelude.{cond, List, ℕ, ◌+◌, eqb, leb, ℤ, length, get_or, take, drop, Option, Some, None}
use Rattle.text.specs.declared.Cursor.{Cursor}
use Rattle.columns.specs.Column.{line_end}
use Rattle.text.specs.declared.column.Part.{Part}
use Rattle.text.specs.Reading.{scan, unsigned_of, signed_of}

-- the column of width w at a place; a fault where the text ends inside it
unfoldable pub column_at : List ℕ → ℕ → ℕ → Option Part
unfolding scan
column_at text at w = cond (leb (at + w) (length text)) (scan (take w (drop at text))) None

-- its value as an unsigned number
unfoldable pub unsigned_value : List ℕ → ℕ → ℕ → Option ℕ
unfolding column_at
unsigned_value text at w = unsigned_of (column_at text at w)

-- its value as a signed number
unfoldable pub signed_value : List ℕ → ℕ → ℕ → Option ℤ
unfolding column_at
signed_value text at w = signed_of (column_at text at w)

-- a place in the text
abbrev pub cursor_at : ℕ → Cursor
cursor_at place = record { at = place }

-- a value together with the place after its column
abbrev pub with_place : {A : Type 0} → Option A → ℕ → Option (A × Cursor)
with_place (Some x) after = Some (x, cursor_at after)
with_place None after = None

-- the unsigned number in the column of width w at a place
abbrev pub unsigned_at : List ℕ → ℕ → ℕ → Option (ℕ × Cursor)
unsigned_at text at w = with_place (unsigned_value text at w) (at + w)

-- the signed number there
abbrev pub signed_at : List ℕ → ℕ → ℕ → Option (ℤ × Cursor)
signed_at text at w = with_place (signed_value text at w) (at + w)

-- "Each line ends in byte 10"; past the end of the text the byte counts as 0
abbrev pub line_end_at : List ℕ → ℕ → Option Cursor
line_end_at text at = cond (eqb (get_or text at 0) line_end) (Some (cursor_at (at + 1))) None
