-- How the bytes of a column read, from left to right (01, "Lent lists, map and text").
use Rattle.std.specs.Prelude.{Bool, true, false, cond, ◌&&◌, ℕ, ◌+◌, ◌-◌, ◌*◌, eqb, leb, ℤ, pos, neg_ℤ, Option, Some, None}
use mathlib.Core.List.{List, foldl}
use Rattle.columns.specs.Column.{blank, minus}
use Rattle.text.specs.declared.column.Part.{Part}
use Rattle.text.specs.declared.column.Part.TheVariants.{Blanks, Minus, Number}

-- "right-justified in fixed columns, filled with blanks on the left": a blank stands only after blanks
abbrev pub after_blank : Part → Option Part
after_blank Blanks = Some Blanks
after_blank Minus = None
after_blank (Number m x) = None

-- so does the minus
abbrev pub after_minus : Part → Option Part
after_minus Blanks = Some Minus
after_minus Minus = None
after_minus (Number m x) = None

-- "A number has no leading zero, except 0 itself … −0 is not a number": no digit after a 0 that comes first, no 0 after the minus
abbrev pub after_digit : Part → ℕ → Option Part
after_digit Blanks d = Some (Number false d)
after_digit Minus d = cond (eqb d 0) None (Some (Number true d))
after_digit (Number m x) d = cond (eqb x 0) None (Some (Number m (x * 10 + d)))

-- the bytes 48 to 57
abbrev pub is_digit : ℕ → Bool
is_digit b = leb 48 b && leb b 57

-- "Each byte of a column is a blank, a minus, a digit or a fault."
unfoldable pub step : Part → ℕ → Option Part
step p b = cond (eqb b blank) (after_blank p) (cond (eqb b minus) (after_minus p) (cond (is_digit b) (after_digit p (b - 48)) None))

-- the same where there may be a fault before it
abbrev pub step_on : Option Part → ℕ → Option Part
step_on None b = None
step_on (Some p) b = step p b

-- what the bytes of a column make; `None` where one is a fault
unfoldable pub scan : List ℕ → Option Part
unfolding step
scan bytes = foldl step_on (Some Blanks) bytes

-- "unsigned, up to 4,294,967,295"
abbrev pub unsigned_of : Option Part → Option ℕ
unsigned_of None = None
unsigned_of (Some Blanks) = None
unsigned_of (Some Minus) = None
unsigned_of (Some (Number true x)) = None
unsigned_of (Some (Number false x)) = cond (leb x 4294967295) (Some x) None

-- "A coefficient is a signed 64-bit integer": −2^63 to 2^63 − 1
abbrev pub signed_of : Option Part → Option ℤ
signed_of None = None
signed_of (Some Blanks) = None
signed_of (Some Minus) = None
signed_of (Some (Number true x)) = cond (leb x 9223372036854775808) (Some (neg_ℤ (pos x))) None
signed_of (Some (Number false x)) = cond (leb x 9223372036854775807) (Some (pos x)) None
