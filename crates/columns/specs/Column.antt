-- Decimal numbers in fixed columns, as bytes (01, "Lent lists, map and text").
use Rattle.std.specs.Prelude.{true, false, List, [], ◌∷◌, ◌++◌, ℕ, zero, suc, ◌+◌, ◌*◌, ◌/◌, ◌%◌, ◌^◌, ◌<◌, ltb, ℤ, pos, negsuc, replicate}

abbrev pub blank : ℕ
blank = 32

abbrev pub minus : ℕ
minus = 45

-- "Each line ends in byte 10"
abbrev pub line_end : ℕ
line_end = 10

-- the byte of the digit d
abbrev pub digit_byte : ℕ → ℕ
digit_byte d = d + 48

-- "right-justified in fixed columns, filled with blanks on the left", "A number has no leading zero, except 0 itself": x in a column of
-- width w. Its last digit comes last; left of it stand the digits of x / 10 where x has any more, and else blanks
unfoldable pub column : ℕ → ℕ → List ℕ
column zero x = []
column (suc w) x = elim (ltb x 10) [ true ↦ replicate w blank | false ↦ column w (x / 10) ] ++ digit_byte (x % 10) ∷ []

-- blanks, and a minus at their right end
unfoldable pub sign : ℕ → List ℕ
sign zero = []
sign (suc w) = replicate w blank ++ minus ∷ []

-- −x, for an x above 0 ("−0 is not a number")
unfoldable pub minus_column : ℕ → ℕ → List ℕ
unfolding sign
minus_column zero x = []
minus_column (suc w) x = elim (ltb x 10) [ true ↦ sign w | false ↦ minus_column w (x / 10) ] ++ digit_byte (x % 10) ∷ []

-- a signed number; `negsuc k` is −(k + 1)
unfoldable pub signed_column : ℕ → ℤ → List ℕ
unfolding column minus_column
signed_column w (pos x) = column w x
signed_column w (negsuc k) = minus_column w (suc k)

-- a number that has no more than w characters, its minus included: no digit is lost in a column of width w
abbrev pub FitsColumn : ℕ → ℤ → Type 0
FitsColumn w (pos x) = (0 < w) × (x < 10 ^ w)
FitsColumn w (negsuc k) = suc k * 10 < 10 ^ w
