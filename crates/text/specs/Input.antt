-- The input text of a problem (01, "Lent lists, map and text": "Input: …"). `Form` says what the reader does with any text; that it takes
-- exactly these texts is a theorem.
use Rattle.std.specs.Prelude.{List, [], ◌∷◌, ◌++◌, ℕ, ℤ, length}
use Rattle.columns.specs.Column.{column, signed_column, line_end}

-- "then c lines of one coefficient in 20 columns"
unfoldable pub coefficient_lines : List ℤ → List ℕ
coefficient_lines [] = []
coefficient_lines (z ∷ cs) = signed_column 20 z ++ line_end ∷ coefficient_lines cs

-- "one line of p, n and the coefficient count c, …, in 11 columns each"
unfoldable pub input_text : ℕ → ℕ → List ℤ → List ℕ
unfolding coefficient_lines
input_text p n cs = column 11 p ++ (column 11 n ++ (column 11 (length cs) ++ line_end ∷ coefficient_lines cs))
