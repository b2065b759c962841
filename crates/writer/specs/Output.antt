-- The lines of the output (01, "Lent lists, map and text"; 02, 2.1).
use Rattle.std.specs.Prelude.{List, [], ◌∷◌, ◌++◌, ℕ, ℤ, pos, length}
use Rattle.theory.specs.Class.{member_count}
use Rattle.theory.specs.ClassList.{member_total}
use Rattle.theory.specs.SignedClass.{SignedClass, natural, levels_of}
use Rattle.refusal.specs.declared.Refusal.{Refusal}
use Rattle.refusal.specs.Number.{number_of, place_of}
use Rattle.refusal.specs.Rules.{Verdict, passes, refuses}
use Rattle.columns.specs.Column.{column, signed_column, line_end}

-- "all columns are 11 wide", "Each line ends in byte 10"; the first number may be negative
unfoldable pub line : ℤ → ℕ → ℕ → ℕ → List ℕ
unfolding signed_column column
line a b c d = signed_column 11 a ++ column 11 b ++ column 11 c ++ column 11 d ++ line_end ∷ []

-- "a line a class of residue, level, number of members and mark"; the residue is that of least size (02, 2.7)
unfoldable pub class_line : ℕ → ℕ → SignedClass → ℕ → List ℕ
unfolding line natural member_count
class_line p n c mark = line c.residue c.level (member_count p n (natural p c)) mark

unfoldable pub class_lines : ℕ → ℕ → List SignedClass → List ℕ → List ℕ
unfolding class_line
class_lines p n [] marks = []
class_lines p n (c ∷ cs) [] = []
class_lines p n (c ∷ cs) (mark ∷ marks) = class_line p n c mark ++ class_lines p n cs marks

-- "a line of p, n, k and root count", "the root count is the sum of the member numbers"
unfoldable pub output_text : ℕ → ℕ → List SignedClass → List ℕ → List ℕ
unfolding line class_lines member_total
output_text p n cs marks = line (pos p) n (length cs) (member_total p n (levels_of cs)) ++ class_lines p n cs marks

-- "one line instead: refusal number and place, 11 wide each"
unfoldable pub refusal_line : Refusal → List ℕ
unfolding column
refusal_line r = column 11 (number_of r) ++ column 11 (place_of r) ++ line_end ∷ []

-- "For a refused problem the program prints one line instead": a text, or the line of the refusal
abbrev pub text_or : Verdict → List ℕ → List ℕ
text_or passes text = text
text_or (refuses r) text = refusal_line r

-- the line of a row of numbers (02, 2.1): "Columns are 20 wide"
unfoldable pub row_line : List ℕ → List ℕ
unfolding column
row_line [] = line_end ∷ []
row_line (x ∷ xs) = column 20 x ++ row_line xs
