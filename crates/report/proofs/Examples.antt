-- Reports worked out.
use mathlib.Core.Path.{◌≡◌, refl}
use mathlib.Core.List.{List, [], ◌∷◌, ◌++◌}
use Prim.Native.Nat.{ℕ}
use lib.IntN.{pos, negsuc}
use Rattle.theory.specs.Prime.{is_composite}
use Rattle.theory.specs.Polynomial.{roots}
use Rattle.refusal.specs.declared.Refusal.TheVariants.{Form, TooManyProblems}
use Rattle.columns.specs.Column.{signed_column}
use Rattle.numbers.specs.Modulus.{rule4, rule14, rule5}
use Rattle.text.specs.Input.{input_text}
use Rattle.writer.specs.Output.{row_line, refusal_line}
use Rattle.report.specs.Report.{start, report_from, report_text}

-- "An empty text gives only the last line, three zeros."
pub empty_text : report_text [] ≡ row_line (0 ∷ 0 ∷ 0 ∷ [])
unfolding report_text
empty_text = refl

-- x² − 1 modulo 4 and x² + 1 modulo 3
abbrev two_problems : List ℕ
two_problems = input_text 2 2 (negsuc 0 ∷ pos 0 ∷ pos 1 ∷ []) ++ input_text 3 1 (pos 1 ∷ pos 0 ∷ pos 1 ∷ [])

abbrev two_lines : List ℕ
two_lines = row_line (1 ∷ 1 ∷ 2 ∷ []) ++ row_line (1 ∷ 0 ∷ [])

pub two_reported : report_text two_problems ≡ two_lines ++ row_line (2 ∷ 1 ∷ 2 ∷ [])
unfolding report_text rule4 rule14 rule5 is_composite roots signed_column input_text row_line
two_reported = refl

-- "Offsets count from the start of the text": a byte after them starts a problem
pub offset_from_start : report_text (two_problems ++ 32 ∷ []) ≡ two_lines ++ refusal_line (Form 194)
unfolding report_text rule4 rule14 rule5 is_composite roots signed_column input_text row_line refusal_line
offset_from_start = refl

-- "before rule 1": the byte is that of no problem
pub too_many_first : report_from 0 start (32 ∷ []) ≡ refusal_line (TooManyProblems 0)
unfolding report_from refusal_line
too_many_first = refl
