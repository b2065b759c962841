-- The report on a text of problems (02, 2.1: "A second program, the report, reads a text of 01's problems one after another").
use Rattle.std.specs.Prelude.{cond, List, [], ◌∷◌, ◌++◌, ℕ, zero, suc, ◌+◌, eqb, take, drop, Result, Ok, Err}
use Rattle.theory.specs.Counts.{solutions, counts_below, count_row}
use Rattle.refusal.specs.declared.Refusal.{Refusal}
use Rattle.refusal.specs.declared.Refusal.TheVariants.{Form, TooManyProblems}
use Rattle.refusal.specs.Number.{number_of, place_of}
use Rattle.refusal.specs.Rules.{tried}
use Rattle.numbers.specs.Modulus.{modulus_rules}
use Rattle.text.specs.declared.Problem.{Problem}
use Rattle.text.specs.Form.{problem_at}
use Rattle.writer.specs.Output.{refusal_line, text_or, row_line}
use Rattle.report.specs.declared.step.Totals.{Totals}

-- at the start of the text
abbrev pub start : Totals
start = record { at = 0; problems = 0; rootless = 0; roots = 0 }

-- 1 where a problem has no root
abbrev pub rootless_by : ℕ → ℕ
rootless_by roots = cond (eqb roots 0) 1 0

-- after a problem more, which has so many bytes and N_n = roots
abbrev pub after : Totals → (bytes roots : ℕ) → Totals
after s bytes roots =
    record {
      at = s.at + bytes;
      problems = s.problems + 1;
      rootless = s.rootless + rootless_by roots;
      roots = s.roots + roots;
    }

-- "Offsets count from the start of the text": the places of rule 1 are offsets, in a problem that starts at `at`
abbrev pub from_start : ℕ → Refusal → Refusal
from_start at r = cond (eqb (number_of r) 1) (Form (at + place_of r)) r

-- "Each problem gives a line of its n + 1 counts", and "Bytes after a problem begin the next one"; "The first refused problem ends the
-- report with its refusal line": by what the reader gives of the problem at the front of the text that is left
abbrev pub report_by : (Totals → List ℕ → List ℕ) → Totals → List ℕ → Result Problem Refusal → List ℕ
report_by rest s left (Ok problem) =
    let f = take problem.count problem.coefficients in
    text_or (tried (modulus_rules problem.p problem.n))
    (row_line (count_row f problem.p problem.n)
    ++ rest (after s problem.end (solutions f problem.p problem.n)) (drop problem.end left))
report_by rest s left (Err r) = refusal_line (from_start s.at r)

-- "a last line gives the number of problems, of those with N_n = 0, and the sum of all N_n": at the end of the text; or lines before it
abbrev pub lines_or_last : Totals → (left lines : List ℕ) → List ℕ
lines_or_last s [] lines = row_line (s.problems ∷ s.rootless ∷ s.roots ∷ [])
lines_or_last s (byte ∷ left) lines = lines

-- the report from a place on, where so many problems more may come; "13, when 1,000 problems are done and bytes remain, place the first of
-- them, before rule 1"
unfoldable pub report_from : (more : ℕ) → Totals → (left : List ℕ) → List ℕ
unfolding refusal_line row_line solutions counts_below modulus_rules problem_at
report_from zero s left = lines_or_last s left (refusal_line (TooManyProblems s.at))
report_from (suc more) s left =
    lines_or_last s left
    (report_by (λ s' left'. report_from more s' left') s left (problem_at left 0))

-- the report on a whole text
unfoldable pub report_text : List ℕ → List ℕ
unfolding report_from
report_text text = report_from 1000 start text
