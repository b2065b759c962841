-- What stands at the front of the bytes that are read: the outcome of a step, its line, and what it leaves.
use Rattle.std.specs.Prelude.{◌≡◌, cond, List, [], ◌∷◌, ◌++◌, ℕ, ◌+◌, ◌*◌, ◌≤◌, ◌<◌, ltb, leb, ℤ, length, take, drop, Result, Ok, Err}
use Rattle.refusal.specs.declared.Refusal.{Refusal}
use Rattle.theory.specs.Counts.{solutions, count_row}
use Rattle.refusal.specs.declared.Refusal.TheVariants.{TooManyProblems}
use Rattle.refusal.specs.Rules.{Verdict, passes, refuses, tried}
use Rattle.numbers.specs.Modulus.{modulus_rules}
use Rattle.text.specs.declared.Problem.{Problem}
use Rattle.text.specs.Form.{problem_at}
use Rattle.writer.specs.Output.{refusal_line, row_line}
use Rattle.report.specs.declared.step.Totals.{Totals}
use Rattle.report.specs.declared.step.Stepped.{Stepped}
use Rattle.report.specs.declared.step.Stepped.TheVariants.{Line, Stop, Wait}
use Rattle.report.specs.Report.{after, from_start}
use Rattle.report.specs.Run.{Outcome, next, stop, wait}

-- a problem that the rules on p and n pass, or its refusal
abbrev pub next_or : Verdict → Totals → (line : List ℕ) → (bytes : ℕ) → Outcome Totals
next_or passes s line bytes = next s line bytes
next_or (refuses r) s line bytes = stop (refusal_line r)

-- of a problem with the polynomial f, whose text ends there
unfoldable pub outcome_of : Totals → (f : List ℤ) → (p n end : ℕ) → Outcome Totals
outcome_of s f p n end = next_or (tried (modulus_rules p n)) (after s end (solutions f p n)) (row_line (count_row f p n)) end

-- by what the reader gives; "The longest has 1,399 bytes", so a refusal of fewer bytes may be for want of more
abbrev pub outcome_by : Totals → List ℕ → Result Problem Refusal → Outcome Totals
outcome_by s w (Ok problem) = outcome_of s (take problem.count problem.coefficients) problem.p problem.n problem.end
outcome_by s w (Err r) = cond (ltb (length w) 1399) wait (stop (refusal_line (from_start s.at r)))

unfoldable pub outcome : Totals → List ℕ → Outcome Totals
outcome s [] = wait
outcome s (byte ∷ w) =
    cond (leb 1000 s.problems) (stop (refusal_line (TooManyProblems s.at)))
    (outcome_by s (byte ∷ w) (problem_at (byte ∷ w) 0))

-- by what the reader gives of the bytes that are left at the end of the text; a problem that is read is never left
abbrev pub ending_by : Totals → Result Problem Refusal → List ℕ
ending_by s (Ok problem) = []
ending_by s (Err r) = refusal_line (from_start s.at r)

unfoldable pub ending : Totals → List ℕ → List ℕ
ending s [] = row_line (s.problems ∷ s.rootless ∷ s.roots ∷ [])
ending s (byte ∷ w) = ending_by s (problem_at (byte ∷ w) 0)

-- what a step answers
abbrev pub step_of : Outcome Totals → Stepped
step_of (next s line bytes) = Line s bytes (length line)
step_of (stop line) = Stop (length line)
step_of wait = Wait

-- memory with a line written at its front
abbrev pub with_line : (line old : List ℕ) → List ℕ
with_line line old = line ++ drop (length line) old

-- what a step leaves in the memory for a line
abbrev pub line_of : Outcome Totals → List ℕ → List ℕ
line_of (next s line bytes) old = with_line line old
line_of (stop line) old = with_line line old
line_of wait old = old

-- totals of at most 1,000 problems
pub record Small (s : Totals) : Type 0 where
  pub few : s.problems ≤ 1000
  pub short : s.at ≤ 1399 * s.problems
  pub rootless_few : s.rootless ≤ s.problems
  pub roots_few : s.roots ≤ 4294967295 * s.problems

-- the number of a line's bytes, all of which the memory has
abbrev pub Counted : ℕ → List ℕ → Type 0
Counted bytes line = (bytes ≤ length line) × (bytes ≡ length (take bytes line))

-- after a step on so many bytes
abbrev pub After : Totals → Stepped → (bytes : ℕ) → (line : List ℕ) → Type 0
After s (Line t end size) bytes line = Small t × ((t.problems ≡ s.problems + 1) × ((end ≤ bytes) × Counted size line))
After s (Stop size) bytes line = Counted size line
After s Wait bytes line = bytes < 1399
