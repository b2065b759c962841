-- What it means that each number of the report has room in its column.
use Rattle.std.specs.Prelude.{List, [], ◌∷◌, ℕ, zero, suc, take, drop, Result, Ok, Err}
use Rattle.refusal.specs.declared.Refusal.{Refusal}
use Rattle.theory.specs.Counts.{solutions, count_row}
use Rattle.refusal.specs.declared.Refusal.TheVariants.{TooManyProblems}
use Rattle.refusal.specs.Rules.{tried}
use Rattle.numbers.specs.Modulus.{modulus_rules}
use Rattle.text.specs.declared.Problem.{Problem}
use Rattle.text.specs.Form.{problem_at}
use Rattle.writer.specs.Fits.{RefusalFits, FitsOr, RowFits}
use Rattle.report.specs.declared.step.Totals.{Totals}
use Rattle.report.specs.Report.{start, after, from_start}

-- `report_by`
abbrev pub FitsBy : (Totals → List ℕ → Type 0) → Totals → List ℕ → Result Problem Refusal → Type 0
FitsBy rest s left (Ok problem) =
    let f = take problem.count problem.coefficients in
    FitsOr (tried (modulus_rules problem.p problem.n))
    (RowFits (count_row f problem.p problem.n)
    × rest (after s problem.end (solutions f problem.p problem.n)) (drop problem.end left))
FitsBy rest s left (Err r) = RefusalFits (from_start s.at r)

-- `lines_or_last`
abbrev pub FitsOrLast : Totals → (left : List ℕ) → Type 0 → Type 0
FitsOrLast s [] lines = RowFits (s.problems ∷ s.rootless ∷ s.roots ∷ [])
FitsOrLast s (byte ∷ left) lines = lines

-- `report_from`
abbrev pub FitsFrom : (more : ℕ) → Totals → (left : List ℕ) → Type 0
FitsFrom zero s left = FitsOrLast s left (RefusalFits (TooManyProblems s.at))
FitsFrom (suc more) s left =
    FitsOrLast s left
    (FitsBy (λ s' left'. FitsFrom more s' left') s left (problem_at left 0))

-- `report_text`
abbrev pub ReportFits : List ℕ → Type 0
ReportFits text = FitsFrom 1000 start text
