-- What it means that each number of the printed text has room in its column.
use Rattle.std.specs.Prelude.{List, ℕ, take, Result, Ok, Err}
use Rattle.refusal.specs.declared.Refusal.{Refusal}
use Rattle.solver.specs.Solve.{solution, marks_of}
use Rattle.text.specs.declared.Problem.{Problem}
use Rattle.text.specs.Form.{problem_of}
use Rattle.writer.specs.Fits.{OutputFits, RefusalFits, FitsOr}
use Rattle.program.specs.Printed.{judged}

-- `printed_for`
abbrev pub FitsFor : Result Problem Refusal → Type 0
FitsFor (Ok problem) =
    let f = take problem.count problem.coefficients in
    FitsOr (judged problem.p problem.n) (OutputFits problem.p problem.n (solution f problem.p problem.n) (marks_of f problem.p problem.n))
FitsFor (Err r) = RefusalFits r

-- `printed_text`
abbrev pub PrintedFits : List ℕ → Type 0
PrintedFits text = FitsFor (problem_of text)
