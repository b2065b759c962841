-- `report::step::solve` meets its contract.
use Rattle.std.specs.Prelude.{Result, Ok}
use Rattle.refusal.specs.declared.Refusal.{Refusal}
use mathlib.Core.Path.{◌≡◌, refl, sym}
use mathlib.Core.List.{List}
use Prim.Native.Nat.{ℕ, ◌≤◌, ◌<◌}
use native.Mathlib.Omega.{arith}
use lib.IntN.{ℤ}
use lib.ListN.{length, get_or, replicate}
use lib.Seq.{length-take-le}
use Rattle.solver.specs.Counts.{tabulated_of, counts_after}
use Rattle.report.proofs.Counted.{precision-most, roots_few}
use Rattle.report.proofs.Solved.{FilledRow, filled-passes, refused-refuses, row-filled, line-answer, refusal-answer}
use Rattle.report.proofs.step.solve.Goals as goal

-- the row of 32 slots, where the solver filled it
row_of : (f : List ℤ) (p n : ℕ) → (0 < length f) × (length f ≤ 65) → (a : Result Unit Refusal) (row : List ℕ)
    → a ≡ tabulated_of f p n 32 → row ≡ counts_after f p n (replicate 32 0) → a ≡ Ok (tt {0})
    → FilledRow f p n row
row_of f p n sized a row answer is filled =
    let pass = filled-passes f p n sized.0 sized.1 (replicate 32 0) refl a answer filled in
    row-filled f p n sized.0 sized.1 (replicate 32 0) refl row is pass

pub bounds-row-last : goal.bounds-row-last
bounds-row-last c =
    let a = c.args in
    let q = c.counts in
    let sized = c.requires.coefficients_nonzero in
    let R = row_of a.coefficients.now a.p a.n sized q.result q.new.counts q.ensures.answer q.ensures.counts c.in-Ok.is in
    precision-most a.coefficients.now a.p a.n R.passed

pub slice_bounds-row-end : goal.slice_bounds-row-end
slice_bounds-row-end c =
    let a = c.args in
    let q = c.counts in
    let sized = c.requires.coefficients_nonzero in
    let R = row_of a.coefficients.now a.p a.n sized q.result q.new.counts q.ensures.answer q.ensures.counts c.in-Ok.is in
    omega (arith, R.within)

pub slice_bounds-write_row-end : goal.slice_bounds-write_row-end
slice_bounds-write_row-end c =
    let a = c.args in
    let q = c.counts in
    let sized = c.requires.coefficients_nonzero in
    let R = row_of a.coefficients.now a.p a.n sized q.result q.new.counts q.ensures.answer q.ensures.counts c.in-Ok.is in
    sym (length-take-le _ q.new.counts (omega (arith, R.within)))

pub after-requires-clause-problems_bound : goal.after-requires-clause-problems_bound
after-requires-clause-problems_bound c =
    let a = c.args in
    let q = c.counts in
    let sized = c.requires.coefficients_nonzero in
    let R = row_of a.coefficients.now a.p a.n sized q.result q.new.counts q.ensures.answer q.ensures.counts c.in-Ok.is in
    let few : get_or q.new.counts a.n 0 ≤ 4294967295 = omega (arith, R.last_is, roots_few a.coefficients.now a.p a.n R.passed) in
    (c.requires.problems_bound.0, (c.requires.problems_bound.1, few))

pub returns-in-Ok : goal.returns-in-Ok
returns-in-Ok c =
    let a = c.args in
    let q = c.counts in
    let sized = c.requires.coefficients_nonzero in
    let R = row_of a.coefficients.now a.p a.n sized q.result q.new.counts q.ensures.answer q.ensures.counts c.in-Ok.is in
    let w = c.write_row-bytes in
    let r =
    line-answer a.totals a.coefficients.now a.p a.n a.end a.line.now w.new.text c.requires.small c.requires.problems_bound.0
    c.requires.problems_bound.1 q.new.counts R c.after.result c.after.ensures w.result w.ensures.answer w.ensures.text in
    record { answer = r.0; line = r.1.0; after = r.1.1 }

pub returns-in-Err : goal.returns-in-Err
returns-in-Err c =
    let a = c.args in
    let q = c.counts in
    let sized = c.requires.coefficients_nonzero in
    let refuses =
    refused-refuses a.coefficients.now a.p a.n sized.0 sized.1 (replicate 32 0) refl q.result q.ensures.answer _ c.in-Err.is in
    let w = c.put_refusal in
    let r =
    refusal-answer a.totals a.coefficients.now a.p a.n a.end a.line.now w.new.line _ refuses w.result w.ensures.answer
    w.ensures.line w.ensures.counts in
    record { answer = r.0; line = r.1.0; after = r.1.1 }
