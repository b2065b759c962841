-- `report::step::step` meets its contract.
use mathlib.Core.Path.{◌≡◌, sym, ap, ◌∙◌}
use mathlib.Core.List.{List}
use Prim.Native.Nat.{ℕ, ◌≤◌, ◌<◌}
use native.Mathlib.Omega.{arith}
use borrow.Author.Tests.{eqb-true, eqb-false}
use lib.ListN.{length}
use Rattle.refusal.specs.declared.Refusal.{Refusal}
use Rattle.writer.specs.Output.{refusal_line}
use Rattle.report.specs.declared.step.Totals.{Totals}
use Rattle.report.specs.declared.step.Stepped.TheVariants.{Stop}
use Rattle.report.specs.Run.{stop}
use Rattle.report.specs.inner.Outcomes.{outcome, step_of, line_of, with_line, Counted}
use Rattle.report.proofs.Outcomes.{none_there, too_many}
use Rattle.report.proofs.Steps.{given-row, given-step, offset_small, refused-place, refused-short, refused-long}
use Rattle.report.proofs.step.step.Goals as goal

-- a refusal that ends the report
stops : (s : Totals) (w l old now : List ℕ) (bytes : ℕ) → outcome s w ≡ stop l → bytes ≡ length l → now ≡ with_line l old
    → Counted bytes now
    → (Stop bytes ≡ step_of (outcome s w)) × ((now ≡ line_of (outcome s w) old) × Counted bytes now)
stops s w l old now bytes e b line counted = rw e (ap Stop b, (line, counted))

pub returns-then-is_empty-clause-answer : goal.returns-then-is_empty-clause-answer
returns-then-is_empty-clause-answer c =
    rw (none_there c.args.totals c.args.bytes.now (eqb-true (length c.args.bytes.now) 0 (sym c.if-is_empty.ensures)))

pub returns-then-is_empty-clause-line : goal.returns-then-is_empty-clause-line
returns-then-is_empty-clause-line c =
    rw (none_there c.args.totals c.args.bytes.now (eqb-true (length c.args.bytes.now) 0 (sym c.if-is_empty.ensures)))

pub returns-then-totals-ge1000 : goal.returns-then-totals-ge1000
returns-then-totals-ge1000 c =
    let a = c.args in
    let r = c.put_refusal in
    let some = eqb-false (length c.args.bytes.now) 0 (sym c.if-is_empty.ensures) in
    let many = too_many a.totals a.bytes.now some c.if-totals-ge1000.true in
    let s = stops a.totals a.bytes.now _ a.line.now r.new.line r.result many r.ensures.answer r.ensures.line r.ensures.counts in
    record { answer = s.0; line = s.1.0; after = s.1.1 }

pub shared_ref_as_front-f : goal.shared_ref_as_front-f
shared_ref_as_front-f c =
    let some = eqb-false (length c.args.bytes.now) 0 (sym c.if-is_empty.ensures) in
    (given-row c.args.totals c.args.bytes.now some _ (sym c.in-Ok.ensures)).within

pub slice_bounds-f-end : goal.slice_bounds-f-end
slice_bounds-f-end c =
    let some = eqb-false (length c.args.bytes.now) 0 (sym c.if-is_empty.ensures) in
    (given-row c.args.totals c.args.bytes.now some _ (sym c.in-Ok.ensures)).counted

pub solve-requires-clause-problems_bound : goal.solve-requires-clause-problems_bound
solve-requires-clause-problems_bound c =
    let some = eqb-false (length c.args.bytes.now) 0 (sym c.if-is_empty.ensures) in
    let r = given-row c.args.totals c.args.bytes.now some _ (sym c.in-Ok.ensures) in
    (omega (arith, c.if-totals-ge1000.false), r.short)

pub solve-requires-clause-coefficients_nonzero : goal.solve-requires-clause-coefficients_nonzero
solve-requires-clause-coefficients_nonzero c =
    let some = eqb-false (length c.args.bytes.now) 0 (sym c.if-is_empty.ensures) in
    let r = given-row c.args.totals c.args.bytes.now some _ (sym c.in-Ok.ensures) in
    (r.some, r.few)

pub returns-in-Ok : goal.returns-in-Ok
returns-in-Ok c =
    let a = c.args in
    let r = c.solve in
    let some = eqb-false (length c.args.bytes.now) 0 (sym c.if-is_empty.ensures) in
    let room : a.totals.problems < 1000 = omega (arith, c.if-totals-ge1000.false) in
    let s =
    given-step a.totals a.bytes.now some _ (sym c.in-Ok.ensures) room r.result a.line.now r.new.line r.ensures.answer
    r.ensures.line r.ensures.after in
    record { answer = s.0; line = s.1.0; after = s.1.1 }

pub returns-in-Err : goal.returns-in-Err
returns-in-Err c =
    let a = c.args in
    let some = eqb-false (length c.args.bytes.now) 0 (sym c.if-is_empty.ensures) in
    let room : a.totals.problems < 1000 = omega (arith, c.if-totals-ge1000.false) in
    let few : length a.bytes.now < 1399 = omega (arith, c.if-bytes-lt1399.true) in
    let e = refused-short a.totals a.bytes.now some _ (sym c.in-Err.ensures) room few in
    record { answer = rw e; line = rw e; after = few }

pub from_start-requires : goal.from_start-requires
from_start-requires c =
    let a = c.args in
    let some = eqb-false (length c.args.bytes.now) 0 (sym c.if-is_empty.ensures) in
    (offset_small a.totals c.requires, refused-place a.totals a.bytes.now some _ (sym c.in-Err.ensures))

pub returns-in-Err-2 : goal.returns-in-Err-2
returns-in-Err-2 c =
    let a = c.args in
    let r = c.put_refusal-in-Err-2 in
    let some = eqb-false (length c.args.bytes.now) 0 (sym c.if-is_empty.ensures) in
    let room : a.totals.problems < 1000 = omega (arith, c.if-totals-ge1000.false) in
    let long : 1399 ≤ length a.bytes.now = omega (arith, c.if-bytes-lt1399.false) in
    let o = refused-long a.totals a.bytes.now some _ (sym c.in-Err.ensures) room long in
    let s =
    stops a.totals a.bytes.now (refusal_line c.from_start.result) a.line.now r.new.line r.result
    (o ∙ ap (λ (x : Refusal). stop (refusal_line x)) (sym c.from_start.ensures)) r.ensures.answer r.ensures.line
    r.ensures.counts in
    record { answer = s.0; line = s.1.0; after = s.1.1 }
