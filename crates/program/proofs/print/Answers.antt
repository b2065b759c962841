-- `program::print` meets its contract.
use mathlib.Core.Path.{sym, ◌∙◌}
use Rattle.program.proofs.Solved.{refusal-answer, refusal-text}
use Rattle.program.proofs.Read.{given_counted, given-row, given-few, given-text, refused-text}
use Rattle.program.proofs.print.Goals as goal

pub shared_ref_as_front-f : goal.shared_ref_as_front-f
shared_ref_as_front-f c = given-few c.args.text.now _ (sym c.in-Ok.ensures)

pub slice_bounds-f-end : goal.slice_bounds-f-end
slice_bounds-f-end c = given_counted c.args.text.now _ (sym c.in-Ok.ensures)

pub print_problem-requires : goal.print_problem-requires
print_problem-requires c = given-row c.args.text.now _ (sym c.in-Ok.ensures)

pub returns-in-Ok : goal.returns-in-Ok
returns-in-Ok c =
    let text = given-text c.args.text.now _ (sym c.in-Ok.ensures) in
    let r = c.print_problem.ensures in rw text (record { answer = r.answer; out = r.out })

pub returns-in-Err : goal.returns-in-Err
returns-in-Err c =
    let line = refused-text c.args.text.now _ (sym c.in-Err.ensures) in record {
      answer = c.write_refusal.ensures.answer ∙ refusal-answer c.in-Err.r _ _ line;
      out = c.write_refusal.ensures.text ∙ refusal-text c.in-Err.r _ _ line _;
    }
