-- `text::read_problem` meets its contract.
use Rattle.std.proofs.Common.{sym, ◌∙◌}
use Rattle.text.proofs.Answers.{passed_on}
use Rattle.text.proofs.FirstLine.{whole-refused, whole-longer, whole-given}
use Rattle.text.proofs.read_problem.Goals as goal

pub returns-in_err-problem : goal.returns-in_err-problem
returns-in_err-problem c =
    let r = c.in_err-problem.field-0.0 in
    passed_on c.from_residual.result r c.from_residual.ensures.1
    ∙ whole-refused c.args.text.now r (sym c.read_problem_at.ensures ∙ c.in_err-problem.was)

pub returns-then-problem-text : goal.returns-then-problem-text
returns-then-problem-text c =
    whole-longer c.args.text.now c.in_ok-problem.problem (sym c.read_problem_at.ensures ∙ c.in_ok-problem.was)
    c.if-problem-text.true

pub returns : goal.returns
returns c =
    whole-given c.args.text.now c.in_ok-problem.problem (sym c.read_problem_at.ensures ∙ c.in_ok-problem.was)
    c.if-problem-text.false
