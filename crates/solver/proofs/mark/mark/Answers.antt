-- `solver::mark::mark` meets its contract.
use mathlib.Core.Path.{ap, ◌∙◌}
use native.Mathlib.Omega.{arith}
use borrow.Author.Rules.{rules}
use mir.Syntax.{w32}
use mir.Val.{SFits}
use Rattle.theory.specs.Polynomial.{reduce}
use Rattle.theory.proofs.Numbers.Reduction.{reduce-lt}
use Rattle.numbers.proofs.Words.{wide_read}
use Rattle.solver.specs.inner.Marks.{mark_at}
use Rattle.solver.proofs.Marks.{mark_top_from, mark_deep_from}
use Rattle.solver.proofs.mark.mark.Goals as goal

pub returns-then-entry-eq0 : goal.returns-then-entry-eq0
returns-then-entry-eq0 c = c.mark_of_digits.ensures ∙ mark_top_from _ _ _ c.if-entry-eq0.true

pub returns : goal.returns
returns c =
    let z = c.args.entry.residue in
    let f : SFits w32 z = search rules in
    c.mark_at.ensures
    ∙ ap (mark_at c.args.p c.args.d.now) (c.reduce.ensures ∙ ap (reduce c.args.p) (wide_read z f))
    ∙ mark_deep_from _ _ _ c.if-entry-eq0.false

pub mark_at-requires : goal.mark_at-requires
mark_at-requires c =
    let z = c.args.entry.residue in
    let f : SFits w32 z = search rules in
    (omega (arith, c.reduce.ensures, ap (reduce c.args.p) (wide_read z f), reduce-lt c.args.p c.requires.0 z), c.requires.1)
