-- `numbers::residue::reduce` meets its contract. Of a negative x = −(k + 1) the complement !x is k.
use mathlib.Core.Path.{sym, ap, ◌∙◌}
use Rattle.theory.specs.Polynomial.{reduce}
use Rattle.numbers.proofs.Words.{negative, not_negative}
use Rattle.numbers.proofs.residue.reduce.Goals as goal

pub returns-then-x-lt0 : goal.returns-then-x-lt0
unfolding reduce
returns-then-x-lt0 c =
    let v = negative c.args.x c.ranges.x c.if-x-lt0.true in
    rw v.reads at c.complement.ensures ∙ sym (ap (reduce c.args.m) v.is)

pub returns-else-x-lt0 : goal.returns-else-x-lt0
unfolding reduce
returns-else-x-lt0 c =
    let v = not_negative c.args.x c.ranges.x c.if-x-lt0.false in
    rw v.reads at c.remainder.ensures ∙ sym (ap (reduce c.args.m) v.is)
