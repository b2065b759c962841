-- `rootmap::check_size` meets its contract.
use mathlib.Core.Path.{sym, ap}
use Rattle.theory.specs.RootMap.{map_length}
use Rattle.refusal.specs.Rules.{Verdict, value_or}
use Rattle.rootmap.proofs.Verdicts.{too_large, wrong_length, size_fits}
use Rattle.rootmap.proofs.check_size.Goals as goal

pub returns-then-m-gt524288 : goal.returns-then-m-gt524288
returns-then-m-gt524288 c = sym (ap (λ (v : Verdict). value_or v tt) (too_large c.args.m c.args.bytes c.if-m-gt524288.true))

pub returns-then-bytes-m : goal.returns-then-bytes-m
unfolding map_length
returns-then-bytes-m c =
    sym (ap (λ (v : Verdict). value_or v tt) (wrong_length c.args.m c.args.bytes c.if-m-gt524288.false c.if-bytes-m.true))

pub returns : goal.returns
unfolding map_length
returns c = sym (ap (λ (v : Verdict). value_or v tt) (size_fits c.args.m c.args.bytes c.if-m-gt524288.false c.if-bytes-m.false))
