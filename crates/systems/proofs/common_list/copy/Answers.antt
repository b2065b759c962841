-- `systems::common_list::copy` meets its contract.
use Rattle.std.proofs.Common.{◌≡◌, ◌++◌, length, take, drop, set, append-nil, ap, ap₂, ◌∙◌, arith}
use Rattle.std.proofs.lemmas.List.{drop_all}
use lib.Seq.{take-length}
use Rattle.theory.proofs.Lists.Fill.{copied_next}
use Rattle.systems.proofs.common_list.copy.Goals as goal

pub loop-i-preserved : goal.loop-i-preserved
loop-i-preserved g c =
    let from = c.args.from.now in
    let to = c.args.to.now in
    let i = c.loop-i.i in
    let x = c.index-from-i.result in
    ap (λ l. set l i x) c.loop-i.invariant
    ∙ ap (set (take i from ++ drop i to) i) c.index-from-i.is
    ∙ copied_next from to i x c.loop-i-test.true (omega (arith, c.requires, c.loop-i-test.true))

pub returns : goal.returns
returns g c =
    let from = c.args.from.now in
    let to = c.args.to.now in
    let all : c.loop-i.i ≡ length from = omega arith in
    c.loop-i.invariant
    ∙ ap (λ k. take k from ++ drop k to) all
    ∙ ap₂ (λ x y. x ++ y) (take-length from) (drop_all (length from) to (omega (arith, c.requires)))
    ∙ append-nil from
