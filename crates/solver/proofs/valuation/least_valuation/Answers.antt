-- `solver::valuation::least_valuation` meets its contract.
use mathlib.Core.Path.{◌≡◌, ◌∙◌}
use Prim.Native.Nat.{◌<◌}
use native.Mathlib.Omega.{arith}
use borrow.Author.Rules.{rules}
use lib.ListN.{length}
use lib.Seq.{take-length}
use Rattle.theory.specs.Degree.{nonzero}
use Rattle.theory.proofs.Lists.Fill.{take_next}
use Rattle.theory.proofs.Lists.Index.{index_of}
use Rattle.solver.proofs.Lowest.{lowest_next, lowest-least}
use Rattle.solver.proofs.valuation.least_valuation.Goals as goal

pub loop-a-init : goal.loop-a-init
unfolding nonzero
loop-a-init c = search rules

pub loop-a-preserved : goal.loop-a-preserved
loop-a-preserved c =
    let g = c.args.g.now in
    let h : c.loop-a.a-index < length g = omega arith in
    rw (take_next g c.loop-a.a-index 0 h, lowest_next, ← c.loop-a.invariant) c.lower-best.ensures

pub returns : goal.returns
returns c =
    let g = c.args.g.now in
    let all : c.loop-a.a-index ≡ length g = omega arith in
    c.loop-a.invariant
    ∙ rw (all, take-length g) (lowest-least _ g (omega arith) c.requires.1 (λ a u.
    let (i, h, e) = index_of g 0 a u in omega (arith, c.type_inv.g i)))
