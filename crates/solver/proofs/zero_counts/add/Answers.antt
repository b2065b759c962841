-- `solver::zero_counts::add` meets its contract. The invariant: x is added to the entries that are gone through.
use mathlib.Core.Path.{◌≡◌, refl, ap}
use Prim.Native.Nat.{ℕ, ◌+◌, ◌<◌}
use native.Mathlib.Omega.{arith}
use lib.Seq.{get_or-take, length-take-le}
use Rattle.theory.proofs.Lists.Overwritten.{written_none, written-up}
use Rattle.solver.proofs.Added.{plus-front}
use Rattle.solver.proofs.zero_counts.add.Goals as goal

pub loop-count-init : goal.loop-count-init
loop-count-init c = written_none _ 0 _

pub overflow_add-count : goal.overflow_add-count
overflow_add-count c =
    let i = c.loop-count.count-index in
    let low : i < c.args.end = omega (arith, length-take-le c.args.end c.args.counts.now c.requires.there) in
    record {
      fits = omega (
        arith,
        c.loop-count.invariant.above i (omega arith),
        get_or-take c.args.end c.args.counts.now i 0 low,
        c.requires.fits i low,
      );
    }

pub loop-count-preserved : goal.loop-count-preserved
loop-count-preserved c =
    let i = c.loop-count.count-index in
    written-up c.loop-count.invariant i _ (omega arith) (ap (λ (a : ℕ). a + c.args.x) (c.loop-count.invariant.above i (omega arith)))
    (omega arith) refl

pub returns : goal.returns
returns c =
    let all : c.loop-count.count-index ≡ c.args.end = omega (arith, length-take-le c.args.end c.args.counts.now c.requires.there) in
    plus-front (λ (k : ℕ). c.args.x) c.args.end c.requires.there (rw all at c.loop-count.invariant)
