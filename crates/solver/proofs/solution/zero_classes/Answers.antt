-- `solver::solution::zero_classes` meets its contract.
use native.Mathlib.Omega.{arith}
use Rattle.solver.proofs.Top.{top-at, top-most, top-few, top-sorted}
use Rattle.solver.proofs.solution.zero_classes.Goals as goal

pub settle-settled-requires : goal.settle-settled-requires
settle-settled-requires c =
    let few = c.requires.1 in
    rw (c.copy_from_slice.ensures.after, c.new-over.ensures, c.everything-everything.ensures) (top-at c.requires.0 few c.requires.2, omega (arith, c.requires.3, top-most c.requires.0 few c.requires.2))

pub sort-requires : goal.sort-requires
sort-requires c =
    let few = top-few c.requires.0 c.requires.1 c.requires.2 (rw (c.copy_from_slice.ensures.after, c.new-over.ensures, c.everything-everything.ensures) at c.settle-settled.ensures.classes) in
    omega (arith, few, c.settle-settled.auto.out, c.requires.3)

pub returns : goal.returns
returns c =
    let few = c.requires.1 in
    let done = rw (c.copy_from_slice.ensures.after, c.new-over.ensures, c.everything-everything.ensures) at c.settle-settled.ensures.classes in record {
      classes = (top-few c.requires.0 few c.requires.2 done, top-sorted c.requires.0 few c.requires.2 done _ c.sort.ensures.permutation c.sort.ensures.sorted);
      live = rw (c.copy_from_slice.ensures.after, c.new-over.ensures, c.everything-everything.ensures) at c.settle-settled.ensures.live;
    }
