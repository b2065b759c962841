-- `solver::digits::search_by_differences` meets its contract. The invariant: the digits below c at which the polynomial vanishes are found,
-- and the row at c is reached.
use mathlib.Core.Path.{◌≡◌, refl, sym, ◌∙◌}
use mathlib.Core.List.{List}
use Prim.Native.Nat.{ℕ, ◌%◌, ◌≤◌, ◌<◌}
use native.Mathlib.Omega.{arith}
use lib.ListN.{length, get_or, take, replicate, length-take}
use lib.Seq.{get_or-take, length_front, length-take-le}
use Rattle.theory.specs.Prime.{Prime}
use Rattle.theory.specs.Range.{passing}
use Rattle.theory.specs.Polynomial.{value}
use Rattle.theory.proofs.Lists.Fill.{part_back}
use Rattle.theory.proofs.Numbers.Prime.{prime_pos}
use Rattle.solver.specs.inner.Table.{Differences}
use Rattle.solver.proofs.FiniteDifferences.{row_below, row_first, row_next}
use Rattle.solver.proofs.Zeros.{found-on, found-off, found-room, found-few}
use Rattle.solver.proofs.digits.search_by_differences.Goals as goal
use Rattle.solver.proofs.digits.search_by_differences.Goals.{Then-table-eq0, then-table-eq0, else-table-eq0}

pub loop-c-init : goal.loop-c-init
unfolding passing
loop-c-init c =
    let n = length c.args.g.now in
    let r = c.first_row in (
      length_front (replicate 65 0) r.new.row n r.auto.row,
      record { long = refl; number = refl; entries = refl },
      rw (part_back n (replicate 65 0) r.new.row (omega arith) r.auto.row) r.ensures,
    )

module _ (g table : List ℕ) (p c : ℕ) (some : 0 < length g) (prime : Prime p) (fits : length g ≤ length table)
    (d : Differences p g c (take (length g) table)) where
  long : length (take (length g) table) ≡ length g
  long = length-take-le (length g) table fits

  -- the value at c stands first
  first : get_or table 0 0 ≡ value g c % p
  first =
      sym (get_or-take (length g) table 0 0 some) ∙ row_first p g (prime_pos prime) c _ (omega (arith, long, some)) d

-- where a digit is found, there is room for it
room : (c : Then-table-eq0) → c.loop-c.count < 64
room c =
    let pre = c.requires in
    let head = first c.args.g.now c.loop-c.table c.args.p c.loop-c.c pre.0 pre.2 (omega arith) c.loop-c.invariant.2 in
    omega (arith, pre.1, found-room pre.2 pre.4 c.loop-c.invariant.1 c.loop-c-test.true (sym head ∙ c.if-table-eq0.true))

pub advance-requires : goal.advance-requires
advance-requires c =
    (c.requires.3, row_below c.args.p c.args.g.now (prime_pos c.requires.2) c.loop-c.c _ c.loop-c.invariant.2)

pub loop-c-preserved : goal.loop-c-preserved
loop-c-preserved c =
    let pre = c.requires in
    let g = c.args.g.now in
    let table = c.loop-c.table in
    let r = c.advance in
    let head = first g table c.args.p c.loop-c.c pre.0 pre.2 (omega arith) c.loop-c.invariant.2 in (
      length_front table r.new.row (length g) r.auto.row ∙ c.loop-c.invariant.0,
      elim c.if-table-eq0.branch [
        | then-table-eq0 w ↦ rw (w.zeros-is, w.count-is)
            (found-on pre.2 pre.4 c.loop-c.invariant.1 c.loop-c-test.true (omega arith) (sym head ∙ w.if-table-eq0.true))
        | else-table-eq0 w ↦ rw (w.zeros-is, w.count-is)
            (found-off pre.2 pre.4 c.loop-c.invariant.1 (λ e. w.if-table-eq0.false (head ∙ e)))
      ],
      rw (part_back (length g) table r.new.row (omega arith) r.auto.row)
          (row_next c.args.p g (prime_pos pre.2) c.loop-c.c _ _
          (long g table c.args.p c.loop-c.c pre.0 pre.2 (omega arith) c.loop-c.invariant.2) c.loop-c.invariant.2 r.ensures),
    )

pub returns : goal.returns
returns c =
    let pre = c.requires in
    let all : c.loop-c.c ≡ c.args.p = omega arith in
    (omega (arith, pre.1, found-few pre.2 pre.4 c.loop-c.invariant.1 (omega arith)), rw all at c.loop-c.invariant.1.entries)

pub first_row-requires : goal.first_row-requires
first_row-requires c = (prime_pos c.requires.2, omega arith, simp length-take (omega arith))

pub offset_bounds-zeros-count : goal.offset_bounds-zeros-count
offset_bounds-zeros-count c = omega (arith, room (goal.at.offset_bounds-zeros-count c).Then-table-eq0)

pub bounds-zeros-count : goal.bounds-zeros-count
bounds-zeros-count c = omega (arith, room (goal.at.bounds-zeros-count c).Then-table-eq0)

pub overflow_add-count : goal.overflow_add-count
overflow_add-count c = omega (arith, room (goal.at.overflow_add-count c).Then-table-eq0)
