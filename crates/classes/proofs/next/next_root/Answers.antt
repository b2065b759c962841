-- `classes::next::next_root` meets its contract.
use mathlib.Core.Path.{sym}
use native.Mathlib.Omega.{arith}
use borrow.Author.Rules.{rules}
use Rattle.numbers.proofs.Saturated.{level_power}
use Rattle.classes.proofs.Faults.{faultless_entry}
use Rattle.classes.proofs.Checks.{checked-accepted}
use Rattle.classes.proofs.NextAnswers.{next-refused, next_past, next-none, next-found}
use Rattle.classes.proofs.next.next_root.Goals as goal

pub returns-in_err-m : goal.returns-in_err-m
returns-in_err-m c = search (rules, next-refused)

pub returns-then-m-start : goal.returns-then-m-start
returns-then-m-start c =
    let a = c.args in
    let C = checked-accepted a.p a.n a.residues.now a.levels.now _ (sym c.in_ok-m.ensures) in
    sym (next_past a.p a.n a.residues.now a.levels.now a.point _ C (omega (arith, c.from-start.ensures)))

pub least_member-r-requires : goal.least_member-r-requires
least_member-r-requires c =
    let a = c.args in
    let C = checked-accepted a.p a.n a.residues.now a.levels.now _ (sym c.in_ok-m.ensures) in (
      C.modulus.prime.two,
      C.same_length,
      (λ i h. level_power (omega (arith, C.modulus.prime.two))
          (faultless_entry a.p a.n a.residues.now a.levels.now C.same_length C.faultless i (omega (arith, C.same_length))).level_fits
          C.modulus.within),
      omega arith,
      omega (arith, C.modulus.power, C.modulus.within),
    )

pub returns-then-m-r : goal.returns-then-m-r
returns-then-m-r c =
    let a = c.args in
    let C = checked-accepted a.p a.n a.residues.now a.levels.now _ (sym c.in_ok-m.ensures) in
    sym (next-none a.p a.n a.residues.now a.levels.now a.point _ C (omega (arith, c.from-start.ensures)) _
    (rw c.from-start.ensures at c.least_member-r.ensures) c.if-m-r.true)

pub overflow_cast-result : goal.overflow_cast-result
overflow_cast-result c =
    let C = checked-accepted c.args.p c.args.n c.args.residues.now c.args.levels.now _ (sym c.in_ok-m.ensures) in
    record { fits = omega (arith, C.modulus.power, C.modulus.within) }

pub returns : goal.returns
returns c =
    let a = c.args in
    let C = checked-accepted a.p a.n a.residues.now a.levels.now _ (sym c.in_ok-m.ensures) in
    sym (next-found a.p a.n a.residues.now a.levels.now a.point _ C (omega (arith, c.from-start.ensures)) _
    (rw c.from-start.ensures at c.least_member-r.ensures) c.if-m-r.false)
