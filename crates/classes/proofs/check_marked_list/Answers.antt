-- `classes::check_marked_list` meets its contract.
use Rattle.std.specs.Prelude.{Err}
use mathlib.Core.Path.{◌≡◌, sym, ap, ◌∙◌}
use mathlib.Core.Logic.{⊎_elim}
use Prim.Native.Nat.{ℕ, min}
use native.Mathlib.Omega.{arith}
use borrow.Author.Rules.{rules}
use lib.ListN.{length}
use Rattle.refusal.specs.declared.Refusal.TheVariants.{Lengths}
use Rattle.numbers.proofs.Rules.{usable}
use Rattle.classes.proofs.MarkedChecks.{marked-modulus, marked-6, marked-7, marked-passes, high_mark_is}
use Rattle.classes.proofs.check_marked_list.Goals as goal

pub returns-in_err-m : goal.returns-in_err-m
returns-in_err-m c = search (rules, marked-modulus)

pub returns-then-k-levels : goal.returns-then-k-levels
returns-then-k-levels c =
    let a = c.args in
    let U = usable a.p a.n _ (sym c.in_ok-m.ensures) in
    let e : c.min-then-k-levels.result ≡ min (length a.residues.now) (min (length a.levels.now) (length a.marks.now)) = omega arith in
    ap (λ (x : ℕ). Err (Lengths x)) e
    ∙ sym (marked-6 a.p a.n a.residues.now a.levels.now a.marks.now U (λ d f. ⊎_elim (λ w. w d) (λ w. w.1 f) c.then-k-levels.either))

pub first_fault-i-requires : goal.first_fault-i-requires
first_fault-i-requires c =
    let U = usable c.args.p c.args.n _ (sym c.in_ok-m.ensures) in
    (U.prime.two, U.within, c.if-k-levels.false)

pub returns-then-first-k : goal.returns-then-first-k
returns-then-first-k c =
    let a = c.args in
    let U = usable a.p a.n _ (sym c.in_ok-m.ensures) in
    sym (marked-7 a.p a.n a.residues.now a.levels.now a.marks.now U c.if-k-levels.false c.if-k-marks.false
    _ _ _ c.first_fault-i.ensures
    (high_mark_is a.residues.now a.marks.now c.if-k-marks.false c.unwrap_or-j.ensures c.first_high_mark.ensures)
    c.min-first.ensures c.if-first-k.true)

pub returns : goal.returns
returns c =
    let a = c.args in
    let U = usable a.p a.n _ (sym c.in_ok-m.ensures) in
    sym (marked-passes a.p a.n a.residues.now a.levels.now a.marks.now U c.if-k-levels.false c.if-k-marks.false
    _ _ _ c.first_fault-i.ensures
    (high_mark_is a.residues.now a.marks.now c.if-k-marks.false c.unwrap_or-j.ensures c.first_high_mark.ensures)
    c.min-first.ensures c.if-first-k.false)
