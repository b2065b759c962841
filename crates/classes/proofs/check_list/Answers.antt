-- `classes::check_list` meets its contract.
use Rattle.std.specs.Prelude.{Err}
use mathlib.Core.Path.{sym, ap, ◌∙◌}
use borrow.Author.Rules.{rules}
use Prim.Native.Nat.{ℕ}
use Rattle.refusal.specs.declared.Refusal.TheVariants.{Lengths}
use Rattle.numbers.proofs.Rules.{usable}
use Rattle.classes.proofs.Checks.{checked-modulus, checked-6, checked-7, checked-passes}
use Rattle.classes.proofs.check_list.Goals as goal

pub returns-in_err-m : goal.returns-in_err-m
returns-in_err-m c = search (rules, checked-modulus)

pub returns-then-residues-levels : goal.returns-then-residues-levels
returns-then-residues-levels c =
    let a = c.args in
    let U = usable a.p a.n _ (sym c.in_ok-m.ensures) in
    ap (λ (x : ℕ). Err (Lengths x)) c.min.ensures ∙ sym (checked-6 a.p a.n a.residues.now a.levels.now U c.if-residues-levels.true)

pub first_fault-i-requires : goal.first_fault-i-requires
first_fault-i-requires c =
    let U = usable c.args.p c.args.n _ (sym c.in_ok-m.ensures) in
    (U.prime.two, U.within, c.if-residues-levels.false)

pub returns-then-i-residues : goal.returns-then-i-residues
returns-then-i-residues c =
    let a = c.args in
    let U = usable a.p a.n _ (sym c.in_ok-m.ensures) in
    sym (checked-7 a.p a.n a.residues.now a.levels.now U c.if-residues-levels.false _ c.first_fault-i.ensures c.if-i-residues.true)

pub returns : goal.returns
returns c =
    let a = c.args in
    let U = usable a.p a.n _ (sym c.in_ok-m.ensures) in
    sym (checked-passes a.p a.n a.residues.now a.levels.now U c.if-residues-levels.false _ c.first_fault-i.ensures c.if-i-residues.false)
