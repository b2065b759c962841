-- `solver::taylor::taylor` meets its contract.
use mathlib.Core.Path.{◌≡◌, sym, ◌∙◌}
use Prim.Native.Nat.{suc, ◌-◌, ◌<◌}
use native.Mathlib.Nat.{zero-mod}
use native.Mathlib.Omega.{arith}
use lib.ListN.{length, get_or, drop, length-drop}
use lib.Seq.{drop-cons, drop-length}
use Rattle.theory.specs.Taylor.{taylor}
use Rattle.solver.proofs.Shift.{taylor-step}
use Rattle.solver.proofs.taylor.taylor.Goals as goal

pub loop-j-init : goal.loop-j-init
unfolding taylor
loop-j-init c =
    let a = c.args in
    record { at = λ i l. c.requires.4 i ∙ sym (rw (drop-length a.h.now) (zero-mod a.m)) }

pub loop-j-preserved : goal.loop-j-preserved
loop-j-preserved c =
    let step = c.horner_step in
    let a = c.args in
    let j = c.loop-j.j in
    let h : j - 1 < length a.h.now = omega arith in
    let one : suc (j - 1) ≡ j = omega arith in
    rw (drop-cons a.h.now (j - 1) 0 h, one) (taylor-step (get_or a.h.now (j - 1) 0) a.c (drop j a.h.now) c.loop-j.invariant
    (omega (arith, c.min-top.ensures, length-drop j a.h.now)) step.ensures)
