-- `classes::usable::first_unusable` meets its contract. The invariant: the first i entries have no fault of their own.
use mathlib.Core.Path.{sym, ◌∙◌}
use native.Mathlib.Omega.{arith}
use Rattle.classes.proofs.Entries.{classes_same_length}
use Rattle.classes.proofs.Usables.{usable-is}
use Rattle.classes.proofs.usable.first_unusable.Goals as goal

pub returns-then-unusable : goal.returns-then-unusable
returns-then-unusable c =
    sym (usable-is c.args.p c.args.n _ c.loop-i.i (omega (arith, classes_same_length _ _ c.requires.2)) c.loop-i.invariant
    (λ h. sym c.unusable.ensures ∙ c.if-unusable.true))

pub returns : goal.returns
returns c =
    let long = classes_same_length c.args.residues.now c.args.levels.now c.requires.2 in
    sym (usable-is c.args.p c.args.n _ _ (omega (arith, long)) (λ j h. c.loop-i.invariant j (omega arith))
    (λ h. absurd (omega (arith, long))))
