-- `stepping::ask` meets its contract.
use native.Mathlib.Omega.{arith}
use mathlib.Core.Path.{ap, ◌∙◌}
use Prim.Native.Nat.{ℕ, ◌<◌}
use lib.ListN.{length}
use Rattle.theory.specs.Stepping.{following}
use Rattle.std.specs.Prelude.{Result, Option}
use Rattle.refusal.specs.declared.Refusal.{Refusal}
use Rattle.classes.specs.Next.{answer_of}
use Rattle.stepping.specs.Encoded.{encode}
use Rattle.stepping.proofs.Answers.{gone-none, gone-next, reached}
use Rattle.stepping.proofs.ask.Goals as goal

pub loop-answer-init : goal.loop-answer-init
loop-answer-init c = gone-none _ _ _

pub step-requires : goal.step-requires
step-requires c =
    rw c.next_root-next.ensures
    (reached c.args.p c.args.n c.args.residues.now c.args.levels.now c.requires c.loop-answer.point)

pub loop-answer-preserved : goal.loop-answer-preserved
loop-answer-preserved c =
    let l = c.loop-answer in
    let n = c.next_root-next in
    let h : l.answer-index < length c.args.answers.now = omega arith in
    gone-next _ c.args.start l.answer-index l.point _ _ c.args.answers.now l.answers h l.invariant
    (c.step.ensures.answer ∙ ap (λ (x : Result (Option ℕ) Refusal). encode (answer_of x)) n.ensures)
    (c.step.ensures.point ∙ ap (λ (x : Result (Option ℕ) Refusal). following (answer_of x) l.point) n.ensures)
