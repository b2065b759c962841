-- `stepping::ask` meets its contract. The invariant: the answers so far are written, and `point` is the following call's.
use Prim.Native.Nat.{ℕ}
use Rattle.classes.specs.Next.{next_of, answer_of}
use Rattle.stepping.proofs.Answers.{Gone}
use Rattle.stepping.proofs.ask.Given as goal

abbrev pub invariant-loop-answer : goal.invariant-loop-answer
invariant-loop-answer l =
    Gone (λ (q : ℕ). answer_of (next_of l.p l.n l.residues l.levels q)) l.start l.answer-index l.point l.initial.answers l.answers
