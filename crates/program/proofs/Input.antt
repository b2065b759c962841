-- What is printed for the input text of a problem.
use mathlib.Core.Path.{◌≡◌, refl, ap, ◌∙◌}
use mathlib.Core.List.{List, []}
use Prim.Native.Nat.{ℕ, ◌-◌}
use lib.IntN.{ℤ, pos}
use lib.ListN.{length, replicate}
use lib.Seq.{take_at}
use Rattle.numbers.specs.inner.Usable.{Usable}
use Rattle.numbers.proofs.Rules.{usable_leads}
use Rattle.refusal.specs.Rules.{Verdict}
use Rattle.solver.specs.Solve.{solution, marks_of}
use Rattle.text.specs.Input.{input_text}
use Rattle.text.proofs.Input.{Readable, input_is_read}
use Rattle.writer.specs.Output.{output_text, text_or}
use Rattle.program.specs.Printed.{judged, solved_text, printed_for, printed_text}

-- of a problem that can be read: its classes, or the solver's refusal
pub printed_of_input : (p n : ℕ) (f : List ℤ) → Readable p n f → printed_text (input_text p n f) ≡ solved_text f p n
unfolding printed_text
printed_of_input p n f R =
    ap printed_for (input_is_read p n f R)
    ∙ ap (λ (l : List ℤ). solved_text l p n) (take_at f (replicate (65 - length f) (pos 0)) (length f) refl)

-- and where p and n are accepted, its classes
pub printed_of_usable : (p n m : ℕ) (f : List ℤ) → Readable p n f → Usable p n m
    → printed_text (input_text p n f) ≡ output_text p n (solution f p n) (marks_of f p n)
unfolding solved_text judged
printed_of_usable p n m f R U =
    printed_of_input p n f R
    ∙ ap (λ (v : Verdict). text_or v (output_text p n (solution f p n) (marks_of f p n))) (usable_leads U [])
