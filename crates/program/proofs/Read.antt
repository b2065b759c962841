-- What is printed for a text, from what it reads as.
use Rattle.std.specs.Prelude.{Ok, Err}
use mathlib.Core.Path.{◌≡◌, sym, ap}
use mathlib.Core.List.{List}
use Prim.Native.Nat.{ℕ, ◌≤◌, ◌<◌}
use lib.ListN.{length, take}
use lib.Seq.{length-take-le}
use Rattle.refusal.specs.declared.Refusal.{Refusal}
use Rattle.text.specs.declared.Problem.{Problem}
use Rattle.text.specs.Form.{problem_of}
use Rattle.text.proofs.Accepted.{given_is_input}
use Rattle.text.proofs.Front.{row_long}
use Rattle.writer.specs.Output.{refusal_line}
use Rattle.program.specs.Printed.{printed_for, solved_text, printed_text}

-- of a problem: its first coefficients, 1 to 65
module _ (text : List ℕ) (P : Problem) (is : problem_of text ≡ Ok P) where
  pub given_counted : P.count ≡ length (take P.count P.coefficients)
  given_counted = sym (length-take-le P.count P.coefficients (row_long text P is))

  pub given-row : (0 < length (take P.count P.coefficients)) × (length (take P.count P.coefficients) ≤ 65)
  given-row = let R = (given_is_input text P is).1 in (R.some_coefficient, R.few_coefficients)

  pub given-few : P.count ≤ 65
  given-few = rw given_counted (given-row.1)

  pub given-text : printed_text text ≡ solved_text (take P.count P.coefficients) P.p P.n
  unfolding printed_text
  given-text = ap printed_for is

pub refused-text : (text : List ℕ) (r : Refusal) → problem_of text ≡ Err r → printed_text text ≡ refusal_line r
unfolding printed_text
refused-text text r is = ap printed_for is
