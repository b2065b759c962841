-- 2,925 bytes are enough for every answer: a line, and 64 classes.
use Rattle.std.specs.Prelude.{Result, Ok, Err}
use mathlib.Core.Path.{◌≡◌, refl, sym, ap, ◌∙◌}
use mathlib.Core.List.{List, ◌++◌}
use Prim.Native.Nat.{ℕ, ◌≤◌, ◌<◌}
use native.Mathlib.Omega.{arith}
use borrow.Author.Tests.{le-ltb}
use lib.IntN.{ℤ}
use lib.ListN.{length, length-append, take, drop}
use lib.Seq.{length-take-le}
use Rattle.refusal.specs.declared.Refusal.{Refusal}
use Rattle.refusal.specs.Rules.{Verdict, passes, refuses, filled, value_or}
use Rattle.solver.specs.Solve.{solution, marks_of}
use Rattle.text.specs.declared.Problem.{Problem}
use Rattle.text.specs.Form.{problem_of}
use Rattle.writer.specs.Output.{output_text, text_or}
use Rattle.writer.proofs.Line.{refusal_length}
use Rattle.program.specs.Printed.{judged, solved_text, printed_text, buffer_verdict, written_in}
use Rattle.program.proofs.Solved.{block-short}
use Rattle.program.proofs.Read.{given-row, given-text, refused-text}

solved_fits : (f : List ℤ) (p n : ℕ) → 0 < length f → length f ≤ 65 → length (solved_text f p n) ≤ 2925
unfolding solved_text
solved_fits f p n some few = go (judged p n) refl
  where
    go : (v : Verdict) → judged p n ≡ v → length (solved_text f p n) ≤ 2925
    go passes e = block-short f p n some few e
    go (refuses r) e =
        let line = ap (λ (v : Verdict). length (text_or v (output_text p n (solution f p n) (marks_of f p n)))) e in
        omega (arith, line, refusal_length r)

pub printed_fits : (text : List ℕ) → length (printed_text text) ≤ 2925
printed_fits text = go (problem_of text) refl
  where
    go : (a : Result Problem Refusal) → problem_of text ≡ a → length (printed_text text) ≤ 2925
    go (Ok P) e =
        let row = given-row text P e in
        omega (arith, ap length (given-text text P e), solved_fits (take P.count P.coefficients) P.p P.n row.0 row.1)
    go (Err r) e = omega (arith, ap length (refused-text text r e), refusal_length r)

-- a buffer of so many bytes is never too short
module _ (text old now : List ℕ) (long : 2925 ≤ length old) (r : Result ℕ Refusal)
    (answer-is : r ≡ written_in (printed_text text) (length old))
    (now-is : now ≡ filled (buffer_verdict (printed_text text) (length old)) (printed_text text) old) where
  fits : buffer_verdict (printed_text text) (length old) ≡ passes
  fits = rw (le-ltb (length old) (length (printed_text text)) (omega (arith, printed_fits text)))

  pub counted : r ≡ Ok (length (printed_text text))
  counted = answer-is ∙ ap (λ (v : Verdict). value_or v (length (printed_text text))) fits

  pub laid : now ≡ printed_text text ++ drop (length (printed_text text)) old
  laid = now-is ∙ ap (λ (v : Verdict). filled v (printed_text text) old) fits

  -- and the bytes counted are all there
  module _ (bytes : ℕ) (printed : bytes ≡ length (printed_text text)) where
    pub printed-within : bytes ≤ length now
    printed-within =
        omega (arith, printed, ap length laid, length-append (printed_text text) (drop (length (printed_text text)) old))

    pub printed-counted : bytes ≡ length (take bytes now)
    printed-counted = sym (length-take-le bytes now printed-within)
