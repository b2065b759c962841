-- Lines in the memory for a line, as the writer leaves them.
use Rattle.std.specs.Prelude.{Result, Ok}
use mathlib.Core.Path.{◌≡◌, sym, ap, ◌∙◌}
use mathlib.Core.List.{List}
use Prim.Native.Nat.{ℕ, ◌≤◌}
use native.Mathlib.Omega.{arith}
use borrow.Author.Tests.{le-ltb}
use lib.ListN.{length, length-append, take, drop}
use lib.Seq.{take_at, take_all, length-take-le}
use Rattle.refusal.specs.declared.Refusal.{Refusal}
use Rattle.refusal.specs.Rules.{Verdict, passes, filled, value_or}
use Rattle.writer.specs.Output.{refusal_line, row_line}
use Rattle.writer.specs.Written.{refusal_verdict, refusal_written_of}
use Rattle.writer.proofs.Line.{refusal_length}
use Rattle.report.specs.inner.Outcomes.{with_line, Counted}

-- a line that is written at the front is all there
pub line-counted : (line old now : List ℕ) (bytes : ℕ) → bytes ≡ length line → now ≡ with_line line old → Counted bytes now
line-counted line old now bytes e is =
    let within : bytes ≤ length now = omega (arith, ap length is, length-append line (drop (length line) old)) in
    (within, sym (length-take-le bytes now within))

pub line_taken : (line old now : List ℕ) (bytes : ℕ) → bytes ≡ length line → now ≡ with_line line old → take bytes now ≡ line
line_taken line old now bytes e is = ap (take bytes) is ∙ take_at line (drop (length line) old) bytes (sym e)

-- a row of at most 32 numbers is written whole
pub row_whole : (row : List ℕ) → length row ≤ 32 → row_line (take 32 row) ≡ row_line row
row_whole row h = ap row_line (take_all 32 row h)

-- the writer's answer on a refusal, and what it leaves, in memory for 23 bytes
module _ (r : Refusal) (old now : List ℕ) (long : 23 ≤ length old) (a : Result ℕ Refusal) (answer-is : a ≡ refusal_written_of (length old))
    (now-is : now ≡ filled (refusal_verdict (length old)) (refusal_line r) old) where
  fits : refusal_verdict (length old) ≡ passes
  unfolding refusal_verdict
  fits = rw (le-ltb (length old) 23 long)

  pub refusal-counted : a ≡ Ok 23
  unfolding refusal_written_of
  refusal-counted = answer-is ∙ ap (λ (v : Verdict). value_or v 23) fits

  pub refusal-line : now ≡ with_line (refusal_line r) old
  refusal-line = now-is ∙ ap (λ (v : Verdict). filled v (refusal_line r) old) fits

  pub refusal-bytes : (bytes : ℕ) → a ≡ Ok bytes → bytes ≡ length (refusal_line r)
  refusal-bytes bytes e =
      let f : Ok bytes ≡ Ok 23 = sym e ∙ refusal-counted in
      let same : bytes ≡ 23 = cc f in
      same ∙ sym (refusal_length r)
