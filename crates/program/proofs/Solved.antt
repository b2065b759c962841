-- The answer to a problem that is read, from what the solver and the writer say.
use Rattle.std.specs.Prelude.{Result, Ok, Err}
use mathlib.Core.Path.{◌≡◌, refl, sym, ap, ap₂, ◌∙◌}
use mathlib.Core.List.{List}
use Prim.Native.Nat.{ℕ, ◌+◌, ◌*◌, ◌^◌, ◌≤◌, ◌<◌}
use native.Mathlib.Omega.{arith}
use lib.IntN.{ℤ}
use lib.ListN.{length}
use Rattle.theory.specs.SignedClass.{SignedClass, residues_of, levels_of}
use Rattle.refusal.specs.declared.Refusal.{Refusal}
use Rattle.refusal.specs.Rules.{Verdict, passes, filled, value_or}
use Rattle.numbers.specs.inner.Usable.{Usable}
use Rattle.numbers.proofs.Rules.{passes-usable}
use Rattle.solver.specs.declared.Found.{Found}
use Rattle.solver.specs.Solve.{Lists, solution, solver_verdict, solved_of, marks_of}
use Rattle.solver.proofs.Answered.{refused-verdict, found-passes}
use Rattle.solver.proofs.Few.{Slots64, verdict_of_modulus, solution_few}
use Rattle.classes.specs.Rule7.{classes_of}
use Rattle.classes.proofs.Entries.{classes_of_parts}
use Rattle.writer.specs.Output.{output_text, refusal_line, text_or}
use Rattle.writer.specs.Written.{writer_verdict, written_of, refusal_verdict, refusal_written_of}
use Rattle.writer.proofs.Line.{refusal_length}
use Rattle.program.specs.Printed.{judged, solved_text, buffer_verdict, written_in}
use Rattle.program.proofs.Lengths.{output_length}
use Rattle.program.proofs.Accepted.{writer-12, residues-length, marks-length}

-- The line of a refusal

module _ (r : Refusal) (bytes : ℕ) where
  refusal-verdict : refusal_verdict bytes ≡ buffer_verdict (refusal_line r) bytes
  unfolding refusal_verdict
  refusal-verdict = rw (refusal_length r)

  -- where a text is that line
  module _ (t : List ℕ) (line : t ≡ refusal_line r) where
    pub refusal-answer : refusal_written_of bytes ≡ written_in t bytes
    unfolding refusal_written_of
    refusal-answer = ap₂ value_or refusal-verdict (sym (refusal_length r)) ∙ ap (λ (l : List ℕ). written_in l bytes) (sym line)

    pub refusal-text : (old : List ℕ) → filled (refusal_verdict bytes) (refusal_line r) old ≡ filled (buffer_verdict t bytes) t old
    refusal-text old =
        ap (λ (v : Verdict). filled v (refusal_line r) old) refusal-verdict
        ∙ ap (λ (l : List ℕ). filled (buffer_verdict l bytes) l old) (sym line)

-- A problem with coefficients f, and three lists of 64 slots

module _ (f : List ℤ) (p n : ℕ) (some : 0 < length f) (few : length f ≤ 65) where
  module _ (given : Lists) (slots : Slots64 given) where
    verdict-judged : solver_verdict f p n given ≡ judged p n
    unfolding judged
    verdict-judged = verdict_of_modulus f p n some few given slots

    -- where the solver found the list, p and n are accepted
    pub judged-passes : (F : Found) → solved_of f p n given ≡ Ok F → judged p n ≡ passes
    judged-passes F e = sym verdict-judged ∙ found-passes f p n given {k = F.classes} {c = F.roots} {l = F.live} e

    -- and where it refused
    pub refused : (r : Refusal) → solved_of f p n given ≡ Err r → solved_text f p n ≡ refusal_line r
    unfolding solved_text
    refused r e =
        ap (λ (v : Verdict). text_or v (output_text p n (solution f p n) (marks_of f p n)))
        (sym verdict-judged ∙ refused-verdict f p n given r e)

  -- where p and n are accepted
  module _ (passed : judged p n ≡ passes) where
    accepted-usable : Usable p n (p ^ n)
    unfolding judged
    accepted-usable = passes-usable p n passed (p ^ n) refl

    pub number-few : length (solution f p n) ≤ 64
    number-few = solution_few f accepted-usable few

    abbrev block : List ℕ
    block = output_text p n (solution f p n) (marks_of f p n)

    text-is : solved_text f p n ≡ block
    unfolding solved_text
    text-is = ap (λ (v : Verdict). text_or v block) passed

    block-length : length block ≡ 45 * (length (solution f p n) + 1)
    block-length = output_length p n (solution f p n) (marks_of f p n) (marks-length f p n (p ^ n) accepted-usable)

    pub block-short : length (solved_text f p n) ≤ 2925
    block-short = rw text-is (omega (arith, block-length, number-few))

    verdict-is : (bytes : ℕ) → writer_verdict p n (residues_of (solution f p n)) (levels_of (solution f p n)) (marks_of f p n) bytes
        ≡ buffer_verdict block bytes
    verdict-is bytes = writer-12 f p n (p ^ n) accepted-usable bytes ∙ rw block-length

    written-answer : (bytes : ℕ)
        → written_of p n (residues_of (solution f p n)) (levels_of (solution f p n)) (marks_of f p n) bytes
        ≡ written_in (solved_text f p n) bytes
    unfolding written_of
    written-answer bytes =
        ap₂ value_or (verdict-is bytes)
        (ap (λ (k : ℕ). 45 * (k + 1)) (residues-length f p n (p ^ n) accepted-usable) ∙ sym block-length)
        ∙ ap (λ (t : List ℕ). written_in t bytes) (sym text-is)

    written-text : (old : List ℕ)
        → filled (writer_verdict p n (residues_of (solution f p n)) (levels_of (solution f p n)) (marks_of f p n) (length old))
        (output_text p n (classes_of (residues_of (solution f p n)) (levels_of (solution f p n))) (marks_of f p n)) old
        ≡ filled (buffer_verdict (solved_text f p n) (length old)) (solved_text f p n) old
    written-text old =
        ap₂ (λ (v : Verdict) (t : List ℕ). filled v t old) (verdict-is (length old))
        (ap (λ (L : List SignedClass). output_text p n L (marks_of f p n)) (classes_of_parts (solution f p n)))
        ∙ ap (λ (t : List ℕ). filled (buffer_verdict t (length old)) t old) (sym text-is)

    -- the writer on these lists
    module _ (residues : List ℤ) (levels marks : List ℕ) (er : residues ≡ residues_of (solution f p n))
        (el : levels ≡ levels_of (solution f p n)) (em : marks ≡ marks_of f p n) where
      pub block-answer : (r : Result ℕ Refusal) (bytes : ℕ) → r ≡ written_of p n residues levels marks bytes
          → r ≡ written_in (solved_text f p n) bytes
      block-answer r bytes e =
          let w : r ≡ written_of p n (residues_of (solution f p n)) (levels_of (solution f p n)) (marks_of f p n) bytes =
          rw (er, el, em) at e in
          w ∙ written-answer bytes

      pub block-text : (old now : List ℕ)
          → now ≡ filled (writer_verdict p n residues levels marks (length old)) (output_text p n (classes_of residues levels) marks) old
          → now ≡ filled (buffer_verdict (solved_text f p n) (length old)) (solved_text f p n) old
      block-text old now e =
          let w : now
          ≡ filled (writer_verdict p n (residues_of (solution f p n)) (levels_of (solution f p n)) (marks_of f p n) (length old))
          (output_text p n (classes_of (residues_of (solution f p n)) (levels_of (solution f p n))) (marks_of f p n)) old =
          rw (er, el, em) at e in
          w ∙ written-text old
