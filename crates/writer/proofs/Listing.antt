-- The lines of the classes, laid one after another behind the first line.
use mathlib.Core.Path.{◌≡◌, sym, ap, ap₂, ◌∙◌}
use mathlib.Core.List.{List, ◌++◌}
use Prim.Native.Nat.{ℕ, ◌+◌, ◌*◌, ◌^◌, ◌≤◌, ◌<◌}
use native.Mathlib.Omega.{arith}
use lib.IntN.{ℤ, pos}
use lib.ListN.{length, take, drop}
use lib.Seq.{length-take-le}
use Rattle.theory.specs.ClassList.{member_total}
use Rattle.theory.specs.SignedClass.{levels_of}
use Rattle.classes.specs.Rule7.{classes_of}
use Rattle.classes.proofs.Entries.{classes_same_length, classes_levels}
use Rattle.writer.specs.inner.Place.{laid}
use Rattle.classes.specs.inner.Usable.{UsableMarked}
use Rattle.writer.specs.Output.{line, class_lines, output_text}
use Rattle.writer.proofs.Laid.{laid_next, laid_nothing, laid_zero}
use Rattle.writer.proofs.Line.{line-length}
use Rattle.writer.proofs.ClassLines.{lines_to, line_at, lines_length, lines_next}

module _ (p n : ℕ) (residues : List ℤ) (levels marks : List ℕ) (fit : UsableMarked p n residues levels marks (p ^ n)) (text : List ℕ) where
  lines-to-length : (i : ℕ) → i ≤ length residues → length (lines_to p n residues levels marks i) ≡ 45 * i
  lines-to-length i h =
      let r : length (take i residues) ≡ i = length-take-le i residues h in
      let t : length (take i levels) ≡ i = length-take-le i levels (omega (arith, fit.same_length)) in
      let m : length (take i marks) ≡ i = length-take-le i marks (omega (arith, fit.same_marks)) in
      lines_length p n (take i residues) (take i levels) (take i marks) (t ∙ sym r) (m ∙ sym r) ∙ ap (λ (x : ℕ). 45 * x) r

  pub lines-begin : text ≡ laid 45 (lines_to p n residues levels marks 0) text
  unfolding class_lines classes_of
  lines-begin = laid_nothing 45 text

  -- one line more
  pub lines-again : (i : ℕ) (now next : List ℕ) → i < length residues → 45 * (length residues + 1) ≤ length text
      → now ≡ laid 45 (lines_to p n residues levels marks i) text
      → next ≡ laid (45 * (i + 1)) (line_at p n residues levels marks i) now
      → next ≡ laid 45 (lines_to p n residues levels marks (i + 1)) text
  lines-again i now next h room e f =
      let before = lines_to p n residues levels marks i in
      let this = line_at p n residues levels marks i in
      let place : 45 * (i + 1) ≡ 45 + length before = omega (arith, lines-to-length i (omega arith)) in
      f
      ∙ ap (laid (45 * (i + 1)) this) e
      ∙ laid_next 45 before text this (45 * (i + 1)) place (omega arith)
      ∙ ap (λ (l : List ℕ). laid 45 l text)
      (sym (lines_next p n residues levels marks i h (omega (arith, fit.same_length)) (omega (arith, fit.same_marks))))

  -- the first line and those of the classes
  pub output-laid : (first last : List ℕ) → 45 * (length residues + 1) ≤ length text
      → first ≡ laid 0 (line (pos p) n (length residues) (member_total p n levels)) text
      → last ≡ laid 45 (class_lines p n (classes_of residues levels) marks) first
      → last ≡ output_text p n (classes_of residues levels) marks ++ drop (length (output_text p n (classes_of residues levels) marks)) text
  unfolding output_text
  output-laid first last room e f =
      let cs = classes_of residues levels in
      let head = line (pos p) n (length residues) (member_total p n levels) in
      let same : head ≡ line (pos p) n (length cs) (member_total p n (levels_of cs)) =
      ap₂ (λ (k roots : ℕ). line (pos p) n k roots) (sym (classes_same_length residues levels fit.same_length))
      (ap (member_total p n) (sym (classes_levels residues levels fit.same_length))) in
      let place : 45 ≡ 0 + length head = omega (arith, line-length (pos p) n (length residues) (member_total p n levels)) in
      f
      ∙ ap (laid 45 (class_lines p n cs marks)) e
      ∙ laid_next 0 head text (class_lines p n cs marks) 45 place (omega arith)
      ∙ ap (λ (l : List ℕ). laid 0 (l ++ class_lines p n cs marks) text) same
      ∙ laid_zero (output_text p n cs marks) text
