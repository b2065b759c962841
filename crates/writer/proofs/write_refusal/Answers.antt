-- `writer::write_refusal` meets its contract.
use mathlib.Core.Path.{◌≡◌, ap, ◌∙◌}
use Prim.Native.Nat.{ℕ}
use lib.ListN.{length}
use Rattle.refusal.specs.declared.Refusal.TheVariants.{BufferTooSmall}
use Rattle.columns.specs.Column.{column}
use Rattle.writer.specs.inner.Place.{laid}
use Rattle.writer.specs.Output.{refusal_line}
use Rattle.writer.specs.Written.{refusal_verdict}
use Rattle.writer.proofs.Line.{refusal_laid}
use Rattle.writer.proofs.Answers.{refused-answer, refused-text, passed-answer, passed-text}
use Rattle.writer.proofs.Answers.{refusal-short, refusal-fits, refusal-answer}
use Rattle.writer.proofs.write_refusal.Goals as goal

pub returns-then-text-lt23 : goal.returns-then-text-lt23
returns-then-text-lt23 c =
    let a = c.args in
    let l = a.text.now in
    let v = refusal_verdict (length l) in
    let e : v ≡ _ = refusal-short (length l) c.if-text-lt23.true in record {
      answer = refused-answer v (BufferTooSmall 23) 23 e ∙ refusal-answer (length l);
      text = refused-text v (BufferTooSmall 23) (refusal_line a.refusal) l e;
    }

pub returns : goal.returns
returns c =
    let a = c.args in
    let l = a.text.now in
    let l₁ = c.put_column.new.text in
    let v = refusal_verdict (length l) in
    let e : v ≡ _ = refusal-fits (length l) c.if-text-lt23.false in record {
      answer = passed-answer v 23 e ∙ refusal-answer (length l);
      text = refusal_laid a.refusal l l₁ c.put_column-2.new.text c.if-text-lt23.false
          (c.put_column.ensures ∙ ap (λ (x : ℕ). laid 0 (column 11 x) l) c.number.ensures)
          (c.put_column-2.ensures ∙ ap (λ (x : ℕ). laid 11 (column 11 x) l₁) c.place.ensures)
          ∙ passed-text v (refusal_line a.refusal) l e;
    }
