-- `writer::write_row` meets its contract.
use Rattle.std.proofs.Common.{◌≡◌, ◌≤◌, min, ◌++◌, ℕ, List, length, take, drop, arith, sym, ap, ◌∙◌, length-append}
use Rattle.std.proofs.lemmas.List.{take_min}
use Rattle.std.proofs.Math.Seq.{length-take-le}
use Rattle.writer.specs.inner.Place.{laid}
use Rattle.writer.specs.Output.{row_line}
use Rattle.writer.proofs.Laid.{laid_zero}
use Rattle.writer.proofs.write_row.Goals as goal

pub returns : goal.returns
returns c =
    let row = c.args.row.now in
    let old = c.args.text.now in
    let now = c.put_row.new.text in
    let line = row_line (take 32 row) in
    let count : c.min.result ≡ min 32 (length row) = omega arith in
    let same : take c.min.result row ≡ take 32 row = ap (λ (k : ℕ). take k row) count ∙ take_min 32 row in
    let bytes : c.put_row.result ≡ length line = c.put_row.ensures.bytes ∙ ap (λ (l : List ℕ). length (row_line l)) same in
    let text : now ≡ line ++ drop (length line) old =
    c.put_row.ensures.text ∙ ap (λ (l : List ℕ). laid 0 (row_line l) old) same ∙ laid_zero line old in
    let within : c.put_row.result ≤ length now =
    omega (arith, bytes, ap length text, length-append line (drop (length line) old)) in record {
      answer = bytes;
      text = text;
      counts = (within, sym (length-take-le c.put_row.result now within));
    }
