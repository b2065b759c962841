-- `writer::row::put_row` meets its contract.
use Rattle.std.proofs.Common.{◌≡◌, length, sym, arith}
use Rattle.writer.proofs.RowLine.{row_begin, row-again, row-end, row_length}
use Rattle.writer.proofs.row.put_row.Goals as goal

pub loop-i-init : goal.loop-i-init
loop-i-init c = row_begin c.args.row.now c.args.text.now

pub loop-i-preserved : goal.loop-i-preserved
loop-i-preserved c =
    let a = c.args in
    let l = c.loop-i in
    row-again a.row.now l.i a.text.now l.text c.requires l.invariant c.put_column.new.text c.loop-i-test.true c.put_column.ensures

pub returns : goal.returns
returns c =
    let a = c.args in
    let l = c.loop-i in
    let all : l.i ≡ length a.row.now = omega arith in record {
      bytes = sym (row_length a.row.now);
      text = rw all at (row-end a.row.now l.i a.text.now l.text c.requires l.invariant all);
    }
