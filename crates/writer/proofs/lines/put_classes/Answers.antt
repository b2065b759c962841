-- `writer::lines::put_classes` meets its contract.
use Rattle.writer.proofs.Listing.{lines-begin, lines-again}
use Rattle.writer.proofs.lines.put_classes.Goals as goal

pub loop-i-init : goal.loop-i-init
loop-i-init c =
    let a = c.args in
    lines-begin a.p a.n a.residues.now a.levels.now a.marks.now c.requires.0 a.text.now

pub loop-i-preserved : goal.loop-i-preserved
loop-i-preserved c =
    let a = c.args in
    let l = c.loop-i in
    lines-again a.p a.n a.residues.now a.levels.now a.marks.now c.requires.0 a.text.now l.i l.text c.put_class.new.text c.loop-i-test.true
    c.requires.1 l.invariant c.put_class.ensures
