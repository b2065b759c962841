-- `report::more` meets its contract.
use Rattle.report.specs.inner.Places.{ended}
use Rattle.report.proofs.Turns.{moved-front, more_turn}
use Rattle.report.proofs.more.Goals as goal

pub returns-then-n-eq0-clause-turned : goal.returns-then-n-eq0-clause-turned
returns-then-n-eq0-clause-turned g c = ended _ c.requires.buffer_value

pub returns-clause-turned : goal.returns-clause-turned
returns-clause-turned g c =
    let at = c.args.at in
    let moved = c.copy_within in
    let front = moved-front at c.args.buffer.now c.requires.value c.requires.placed moved.new.self moved.ensures.after in
    (more_turn at c.args.buffer.now c.requires.value c.requires.placed moved.new.self c.read-n.new.buffer moved.ensures.len front
    c.read-n.result c.if-n-eq0.false c.read-n.auto.buffer c.read-n.ensures c.requires.to_bound c.requires.buffer_value).1
