-- `report::turn` meets its contract.
use Rattle.report.proofs.Turns.{line-turn, stop-turn}
use Rattle.report.proofs.turn.Goals as goal

pub returns-in-Line-clause-turned : goal.returns-in-Line-clause-turned
returns-in-Line-clause-turned g c =
    let s = c.step in
    let a = c.args in
    (line-turn a.at a.buffer.now c.requires.value c.requires.placed _ _ s.ensures.answer s.ensures.after _ _ _ c.in-Line.is).turned

pub returns-in-Stop-clause-turned : goal.returns-in-Stop-clause-turned
returns-in-Stop-clause-turned g c =
    let s = c.step in
    (stop-turn c.args.at c.args.buffer.now c.requires.value c.requires.placed _ _ s.ensures.answer s.ensures.after _ c.in-Stop.is).1
