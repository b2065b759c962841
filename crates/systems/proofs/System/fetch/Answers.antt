-- `systems::System::fetch` meets its contract.
use Rattle.std.proofs.Common.{◌≡◌, List, ◌++◌, ℕ, ℤ, drop, ap, arith}
use Rattle.systems.proofs.Holding.{common-few}
use Rattle.systems.proofs.Fetching.{classes-are, fetch-lengths, fetch-slots, fetch-found}
use Rattle.systems.proofs.System.fetch.Goals as goal

pub returns-then-slots-levels : goal.returns-then-slots-levels
returns-then-slots-levels c M H =
    fetch-lengths H c.args.residues.now c.args.levels.now c.min.result c.min.ensures c.if-slots-levels.true

pub returns-then-slots-classes : goal.returns-then-slots-classes
returns-then-slots-classes c M H =
    fetch-slots H c.args.residues.now c.args.levels.now c.if-slots-levels.false c.if-slots-classes.true

pub returns : goal.returns
returns c M H =
    let a = c.args in
    let front : c.min-front.result ≡ a.self.now.common.classes = omega (arith, classes-are H, common-few H) in
    rw front (fetch-found H a.residues.now a.levels.now c.if-slots-levels.false c.if-slots-classes.false
    (ap (λ (l : List ℤ). l ++ drop a.self.now.common.classes a.residues.now) (rw front at c.copy.ensures))
    (ap (λ (l : List ℕ). l ++ drop a.self.now.common.classes a.levels.now) (rw front at c.copy-2.ensures)))
