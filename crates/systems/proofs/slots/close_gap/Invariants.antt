-- `systems::slots::close_gap` meets its contract. The invariant: the slots from `at` to i are the ones after them, and the others are as
-- they were.
use Rattle.std.proofs.Common.{◌≡◌}
use Rattle.systems.proofs.HeldSlots.{shifted_to}
use Rattle.systems.proofs.slots.close_gap.Given as goal

abbrev pub invariant-loop-i : goal.invariant-loop-i
invariant-loop-i l = l.held ≡ shifted_to l.initial.held l.at l.i
