-- `classes::overlap::levels_present` meets its contract. The invariant: the table tells the levels of the entries before t-index.
use Rattle.std.proofs.Common.{◌≡◌, ◌<◌, ◌%◌, ℕ, true, false, length, get_or}
use Rattle.classes.proofs.overlap.levels_present.Given as goal

abbrev pub invariant-loop-t : goal.invariant-loop-t
invariant-loop-t l = (length l.present ≡ 32) × ((j : ℕ) → j < l.t-index → get_or l.present (get_or l.levels j 0 % 32) false ≡ true)
