-- `systems::cut::covered` meets its contract. The invariant: none of the first i classes covers z.
use Rattle.std.proofs.Common.{◌≡◌, false, take}
use Rattle.std.specs.List.{list_any, zip}
use Rattle.systems.specs.inner.Cutting.{covers_by}
use Rattle.systems.proofs.cut.covered.Given as goal

abbrev pub invariant-loop-i : goal.invariant-loop-i
invariant-loop-i l = list_any (covers_by l.powers l.limit l.z) (take l.i (zip l.residues l.levels)) ≡ false
