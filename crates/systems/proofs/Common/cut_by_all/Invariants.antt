-- `systems::Common::cut_by_all` meets its contract. The invariant: the list is that of the polynomials so far.
use Rattle.std.proofs.Common.{◌≡◌, List}
use Rattle.systems.specs.Model.{Congruence}
use Rattle.systems.proofs.Cuts.{HeldIn, common_to}
use Rattle.systems.proofs.Common.cut_by_all.Given as goal

abbrev pub invariant-loop-h : goal.invariant-loop-h
invariant-loop-h l = (C : List Congruence) (G : HeldIn l.p l.n l.held C) → l.common ≡ common_to G l.h-index
