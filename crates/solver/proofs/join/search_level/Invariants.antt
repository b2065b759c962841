-- `solver::join::search_level` meets its contract. The invariant: q is p^t, and the class of level t around the residue of x adds up.
use mathlib.Core.Path.{◌≡◌}
use mathlib.Core.Bool.{true}
use mathlib.Core.List.{map}
use Prim.Native.Nat.{◌^◌}
use Rattle.theory.specs.inner.Join.{adds_up}
use Rattle.solver.specs.inner.Entry.{class_of}
use Rattle.solver.proofs.join.search_level.Given as goal

abbrev pub invariant-loop-t : goal.invariant-loop-t
invariant-loop-t l = (l.q ≡ l.p ^ l.t) × (adds_up l.p l.n (map class_of l.entries) (class_of l.fn.x).residue l.t ≡ true)
