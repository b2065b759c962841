-- `rootmap::count::word` meets its contract. The invariant: the first j of its bytes are taken.
use mathlib.Core.Path.{◌≡◌}
use Prim.Native.Nat.{◌*◌}
use Rattle.theory.specs.RootMap.{bit, bits_from}
use Rattle.rootmap.proofs.count.word.Given as goal

abbrev pub invariant-loop-j : goal.invariant-loop-j
invariant-loop-j l = l.x ≡ bits_from (bit l.map) (8 * l.j) (8 * l.i)
