-- `rootmap::count::ones_of_words` meets its contract. The invariant: the ones of the first i words are counted.
use mathlib.Core.Path.{◌≡◌}
use Prim.Native.Nat.{◌*◌}
use Rattle.rootmap.specs.inner.Bits.{ones_below}
use Rattle.rootmap.proofs.count.ones_of_words.Given as goal

abbrev pub invariant-loop-i : goal.invariant-loop-i
invariant-loop-i l = l.ones ≡ ones_below (64 * l.i) l.map
