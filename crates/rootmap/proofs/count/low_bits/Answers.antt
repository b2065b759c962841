-- `rootmap::count::low_bits` meets its contract.
use mathlib.Core.Path.{ap, ◌∙◌}
use Prim.Native.Nat.{ℕ, ◌-◌}
use lib.Bits.{bit_and, and_mask}
use lib.Pow.{pow_pos}
use Rattle.rootmap.proofs.Or.{shl_one}
use Rattle.rootmap.proofs.count.low_bits.Goals as goal

pub overflow_sub-result : goal.overflow_sub-result
overflow_sub-result c = rw (shl_one 64 c.args.k c.requires) (pow_pos c.args.k)

pub returns : goal.returns
returns c = ap (λ (y : ℕ). bit_and c.args.x (y - 1)) (shl_one 64 c.args.k c.requires) ∙ and_mask c.args.x c.args.k
