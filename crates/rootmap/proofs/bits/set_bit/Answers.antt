-- `rootmap::bits::set_bit` meets its contract.
use Prim.Native.Nat.{◌%◌}
use native.Mathlib.Omega.{arith}
use Rattle.rootmap.proofs.Or.{shl_one}
use Rattle.rootmap.proofs.SetBit.{bit_added}
use Rattle.rootmap.proofs.bits.set_bit.Goals as goal

pub returns : goal.returns
returns c =
    let a = c.args in
    rw (shl_one 8 (a.r % 8) (omega arith)) (bit_added a.map.now a.r c.requires)
