-- `rootmap::count::word` meets its contract. The invariant: the first j of its bytes are taken.
use mathlib.Core.Path.{◌≡◌, ap, ◌∙◌}
use Prim.Native.Nat.{ℕ, ◌+◌, ◌-◌, ◌*◌, ◌%◌, ◌^◌, ◌<◌}
use native.Mathlib.Omega.{arith}
use lib.Bits.{bit_or}
use lib.ListN.{get_or, take, drop}
use Rattle.std.proofs.lemmas.List.{get_or-take, get_or-drop}
use Rattle.theory.specs.RootMap.{bit}
use Rattle.rootmap.proofs.Word.{bits_none}
use Rattle.rootmap.proofs.Bytes.{word_next}
use Rattle.rootmap.proofs.count.word.Goals as goal

pub loop-j-init : goal.loop-j-init
loop-j-init c = bits_none (bit c.args.map.now) (8 * c.args.i)

pub loop-j-preserved : goal.loop-j-preserved
loop-j-preserved c =
    let map = c.args.map.now in
    let i = c.args.i in
    let k = c.args.k in
    let j = c.loop-j.j in
    let h : j < k = omega arith in
    let byte = get_or map (i + j) 0 in
    let small : byte < 256 = omega (arith, c.type_inv.map (i + j)) in
    let read : get_or (take (i + k - i) (drop i map)) j 0 ≡ byte =
    get_or-take (i + k - i) (drop i map) j 0 (omega arith) ∙ get_or-drop i map j 0 in
    ap (λ (y : ℕ). bit_or c.loop-j.x (y * 2 ^ (8 * j) % 2 ^ 64)) read
    ∙ ap (λ (y : ℕ). bit_or y (byte * 2 ^ (8 * j) % 2 ^ 64)) c.loop-j.invariant
    ∙ word_next map i j small (omega arith)
