-- `rootmap::count::ones_of_words` meets its contract. The invariant: the ones of the first i words are counted.
use mathlib.Core.Path.{◌≡◌, ap, ap₂, ◌∙◌}
use Prim.Native.Nat.{ℕ, ◌+◌, ◌*◌}
use native.Mathlib.Omega.{arith}
use Rattle.theory.specs.RootMap.{bit, bits_from}
use Rattle.rootmap.specs.inner.Bits.{ones_below}
use Rattle.rootmap.specs.inner.Word.{ones_of}
use Rattle.rootmap.proofs.Word.{ones_of_most}
use Rattle.rootmap.proofs.Ones.{ones_none, ones_next, ones_most}
use Rattle.rootmap.proofs.count.ones_of_words.Goals as goal

pub loop-i-init : goal.loop-i-init
loop-i-init c = ones_none c.args.map.now

pub overflow_add-ones : goal.overflow_add-ones
overflow_add-ones c =
    let before = ones_most c.args.map.now (64 * c.loop-i.i) in
    record { fits = omega (arith, c.loop-i.invariant, before, c.word_ones-ones.ensures, ones_of_most 64 c.word.result) }

pub loop-i-preserved : goal.loop-i-preserved
loop-i-preserved c =
    let map = c.args.map.now in
    let i = c.loop-i.i in
    let place : 8 * (8 * i) ≡ 64 * i = omega arith in
    let next : 64 * i + 64 ≡ 64 * (i + 1) = omega arith in
    let word : c.word.result ≡ bits_from (bit map) 64 (8 * (8 * i)) = c.word.ensures in
    ap₂ (λ (x y : ℕ). x + y) c.loop-i.invariant (c.word_ones-ones.ensures ∙ ap (ones_of 64) (word ∙ ap (bits_from (bit map) 64) place))
    ∙ ones_next map (64 * i) 64 64 (omega arith)
    ∙ ap (λ (m : ℕ). ones_below m map) next
