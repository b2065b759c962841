-- `rootmap::count::count_ones` meets its contract.
use mathlib.Core.Path.{◌≡◌, ap, ap₂, ◌∙◌}
use Prim.Native.Nat.{ℕ, ◌+◌, ◌*◌, ◌/◌, ◌%◌, ◌^◌}
use native.Mathlib.Omega.{arith}
use Rattle.theory.specs.RootMap.{bit, bits_from}
use Rattle.rootmap.specs.inner.Bits.{ones_below}
use Rattle.rootmap.specs.inner.Word.{ones_of}
use Rattle.rootmap.proofs.Word.{bits_low, ones_of_most}
use Rattle.rootmap.proofs.Bytes.{bit_small}
use Rattle.rootmap.proofs.Ones.{ones_next, ones_most}
use Rattle.rootmap.proofs.count.count_ones.Lts as lts
use Rattle.rootmap.proofs.count.count_ones.Reads as reads
use Rattle.rootmap.proofs.count.count_ones.Tie as tie
use Rattle.rootmap.proofs.count.count_ones.Goals as goal

pub overflow_add-result : goal.overflow_add-result
overflow_add-result c =
    let a = c.args in
    let full = ones_most a.map.now (64 * (a.m / 64)) in
    record { fits = omega (arith, c.ones_of_words.ensures, full, c.word_ones.ensures, ones_of_most 64 c.low_bits-last.result) }

-- the last word is the bits after the full words
last_word : (c : lts.After-low_bits tie.the-claims reads.Pre reads.Post) → let a = c.args in
    c.low_bits-last.result ≡ bits_from (bit a.map.now) (a.m % 64) (64 * (a.m / 64))
last_word c =
    let a = c.args in
    let b = bit a.map.now in
    let rest = a.m % 64 in
    let place : 8 * (8 * (a.m / 64)) ≡ 64 * (a.m / 64) = omega arith in
    let bytes : c.word.result ≡ bits_from b (8 * ((rest + 7) / 8)) (8 * (8 * (a.m / 64))) = c.word.ensures in
    c.low_bits-last.ensures
    ∙ ap (λ (x : ℕ). x % 2 ^ rest) bytes
    ∙ bits_low b (bit_small a.map.now) rest (8 * ((rest + 7) / 8)) (8 * (8 * (a.m / 64))) (omega arith)
    ∙ ap (bits_from b rest) place

pub returns : goal.returns
returns c =
    let a = c.args in
    let all : 64 * (a.m / 64) + a.m % 64 ≡ a.m = omega arith in
    ap₂ (λ (x y : ℕ). x + y) c.ones_of_words.ensures (c.word_ones.ensures ∙ ap (ones_of 64) (last_word c.before.before.before))
    ∙ ones_next a.map.now (64 * (a.m / 64)) (a.m % 64) 64 (omega arith)
    ∙ ap (λ (m : ℕ). ones_below m a.map.now) all
