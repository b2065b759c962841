-- Counting the ones of a map, word after word.
use mathlib.Core.Path.{◌≡◌, refl, sym, ap, ◌∙◌}
use mathlib.Core.List.{List}
use Prim.Native.Nat.{ℕ, ◌+◌, ◌^◌, ◌≤◌, ◌<◌}
use native.Mathlib.Nat.{zero-add, lt_of_lt_of_le}
use lib.ListN.{length}
use lib.Pow.{pow_mono}
use Rattle.theory.specs.Range.{passing}
use Rattle.theory.specs.RootMap.{bit, bits_from}
use Rattle.theory.proofs.Passing.{passing_most, passing-sum}
use Rattle.theory.proofs.RootMap.{bits_lt}
use Rattle.rootmap.specs.inner.Bits.{is_set, ones_below}
use Rattle.rootmap.specs.inner.Word.{ones_of}
use Rattle.rootmap.proofs.Word.{ones_of_bits, word_count}
use Rattle.rootmap.proofs.Bytes.{bit_small}

pub ones_none : (map : List ℕ) → 0 ≡ ones_below 0 map
unfolding ones_below
ones_none map = refl

-- a word of k bits adds its ones
pub ones_next : (map : List ℕ) (r k w : ℕ) → k ≤ w → ones_below r map + ones_of w (bits_from (bit map) k r) ≡ ones_below (r + k) map
unfolding ones_below
ones_next map r k w h =
    let x = bits_from (bit map) k r in
    let below : x < 2 ^ w = lt_of_lt_of_le (bits_lt (bit map) (bit_small map) k r) (pow_mono h) in
    let word : ones_of w x ≡ length (passing (is_set map) k r) = sym (word_count w x below) ∙ ones_of_bits (bit map) (bit_small map) k r in
    ap (λ (y : ℕ). length (passing (is_set map) r 0) + y) word ∙ sym (rw (zero-add r) at (passing-sum (is_set map) r k 0))

pub ones_most : (map : List ℕ) (m : ℕ) → ones_below m map ≤ m
unfolding ones_below
ones_most map m = passing_most (is_set map) m 0
