-- A list of bytes is determined by its bits, and so is a word made of bytes.
use mathlib.Core.Path.{◌≡◌, refl, sym, ap, ◌∙◌}
use mathlib.Core.Bool.{Bool, true, false, ◌&&◌, ◌||◌}
use mathlib.Core.List.{List}
use Prim.Native.Nat.{ℕ, ◌+◌, ◌*◌, ◌/◌, ◌%◌, ◌^◌, ◌<◌}
use native.Mathlib.Nat.{mod-lt, zero-add, zero-div}
use native.Mathlib.Omega.{arith}
use borrow.Author.Tests.{eqb-true}
use lib.Bits.{bit_or, or_shifted_r}
use lib.Dec.{ltb}
use lib.ListN.{length, get_or}
use lib.Pow.{shl_exact}
use lib.Seq.{ext_get_or}
use Rattle.theory.specs.RootMap.{bit, bit_of, bits_from, bytes_from, map_length}
use Rattle.theory.proofs.RootMap.{Bits, bits_lt, byte_at, bytes_length}
use Rattle.rootmap.specs.inner.Bits.{is_set, map_of, Added}
use Rattle.rootmap.proofs.Word.{not_one, number_of_bits, bits_join}

-- a bit is 0 or 1
pub bit_small : (l : List ℕ) → Bits (bit l)
unfolding bit
bit_small l r = mod-lt (get_or l (r / 8) 0 / 2 ^ (r % 8)) (omega arith)

-- a byte whose bits are those of b
byte_of_bits : (b : ℕ → ℕ) (l : List ℕ) (i : ℕ) → get_or l i 0 < 256 → ((r : ℕ) → r < 8 * i + 8 → bit l r ≡ b r)
    → get_or l i 0 ≡ bits_from b 8 (8 * i)
unfolding bit
byte_of_bits b l i small same = number_of_bits b 8 (get_or l i 0) (8 * i) small at
  where
    at : (j : ℕ) → j < 8 → get_or l i 0 / 2 ^ j % 2 ≡ b (8 * i + j)
    at j h =
        let byte : (8 * i + j) / 8 ≡ i = omega arith in
        let place : (8 * i + j) % 8 ≡ j = omega arith in
        rw (byte, place) at (same (8 * i + j) (omega arith))

-- bytes whose bits are those of b
pub bytes_of_bits : (b : ℕ → ℕ) (l : List ℕ) → ((i : ℕ) → get_or l i 0 < 256) → ((r : ℕ) → r < 8 * length l → bit l r ≡ b r)
    → l ≡ bytes_from b (length l) 0
bytes_of_bits b l small same =
    ext_get_or 0 l (bytes_from b (length l) 0) (sym (bytes_length b (length l) 0))
    (λ i h. byte_of_bits b l i (small i) (λ r k. same r (omega arith)) ∙ sym (rw (zero-add i) at (byte_at b (length l) 0 i h)))

-- A word: j bytes from index i on, and the next byte above them

pub word_next : (l : List ℕ) (i j : ℕ) → get_or l (i + j) 0 < 256 → j < 8
    → bit_or (bits_from (bit l) (8 * j) (8 * i)) (get_or l (i + j) 0 * 2 ^ (8 * j) % 2 ^ 64) ≡ bits_from (bit l) (8 * (j + 1)) (8 * i)
word_next l i j small h =
    let byte = get_or l (i + j) 0 in
    let x = bits_from (bit l) (8 * j) (8 * i) in
    let place : 8 * (i + j) ≡ 8 * i + 8 * j = omega arith in
    let longer : 8 * j + 8 ≡ 8 * (j + 1) = omega arith in
    ap (bit_or x) (shl_exact 8 (8 * j) 64 small (omega arith))
    ∙ or_shifted_r byte (8 * j) x (bits_lt (bit l) (bit_small l) (8 * j) (8 * i))
    ∙ ap (λ (y : ℕ). y * 2 ^ (8 * j) + x) (byte_of_bits (bit l) l (i + j) small (λ r k. refl) ∙ ap (bits_from (bit l) 8) place)
    ∙ bits_join (bit l) (8 * j) 8 (8 * i)
    ∙ ap (λ (k : ℕ). bits_from (bit l) k (8 * i)) longer

-- The map of a set

bit_is : (S : ℕ → Bool) (m : ℕ) (l : List ℕ) (r : ℕ) → is_set l r ≡ (ltb r m && S r) → bit l r ≡ bit_of S m r
unfolding bit_of is_set
bit_is S m l r e = go (ltb r m && S r) refl
  where
    go : (t : Bool) → (ltb r m && S r) ≡ t → bit l r ≡ bit_of S m r
    go true q = rw (q, bit_of) (eqb-true (bit l r) 1 (e ∙ q))
    go false q = rw (q, bit_of) (not_one (bit l r) (bit_small l r) (e ∙ q))

-- bytes whose ones are those of S below m
pub map_of-set : (S : ℕ → Bool) (m : ℕ) (l : List ℕ) → length l ≡ map_length m → ((i : ℕ) → get_or l i 0 < 256)
    → ((r : ℕ) → is_set l r ≡ (ltb r m && S r)) → l ≡ map_of S m
unfolding map_of
map_of-set S m l n small same =
    bytes_of_bits (bit_of S m) l small (λ r h. bit_is S m l r (same r)) ∙ ap (λ (k : ℕ). bytes_from (bit_of S m) k 0) n

-- no bit of a cleared map is 1
cleared : (l : List ℕ) → ((i : ℕ) → get_or l i 0 ≡ 0) → (r : ℕ) → is_set l r ≡ false
unfolding is_set bit
cleared l z r = rw (z (r / 8), zero-div (2 ^ (r % 8)))

-- what is added to a cleared map is all that it shows
pub added_to_cleared : (S : ℕ → Bool) (m : ℕ) (old new : List ℕ) → length new ≡ map_length m → ((i : ℕ) → get_or old i 0 ≡ 0)
    → Added (λ r. ltb r m && S r) old new → new ≡ map_of S m
added_to_cleared S m old new n z a =
    map_of-set S m new n (a.bytes (λ i. rw (z i) (omega arith)))
    (λ r. a.bits r ∙ ap (λ (b : Bool). b || (ltb r m && S r)) (cleared old z r))
