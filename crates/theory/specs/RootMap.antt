-- The root map (01, "Lent lists, map and text").
use Rattle.std.specs.Prelude.{Bool, true, false, ◌&&◌, List, [], ◌∷◌, ℕ, zero, suc, ◌+◌, ◌*◌, ◌/◌, ◌%◌, ◌^◌, eqb, ltb, length, get_or}
use Rattle.theory.specs.Range.{passing}
use Rattle.theory.specs.Class.{Class}
use Rattle.theory.specs.ClassList.{members}

-- "The map has one bit a residue": 1 where r is below m and in S; 0 for the spare bits from m on
unfoldable pub bit_of : (ℕ → Bool) → ℕ → ℕ → ℕ
bit_of S m r = elim (ltb r m && S r) [ true ↦ 1 | false ↦ 0 ]

-- the number whose k bits, lowest first, are those of r, r + 1, …
unfoldable pub bits_from : (ℕ → ℕ) → ℕ → ℕ → ℕ
bits_from b zero r = 0
bits_from b (suc k) r = b r + 2 * bits_from b k (suc r)

-- "residue r is the bit of weight 2^(r mod 8) in byte r div 8": k bytes, from byte j on
unfoldable pub bytes_from : (ℕ → ℕ) → ℕ → ℕ → List ℕ
unfolding bits_from
bytes_from b zero j = []
bytes_from b (suc k) j = bits_from b 8 (8 * j) ∷ bytes_from b k (suc j)

-- "pⁿ / 8 rounded up", of m = pⁿ
unfoldable pub map_length : ℕ → ℕ
map_length m = (m + 7) / 8

-- the map of a list of classes
unfoldable pub root_map : ℕ → ℕ → List Class → List ℕ
unfolding bit_of bytes_from map_length members
root_map p n cs = bytes_from (bit_of (members p cs) (p ^ n)) (map_length (p ^ n)) 0

-- the bit of residue r in a map
unfoldable pub bit : List ℕ → ℕ → ℕ
bit map r = get_or map (r / 8) 0 / 2 ^ (r % 8) % 2

-- "counts the ones of its first pⁿ bits, spare bits ignored"
unfoldable pub ones : ℕ → ℕ → List ℕ → ℕ
unfolding passing bit
ones p n map = length (passing (λ r. eqb (bit map r) 1) (p ^ n) 0)
