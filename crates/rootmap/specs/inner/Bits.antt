-- Bits of a map as a set of residues.
use Rattle.std.specs.Prelude.{◌≡◌, Bool, ◌||◌, List, ℕ, ◌<◌, eqb, length, get_or}
use Rattle.theory.specs.Range.{passing}
use Rattle.theory.specs.RootMap.{bit, bit_of, bytes_from, map_length}

-- whether the bit of residue r is 1
unfoldable pub is_set : List ℕ → ℕ → Bool
unfolding bit
is_set map r = eqb (bit map r) 1

-- how many of the first m bits are 1
unfoldable pub ones_below : ℕ → List ℕ → ℕ
unfolding passing is_set
ones_below m map = length (passing (is_set map) m 0)

-- the map of a set: a bit for each residue below m
unfoldable pub map_of : (ℕ → Bool) → ℕ → List ℕ
unfolding bit_of bytes_from map_length
map_of S m = bytes_from (bit_of S m) (map_length m) 0

-- the new map has the bits of the old one and those of S, and its bytes are bytes where the old one's are
pub record Added (S : ℕ → Bool) (old new : List ℕ) : Type 0 where
  pub bits : (r : ℕ) → is_set new r ≡ (is_set old r || S r)
  pub bytes : ((i : ℕ) → get_or old i 0 < 256) → (i : ℕ) → get_or new i 0 < 256
