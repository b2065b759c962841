-- An answer of next as one number, for a lent row of numbers.
use Rattle.std.specs.Prelude.{ℕ, ◌+◌, ◌*◌}
use Rattle.theory.specs.Stepping.{Answer, root, none, refused}

-- a root is itself, none is 2^32, and a refusal is (number + 1) × 2^32 + place
unfoldable pub encode : Answer → ℕ
encode (root r) = r
encode none = 4294967296
encode (refused number place) = (number + 1) * 4294967296 + place
