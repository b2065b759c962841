-- Numbers up to 2^32. An operation's numbers are smaller, so what is more may count as 2^32: so powers and their sums are total functions.
use Rattle.std.specs.Prelude.{ℕ, min}

unfoldable pub saturated : ℕ → ℕ
saturated x = min x 4294967296
