-- The ones of a word.
use Rattle.std.specs.Prelude.{ℕ, ◌/◌, ◌%◌, ◌^◌, eqb, length}
use Rattle.theory.specs.Range.{passing}

-- how many of the k lowest bits of x are 1; 02, 2.4: "A word's count is shown right for all 64-bit words"
unfoldable pub ones_of : ℕ → ℕ → ℕ
unfolding passing
ones_of k x = length (passing (λ j. eqb (x / 2 ^ j % 2) 1) k 0)
