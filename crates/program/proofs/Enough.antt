-- 1,400 bytes are enough: the first 1,400 or more bytes of a text, however long, have the answer of the whole text. "The longest has 1,399
-- bytes", so one byte past it shows that the text does not end there.
use mathlib.Core.Path.{◌≡◌, ap}
use mathlib.Core.List.{List}
use Prim.Native.Nat.{ℕ, ◌≤◌}
use lib.ListN.{take}
use Rattle.text.proofs.Enough.{problem_same}
use Rattle.program.specs.Printed.{printed_for, printed_text}

pub printed_same : (m : ℕ) → 1400 ≤ m → (text : List ℕ) → printed_text (take m text) ≡ printed_text text
unfolding printed_text
printed_same m long text = ap printed_for (problem_same m long text)
