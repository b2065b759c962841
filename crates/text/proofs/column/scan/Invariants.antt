-- `text::column::scan` meets its contract. The invariant: `part` is what the bytes so far make.
use Rattle.std.proofs.Common.{◌≡◌, Some, take}
use Rattle.text.specs.Reading.{scan}
use Rattle.text.specs.inner.Capped.{capped}
use Rattle.text.proofs.column.scan.Given as goal

abbrev pub invariant-loop-byte : goal.invariant-loop-byte
invariant-loop-byte l = Some l.part ≡ capped (scan (take l.byte-index l.column))
