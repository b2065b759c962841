-- `rootmap::count::word_ones` meets its contract.
use native.Mathlib.Omega.{arith}
use lib.Count.{ones-le}
use Rattle.rootmap.proofs.Word.{word_count}
use Rattle.rootmap.proofs.count.word_ones.Goals as goal

pub overflow_cast-result : goal.overflow_cast-result
overflow_cast-result c = record { fits = omega (arith, ones-le 64 c.args.x c.ranges.x.fits) }

pub returns : goal.returns
returns c = word_count 64 c.args.x c.ranges.x.fits
