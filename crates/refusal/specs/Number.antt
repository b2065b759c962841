-- The number and place that 01 and 02 give each refusal: "A refusal returns its number and a place, 0 unless said".
use Rattle.std.specs.Prelude.{ℕ}
use Rattle.refusal.specs.declared.Refusal.{Refusal}
use Rattle.refusal.specs.declared.Refusal.TheVariants.{Form, NoCoefficient, TooManyCoefficients}
use Rattle.refusal.specs.declared.Refusal.TheVariants.{PrimeOutOfRange, Composite, Precision, Tag, Full, PrecisionsFall, Lengths}
use Rattle.refusal.specs.declared.Refusal.TheVariants.{Entry, Point, MapTooLarge, MapLength, TooFewSlots, BufferTooSmall}
use Rattle.refusal.specs.declared.Refusal.TheVariants.{TooManyProblems}

abbrev pub number_of : Refusal → ℕ
number_of (Form place) = 1
number_of NoCoefficient = 2
number_of TooManyCoefficients = 3
number_of PrimeOutOfRange = 4
number_of (Composite divisor) = 14
number_of Precision = 5
number_of Tag = 15
number_of Full = 16
number_of PrecisionsFall = 17
number_of (Lengths place) = 6
number_of (Entry place) = 7
number_of Point = 8
number_of MapTooLarge = 9
number_of MapLength = 10
number_of (TooFewSlots place) = 11
number_of (BufferTooSmall place) = 12
number_of (TooManyProblems place) = 13

abbrev pub place_of : Refusal → ℕ
place_of (Form place) = place
place_of NoCoefficient = 0
place_of TooManyCoefficients = 0
place_of PrimeOutOfRange = 0
place_of (Composite divisor) = divisor
place_of Precision = 0
place_of Tag = 0
place_of Full = 0
place_of PrecisionsFall = 0
place_of (Lengths place) = place
place_of (Entry place) = place
place_of Point = 0
place_of MapTooLarge = 0
place_of MapLength = 0
place_of (TooFewSlots place) = place
place_of (BufferTooSmall place) = place
place_of (TooManyProblems place) = place
