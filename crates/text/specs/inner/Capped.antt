-- What 64 bits keep of the number in a column.
use Rattle.std.specs.Prelude.{cond, leb, Option, Some, None}
use Rattle.text.specs.declared.column.Part.{Part}
use Rattle.text.specs.declared.column.Part.TheVariants.{Blanks, Minus, Number}

-- a part with sizes of more than 64 bits as faults: they are above every type's range
abbrev pub capped : Option Part → Option Part
capped None = None
capped (Some Blanks) = Some Blanks
capped (Some Minus) = Some Minus
capped (Some (Number m x)) = cond (leb x 18446744073709551615) (Some (Number m x)) None
