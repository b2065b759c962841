-- 01's printed input gives 01's printed output.
use mathlib.Core.Path.{◌≡◌, refl}
use mathlib.Core.List.{List, [], ◌∷◌, ◌++◌}
use Prim.Native.Nat.{ℕ}
use lib.ListN.{replicate}
use Rattle.theory.specs.Prime.{is_composite}
use Rattle.theory.specs.Polynomial.{roots}
use Rattle.theory.specs.SignedList.{signed_list}
use Rattle.theory.specs.Mark.{mark}
use Rattle.numbers.specs.Modulus.{rule4, rule14, rule5}
use Rattle.solver.specs.Solve.{solution}
use Rattle.text.specs.Form.{problem_of}
use Rattle.writer.specs.Output.{output_text}
use Rattle.program.specs.Printed.{printed_text}

-- so many blanks, and a byte behind ten
abbrev blanks : ℕ → List ℕ
blanks k = replicate k 32

abbrev single : ℕ → List ℕ
single byte = blanks 10 ++ byte ∷ []

-- '0' is byte 48, '-' is byte 45: the columns of 2, 4 and 3, and the lines of −1, 0 and 1
abbrev printed_input : List ℕ
printed_input =
    single 50 ++ single 52 ++ single 51 ++ 10 ∷ []
    ++ blanks 18 ++ 45 ∷ 49 ∷ 10 ∷ []
    ++ blanks 19 ++ 48 ∷ 10 ∷ []
    ++ blanks 19 ++ 49 ∷ 10 ∷ []

-- the lines of 2, 4, 2, 4, of −1, 3, 2, 0 and of 1, 3, 2, 0
abbrev printed_output : List ℕ
printed_output =
    single 50 ++ single 52 ++ single 50 ++ single 52 ++ 10 ∷ []
    ++ blanks 9 ++ 45 ∷ 49 ∷ [] ++ single 51 ++ single 50 ++ single 48 ++ 10 ∷ []
    ++ single 49 ++ single 51 ++ single 50 ++ single 48 ++ 10 ∷ []

-- "The program reads the first block on standard input and prints the second"
pub printed_example : printed_text printed_input ≡ printed_output
unfolding printed_text problem_of rule4 rule14 rule5 is_composite solution signed_list roots mark output_text
printed_example = refl
