-- On four polynomials the definitions give what the table says; and the theorem at one call.
use mathlib.Core.Path.{◌≡◌, refl}
use mathlib.Core.List.{[], ◌∷◌, map}
use native.Mathlib.Omega.{arith}
use lib.IntN.{pos}
use Rattle.theory.specs.Prime.{is_composite}
use Rattle.theory.specs.Polynomial.{roots}
use Rattle.theory.specs.Shortest.{count}
use Rattle.theory.specs.SignedList.{signed_list}
use Rattle.theory.specs.Live.{live}
use Rattle.theory.specs.Simple.{primitive_part, is_simple_root, SimpleDigit}
use Rattle.numbers.specs.Modulus.{modulus_rules}
use Rattle.solver.specs.Solve.{lists, solution, solver_verdict, solved_of}
use Rattle.stepping.specs.Call.{Input, Accepted}
use Rattle.lifting.specs.Lifting.{Lifts}
use Rattle.lifting.proofs.Lifting.{simple-roots-lift}
use Rattle.lifting.specs.Examples.{Case, outcome, table}

pub simple_cases : map (λ (c : Case). outcome c.given) table ≡ map (λ (c : Case). c.expected) table
unfolding table outcome
simple_cases = refl

-- x² + 1 modulo 25, with two slots in each list, and the digit 2

abbrev call : Input
call = record { f = pos 1 ∷ pos 0 ∷ pos 1 ∷ []; p = 5; n = 2; given = lists (pos 0 ∷ pos 0 ∷ []) (0 ∷ 0 ∷ []) (0 ∷ 0 ∷ []) }

accepted : Accepted call 2 2
unfolding solved_of solver_verdict modulus_rules is_composite solution roots signed_list count live
accepted = record { live = 5; answer = refl }

two_is_simple : SimpleDigit call.f 5 2 2
unfolding is_simple_root primitive_part
two_is_simple = record { digit = omega arith; simple = refl }

pub two_lifts : Lifts call 2 2
two_lifts = simple-roots-lift call accepted 2 two_is_simple
