-- How large the number and the place of a refusal can be.
use mathlib.Core.Path.{◌≡◌, refl}
use mathlib.Core.Bool.{Bool, true, false}
use mathlib.Core.List.{List, [], ◌∷◌, ◌++◌}
use Prim.Native.Nat.{ℕ, ◌≤◌}
use native.Mathlib.Omega.{arith}
use Rattle.refusal.specs.declared.Refusal.{Refusal}
use Rattle.refusal.specs.declared.Refusal.TheVariants.{Form, NoCoefficient, TooManyCoefficients}
use Rattle.refusal.specs.declared.Refusal.TheVariants.{PrimeOutOfRange, Composite, Precision, Tag, Full, PrecisionsFall, Lengths}
use Rattle.refusal.specs.declared.Refusal.TheVariants.{Entry, Point, MapTooLarge, MapLength, TooFewSlots, BufferTooSmall}
use Rattle.refusal.specs.declared.Refusal.TheVariants.{TooManyProblems}
use Rattle.refusal.specs.Number.{number_of, place_of}
use Rattle.refusal.specs.Rules.{Verdict, passes, refuses, rule, tried}

pub number_at_most : (r : Refusal) → number_of r ≤ 17
number_at_most (Form place) = omega arith
number_at_most NoCoefficient = omega arith
number_at_most TooManyCoefficients = omega arith
number_at_most PrimeOutOfRange = omega arith
number_at_most (Composite divisor) = omega arith
number_at_most Precision = omega arith
number_at_most Tag = omega arith
number_at_most Full = omega arith
number_at_most PrecisionsFall = omega arith
number_at_most (Lengths place) = omega arith
number_at_most (Entry place) = omega arith
number_at_most Point = omega arith
number_at_most MapTooLarge = omega arith
number_at_most MapLength = omega arith
number_at_most (TooFewSlots place) = omega arith
number_at_most (BufferTooSmall place) = omega arith
number_at_most (TooManyProblems place) = omega arith

-- Places, from the rules one by one

-- a place of at most b, where there is a refusal
abbrev pub PlaceAtMost : ℕ → Verdict → Type 0
PlaceAtMost b passes = Unit {0}
PlaceAtMost b (refuses r) = place_of r ≤ b

abbrev pub PlacesAtMost : ℕ → List Verdict → Type 0
PlacesAtMost b [] = Unit {0}
PlacesAtMost b (v ∷ rules) = PlaceAtMost b v × PlacesAtMost b rules

pub rule_place : (b : ℕ) (t : Bool) (r : Refusal) → place_of r ≤ b → PlaceAtMost b (rule t r)
rule_place b true r h = h
rule_place b false r h = tt

-- the later rules may rely on the earlier ones having passed
pub tried_place : (b : ℕ) (rules rest : List Verdict) → PlacesAtMost b rules → (tried rules ≡ passes → PlaceAtMost b (tried rest))
    → PlaceAtMost b (tried (rules ++ rest))
tried_place b [] rest h g = g refl
tried_place b (passes ∷ rules) rest h g = tried_place b rules rest h.1 g
tried_place b (refuses r ∷ rules) rest h g = h.0

pub tried_places : (b : ℕ) (rules : List Verdict) → PlacesAtMost b rules → PlaceAtMost b (tried rules)
tried_places b [] h = tt
tried_places b (passes ∷ rules) h = tried_places b rules h.1
tried_places b (refuses r ∷ rules) h = h.0
