-- 01's cases marked (M): on each the definitions give what the table says, and what 02 says of live classes and of counts.
use mathlib.Core.Path.{◌≡◌, refl}
use mathlib.Core.List.{map}
use Prim.Native.Nat.{ℕ}
use Rattle.theory.specs.SignedClass.{natural, naturals}
use Rattle.theory.specs.RootMap.{root_map}
use Rattle.theory.specs.Live.{live}
use Rattle.theory.specs.Counts.{counts_below, count_row}
use Rattle.theory.specs.Examples.{Problem, Case, outcome, table, first, first_map, live_column, count_column, one, square_plus_two}

-- one theorem over the whole table: classes, marks and root counts, and the first case's map
pub cases_hold :
    (map (λ (c : Case). outcome c.given) table ≡ map (λ (c : Case). c.expected) table)
    × (root_map 2 4 (naturals 2 first.expected.classes) ≡ first_map)
unfolding table outcome natural root_map
cases_hold = (refl, refl)

abbrev live_in : Problem → ℕ
live_in c = live c.f c.p c.n

pub live_cases : map (λ (c : Case). live_in c.given) table ≡ live_column
unfolding table live live_column
live_cases = refl

pub count_cases : map (λ (c : Case). count_row c.given.f c.given.p c.given.n) table ≡ count_column
unfolding table counts_below count_column
count_cases = refl

-- equal lists, marks and root counts, and another number of live classes
pub live_may_differ : (outcome one ≡ outcome square_plus_two) × (live_in one ≡ 1) × (live_in square_plus_two ≡ 2)
unfolding outcome live
live_may_differ = (refl, refl, refl)
