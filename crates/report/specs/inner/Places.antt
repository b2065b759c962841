-- Where the bytes that are read and not yet used lie in the buffer, and what a turn does with them.
use Rattle.std.specs.Prelude.{◌≡◌, List, ◌++◌, ℕ, ◌+◌, ◌-◌, ◌*◌, ◌≤◌, ◌<◌, take, drop, Option, Some, None}
use Rattle.report.specs.declared.Place.{Place}
use Rattle.report.specs.declared.step.Totals.{Totals}
use Rattle.report.specs.Run.{next, stop, wait}
use Rattle.report.specs.inner.Outcomes.{outcome, Small}

pub record Placed (at : Place) : Type 0 where
  pub small : Small at.totals
  pub ordered : at.from ≤ at.to
  pub inside : at.to ≤ 65536

-- these bytes
abbrev pub unused : Place → (buffer : List ℕ) → List ℕ
unused at buffer = take (at.to - at.from) (drop at.from buffer)

-- at most so many turns are left: of 1,000 problems those to come, each with the bytes of the longest, and of the next one the bytes that
-- are not read yet
abbrev pub to_go : Place → ℕ
to_go at = 1400 * (1000 - at.totals.problems) + (1399 - (at.to - at.from))

-- after a turn from there
abbrev pub Going : Place → Option Place → Type 0
Going at (Some to) = Placed to × (to_go to < to_go at)
Going at None = Unit {0}

-- a turn in the state s with the unused bytes w is a step of `Run`, by the names there
pub data Turned (s : Totals) (w : List ℕ) : Option Place → (buffer : List ℕ) → Type 0 where
  line : (at : Place) (buffer l : List ℕ) (n : ℕ) → outcome s w ≡ next at.totals l n → unused at buffer ≡ drop n w
      → Turned s w (Some at) buffer
  stopped : (buffer l : List ℕ) → outcome s w ≡ stop l → Turned s w None buffer
  more : (at : Place) (buffer piece : List ℕ) → outcome s w ≡ wait → at.totals ≡ s → unused at buffer ≡ w ++ piece
      → Turned s w (Some at) buffer
  ended : (buffer : List ℕ) → outcome s w ≡ wait → Turned s w None buffer
