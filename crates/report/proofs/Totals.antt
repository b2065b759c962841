-- Totals of at most 1,000 problems stay small, and refusals from the start of a text have small places.
use mathlib.Core.Bool.{Bool, true, false, cond}
use Prim.Native.Nat.{ℕ, ◌+◌, ◌≤◌, ◌<◌}
use native.Mathlib.Omega.{arith}
use lib.Dec.{eqb}
use Rattle.refusal.specs.declared.Refusal.{Refusal}
use Rattle.refusal.specs.declared.Refusal.TheVariants.{Form}
use Rattle.refusal.specs.Number.{number_of, place_of}
use Rattle.report.specs.declared.step.Totals.{Totals}
use Rattle.report.specs.Report.{start, rootless_by, after, from_start}
use Rattle.report.specs.inner.Outcomes.{Small}

pub start_small : Small start
start_small = record { few = omega arith; short = omega arith; rootless_few = omega arith; roots_few = omega arith }

pub rootless_most : (roots : ℕ) → rootless_by roots ≤ 1
rootless_most roots = go (eqb roots 0)
  where
    go : (b : Bool) → cond b 1 0 ≤ 1
    go true = omega arith
    go false = omega arith

-- a problem more
pub after_small : (s : Totals) (bytes roots : ℕ) → Small s → s.problems < 1000 → bytes ≤ 1399 → roots ≤ 4294967295
    → Small (after s bytes roots)
after_small s bytes roots small room short few =
    record {
      few = omega arith;
      short = omega (arith, small.short);
      rootless_few = omega (arith, small.rootless_few, rootless_most roots);
      roots_few = omega (arith, small.roots_few);
    }

pub from_start_place : (at : ℕ) (r : Refusal) → place_of (from_start at r) ≤ at + place_of r
from_start_place at r = go (eqb (number_of r) 1)
  where
    go : (b : Bool) → place_of (cond b (Form (at + place_of r)) r) ≤ at + place_of r
    go true = omega arith
    go false = omega arith
