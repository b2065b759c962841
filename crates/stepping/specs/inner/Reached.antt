-- What next may answer on the solver's list.
use Rattle.std.specs.Prelude.{◌≡◌, ℕ, ◌<◌, Result, Ok, Err, Option, Some}
use Rattle.refusal.specs.declared.Refusal.{Refusal}
use Rattle.refusal.specs.Number.{number_of, place_of}

-- a root below 2^32 − 1, none, or refusal 8, place 0
pub record Reached (next : Result (Option ℕ) Refusal) : Type 0 where
  pub root_fits : (r : ℕ) → next ≡ Ok (Some r) → r < 4294967295
  pub only_point : (r : Refusal) → next ≡ Err r → (number_of r ≡ 8) × (place_of r ≡ 0)
