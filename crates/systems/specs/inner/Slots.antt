-- The held polynomials.
use Rattle.std.specs.Prelude.{◌≤◌, ◌<◌, List, length}
use Rattle.theory.specs.Lists.{In}
use Rattle.systems.specs.Model.{Congruence}

-- polynomials that rules 2 and 3 pass
pub record Polynomials (held : List Congruence) : Type 0 where
  pub some : (c : Congruence) → In c held → 0 < length c.coefficients
  pub few : (c : Congruence) → In c held → length c.coefficients ≤ 65
