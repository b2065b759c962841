-- What the rules leave of p and n.
use Rattle.std.specs.Prelude.{◌≡◌, ℕ, ◌^◌, ◌≤◌, ◌<◌}
use Rattle.theory.specs.Prime.{Prime}
use Rattle.refusal.specs.Rules.{passes, tried}
use Rattle.numbers.specs.Modulus.{modulus_rules}

-- p and n that these rules pass, with m for pⁿ
pub record Usable (p n m : ℕ) : Type 0 where
  pub accepted : tried (modulus_rules p n) ≡ passes
  pub prime : Prime p
  pub small : p ≤ 65535
  pub precise : 0 < n
  pub power : m ≡ p ^ n
  pub within : p ^ n ≤ 4294967295
