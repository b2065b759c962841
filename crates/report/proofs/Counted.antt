-- The counts of a problem whose p and n are accepted: how many there are, and how large.
use mathlib.Core.Path.{◌≡◌, refl}
use mathlib.Core.List.{List}
use Prim.Native.Nat.{ℕ, suc, ◌^◌, ◌≤◌, ◌<◌}
use native.Mathlib.Nat.{pow-le-pow_right}
use native.Mathlib.Omega.{arith}
use lib.IntN.{ℤ}
use lib.ListN.{length, get_or}
use Rattle.theory.specs.Counts.{solutions, count_row}
use Rattle.theory.proofs.Counts.{solutions_most, row_length, row_at}
use Rattle.theory.proofs.Numbers.Power.{exponent_lt}
use Rattle.theory.proofs.Numbers.Prime.{prime_pos}
use Rattle.refusal.specs.Rules.{passes, tried}
use Rattle.numbers.specs.Modulus.{modulus_rules}
use Rattle.numbers.specs.inner.Usable.{Usable}
use Rattle.numbers.proofs.Rules.{passes-usable}

module _ (f : List ℤ) (p n : ℕ) (pass : tried (modulus_rules p n) ≡ passes) where
  usable : Usable p n (p ^ n)
  usable = passes-usable p n pass (p ^ n) refl

  pub precision-most : n < 32
  precision-most = exponent_lt p n 32 usable.prime.two (omega (arith, usable.within))

  solutions-few : (j : ℕ) → j ≤ n → solutions f p j ≤ 4294967295
  solutions-few j h =
      omega (
        arith,
        usable.within,
        solutions_most f p j,
        pow-le-pow_right {n = p} (prime_pos usable.prime) {i = j} {j = n} h,
      )

  pub roots_few : solutions f p n ≤ 4294967295
  roots_few = solutions-few n (omega arith)

  pub row-few : (i : ℕ) → i < length (count_row f p n) → get_or (count_row f p n) i 0 ≤ 4294967295
  row-few i h =
      let low : i < suc n = omega (arith, row_length f p (suc n)) in
      rw (row_at f p (suc n) i low) (solutions-few i (omega arith))
