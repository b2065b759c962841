-- The test of `residue::is_centered` as the code's words are read: first of 2z ≤ −q, then of 2z ≤ q.
use mathlib.Core.Path.{◌≡◌, sym, ap, ap₂, ◌∙◌}
use mathlib.Core.Bool.{true, false}
use Prim.Native.Nat.{ℕ, ◌*◌}
use native.Mathlib.Omega.{arith}
use lib.IntN.{ℤ, pos, neg_ℤ, ◌-ℤ◌, ◌*ℤ◌}
use lib.Signed.{le_z}
use mir.Syntax.{w32, w64}
use mir.Val.{Fits, SFits, to_z, of_z}
use mir.ValLaws.{to_z_pos, to_z-of_z}
use Rattle.theory.specs.Centered.{is_centered}
use Rattle.theory.proofs.Numbers.Integers.{up, down, is_unique, sum_is, negative_is, product_is}
use Rattle.theory.proofs.Numbers.Integers.{at-most-is, not-at-most-is, is-less, is-not-less}
use Rattle.numbers.proofs.Words.{difference_fits, wide_read, narrow_parts}

module _ (q : ℕ) (z : ℤ) (q-fits : Fits w32 q) (z-fits : SFits w32 z) where
  -- 2z and −q
  abbrev twice : ℤ
  twice = pos 2 *ℤ z

  abbrev low : ℤ
  low = neg_ℤ (pos q)

  -- as the code computes them
  abbrev doubled : ℤ
  doubled = pos 2 *ℤ to_z w64 (of_z w64 (to_z w32 (of_z w32 z)))

  abbrev negated : ℤ
  negated = pos 0 -ℤ to_z w64 q

  doubled-is : doubled ≡ twice
  doubled-is = ap (λ (x : ℤ). pos 2 *ℤ x) (wide_read z z-fits)

  pub doubled_fits : SFits w64 doubled
  doubled_fits =
      let (u, d) = narrow_parts z z-fits in
      rw doubled-is (difference_fits twice (2 * up z) (2 * down z) (product_is 2 z) (omega arith) (omega arith))

  negated-is : negated ≡ low
  unfolding up down
  negated-is =
      ap (λ (x : ℤ). pos 0 -ℤ x) (to_z_pos w64 q (omega arith))
      ∙ is_unique (pos 0 -ℤ pos q) low 0 q (omega (arith, sum_is (pos 0) low, negative_is q)) (negative_is q)

  pub negated_fits : SFits w64 negated
  negated_fits = rw negated-is (difference_fits low 0 q (negative_is q) (omega arith) (omega arith))

  read-doubled : to_z w64 (of_z w64 doubled) ≡ twice
  read-doubled = to_z-of_z w64 doubled doubled_fits ∙ doubled-is

  read_negated : to_z w64 (of_z w64 negated) ≡ low
  read_negated = to_z-of_z w64 negated negated_fits ∙ negated-is

  -- so the code's first test is that of 2z ≤ −q
  tested : le_z (to_z w64 (of_z w64 doubled)) (to_z w64 (of_z w64 negated)) ≡ le_z twice low
  tested = ap₂ le_z read-doubled read_negated

  pub below_range : le_z (to_z w64 (of_z w64 doubled)) (to_z w64 (of_z w64 negated)) ≡ true → false ≡ is_centered q z
  unfolding is_centered
  below_range e =
      let h : le_z twice low ≡ true = sym tested ∙ e in
      rw (is-not-less low twice (at-most-is twice low h))

  pub above_low : le_z (to_z w64 (of_z w64 doubled)) (to_z w64 (of_z w64 negated)) ≡ false
      → le_z (to_z w64 (of_z w64 doubled)) (to_z w64 q) ≡ is_centered q z
  unfolding is_centered
  above_low e =
      let h : le_z twice low ≡ false = sym tested ∙ e in
      rw (read-doubled, to_z_pos w64 q (omega arith), is-less low twice (not-at-most-is twice low h))
