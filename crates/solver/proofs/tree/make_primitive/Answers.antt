-- `solver::tree::make_primitive` meets its contract.
use mathlib.Core.Path.{◌≡◌, refl, sym, ap, ◌∙◌}
use mathlib.Core.Bool.{false}
use mathlib.Core.List.{List}
use Prim.Native.Nat.{ℕ, ◌-◌, ◌/◌, ◌^◌, ◌≤◌, ◌<◌}
use native.Mathlib.Omega.{arith}
use Rattle.theory.specs.Polynomial.{divided}
use Rattle.theory.specs.Degree.{least_valuation, all_zero, primitive}
use Rattle.theory.proofs.Numbers.Power.{pow_pos, exponent_lt}
use Rattle.theory.proofs.Numbers.Prime.{prime_pos}
use Rattle.numbers.specs.Saturated.{saturated}
use Rattle.numbers.proofs.Saturated.{saturated-within}
use Rattle.solver.specs.declared.tree.PrimePower.{PrimePower}
use Rattle.solver.specs.inner.Table.{Below}
use Rattle.solver.specs.inner.Recursion.{IsPrimePower, lowered}
use Rattle.solver.proofs.Settling.{valuation-lt, power-fits}
use Rattle.solver.proofs.tree.make_primitive.Goals as goal

module _ {M : PrimePower} (I : IsPrimePower M) {f : List ℕ} (b : Below M.power f) (z : all_zero f ≡ false) {s : ℕ}
    (is : s ≡ least_valuation M.p f) where
  fits : M.p ^ s ≤ 4294967295
  fits = omega (arith, ap (λ (k : ℕ). M.p ^ k) is, power-fits I b z)

  power_is : {q : ℕ} → q ≡ saturated (M.p ^ s) → q ≡ M.p ^ s
  power_is e = e ∙ saturated-within _ (omega (arith, fits))

  power_pos : {q : ℕ} → q ≡ saturated (M.p ^ s) → 0 < q
  power_pos e = rw (power_is e) (pow_pos _ (prime_pos I.prime) s)

primitive-is : (p : ℕ) (g : List ℕ) → primitive p g ≡ divided (p ^ least_valuation p g) g
unfolding primitive
primitive-is p g = refl

lowered_is : (M : PrimePower) {s s' q : ℕ} → s ≡ s' → q ≡ M.p ^ s'
    → record { p = M.p; exponent = M.exponent - s; power = M.power / q } ≡ lowered M s'
lowered_is M e q = rw (e, q)

pub overflow_cast-s : goal.overflow_cast-s
overflow_cast-s c =
    let I = c.requires.0 in
    omega (
      arith,
      exponent_lt c.args.over.p c.least_valuation-s.result 32 I.prime.two
          (omega (arith, fits I c.requires.1 c.requires.2 c.least_valuation-s.ensures)),
    )

pub overflow_cast-power : goal.overflow_cast-power
overflow_cast-power c =
    omega (
      arith,
      power_is c.requires.0 c.requires.1 c.requires.2 c.least_valuation-s.ensures c.power-power.ensures,
      fits c.requires.0 c.requires.1 c.requires.2 c.least_valuation-s.ensures,
    )

pub divide-requires : goal.divide-requires
divide-requires c = power_pos c.requires.0 c.requires.1 c.requires.2 c.least_valuation-s.ensures c.power-power.ensures

pub overflow_sub-result : goal.overflow_sub-result
overflow_sub-result c =
    omega (arith, c.least_valuation-s.ensures, valuation-lt c.requires.0 c.requires.1 c.requires.2)

pub nonzero_div-result : goal.nonzero_div-result
nonzero_div-result c = power_pos c.requires.0 c.requires.1 c.requires.2 c.least_valuation-s.ensures c.power-power.ensures

pub returns : goal.returns
returns c =
    let M = c.args.over in
    let f = c.args.g.now in
    let q : c.power-power.result ≡ M.p ^ least_valuation M.p f =
    power_is c.requires.0 c.requires.1 c.requires.2 c.least_valuation-s.ensures c.power-power.ensures
    ∙ ap (λ (k : ℕ). M.p ^ k) c.least_valuation-s.ensures in record {
      quotient = c.divide.ensures ∙ ap (λ (k : ℕ). divided k f) q ∙ sym (primitive-is M.p f);
      modulus = lowered_is M c.least_valuation-s.ensures q;
    }
