-- `solver::valuation::common_power` meets its contract.
use mathlib.Core.Path.{◌≡◌, sym, ◌∙◌}
use mathlib.Core.Bool.{false}
use mathlib.Core.List.{List}
use Prim.Native.Nat.{ℕ, ◌^◌, ◌≤◌, ◌<◌}
use native.Mathlib.Omega.{arith}
use lib.ListN.{get_or}
use mir.Syntax.{w32}
use mir.Val.{Fits}
use Rattle.theory.specs.Degree.{all_zero, least_valuation}
use Rattle.theory.proofs.Lists.Index.{index_of}
use Rattle.theory.proofs.Numbers.Power.{exponent_lt}
use Rattle.theory.proofs.Polynomials.Degree.{common-power-lt, common_power_none}
use Rattle.numbers.proofs.Saturated.{saturated-within}
use Rattle.solver.proofs.valuation.common_power.Goals as goal

-- where some coefficient is not zero
fits : (p : ℕ) (g : List ℕ) → 2 ≤ p → all_zero g ≡ false → ((i : ℕ) → Fits w32 (get_or g i 0)) → p ^ least_valuation p g < 4294967296
fits p g h some words =
    common-power-lt p h g some 4294967296 (λ a u. let (i, l, e) = index_of g 0 a u in omega (arith, words i))

pub returns-then-all_zero : goal.returns-then-all_zero
returns-then-all_zero c =
    sym (common_power_none c.args.p c.args.g.now (sym c.all_zero.ensures ∙ c.if-all_zero.true))

pub overflow_cast-s : goal.overflow_cast-s
overflow_cast-s c =
    let a = c.args in
    let f = fits a.p a.g.now c.requires.0 (sym c.all_zero.ensures ∙ c.if-all_zero.false) c.type_inv.g in
    let low = exponent_lt a.p (least_valuation a.p a.g.now) 32 c.requires.0 f in
    record { fits = omega (arith, c.least_valuation-s.ensures, low) }

pub returns : goal.returns
returns c =
    let e = c.least_valuation-s.ensures in
    let f = fits c.args.p c.args.g.now c.requires.0 (sym c.all_zero.ensures ∙ c.if-all_zero.false) c.type_inv.g in
    rw (c.power.ensures, e) (saturated-within _ (omega (arith, f)))
