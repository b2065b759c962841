-- `solver::start::node_at` meets its contract.
use mathlib.Core.Path.{◌≡◌, ap₂, ◌∙◌}
use Prim.Native.Nat.{ℕ, ◌-◌, ◌^◌}
use native.Mathlib.Omega.{arith}
use Rattle.theory.specs.Polynomial.{reduce}
use Rattle.theory.specs.SignedClass.{natural}
use Rattle.theory.proofs.Numbers.Prime.{prime_pos}
use Rattle.numbers.proofs.Saturated.{saturated_power}
use Rattle.numbers.proofs.Words.{wide_read}
use Rattle.solver.proofs.start.node_at.Goals as goal

pub returns : goal.returns
unfolding natural
returns c =
    let M = c.args.over in
    let t = c.args.level in
    let I = c.requires.0 in
    let power_is : c.power-power.result ≡ M.p ^ t =
    saturated_power (prime_pos I.prime) c.requires.1.level_fits (omega (arith, I.power_is, I.fits)) c.power-power.ensures in
    let residue-is : c.reduce.result ≡ reduce (M.p ^ t) c.args.residue =
    c.reduce.ensures ∙ ap₂ reduce power_is (wide_read c.args.residue c.ranges.residue) in
    ap₂ (λ (r q : ℕ). record { residue = r; power = q; level = t; left = M.exponent - t }) residue-is power_is
