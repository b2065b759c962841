-- `numbers::check_precision` meets its contract.
use Rattle.std.specs.Prelude.{Ok}
use mathlib.Core.Path.{◌≡◌, sym, ap, ◌∙◌}
use mathlib.Core.Logic.{⊎_elim}
use mathlib.Core.Bool.{true, false}
use Prim.Native.Nat.{ℕ, ◌^◌, ◌≤◌}
use borrow.Author.Tests.{lt-ltb, le-ltb, ltb-true, eq-eqb, ne_eqb}
use lib.Dec.{eqb, ltb}
use Rattle.theory.proofs.Tests.{or_left, or_right}
use Rattle.numbers.specs.Saturated.{saturated}
use Rattle.numbers.proofs.Saturated.{saturated_means, saturated_limit}
use Rattle.numbers.proofs.Rules.{not_precise, precision-5, precision-passes}
use Rattle.numbers.proofs.check_precision.Goals as goal

-- pⁿ as the power function gives it
module _ (p n m : ℕ) (given : m ≡ saturated (p ^ n)) where
  over : ltb 4294967295 m ≡ true → ltb 4294967295 (p ^ n) ≡ true
  over e = lt-ltb 4294967295 (p ^ n) (saturated_limit (p ^ n) (rw given at (ltb-true 4294967295 m e)))

  within : m ≤ 4294967295 → (m ≡ p ^ n) × (ltb 4294967295 (p ^ n) ≡ false)
  within low =
      let same : m ≡ p ^ n = given ∙ saturated_means (p ^ n) (rw given at low) in
      (same, le-ltb 4294967295 (p ^ n) (rw same at low))

pub returns-then-n-eq0 : goal.returns-then-n-eq0
returns-then-n-eq0 c =
    let a = c.args in
    let m = c.power-modulus.result in
    let n_is : not_precise a.p a.n ≡ true =
    ⊎_elim (λ z. or_left (eqb a.n 0) (ltb 4294967295 (a.p ^ a.n)) (eq-eqb a.n 0 z)) (λ w.
    or_right (eqb a.n 0) (ltb 4294967295 (a.p ^ a.n)) (over a.p a.n m c.power-modulus.ensures (lt-ltb 4294967295 m w.1))) c.then-n-eq0.either in
    sym (precision-5 a.p a.n n_is)

pub returns : goal.returns
returns c =
    let a = c.args in
    let (same, fits) = within a.p a.n c.power-modulus.result c.power-modulus.ensures c.if-modulus-gt4294967295.false in
    let n_is : not_precise a.p a.n ≡ false = rw (ne_eqb a.n 0 c.if-n-eq0.false, fits) in
    ap Ok same ∙ sym (precision-passes a.p a.n n_is)
