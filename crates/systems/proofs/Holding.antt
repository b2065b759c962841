-- What is known of a system that holds a model.
use mathlib.Core.Path.{◌≡◌, refl}
use mathlib.Core.List.{[], ◌∷◌}
use Prim.Native.Nat.{ℕ, ◌^◌, ◌≤◌, ◌<◌}
use native.Mathlib.Omega.{arith}
use borrow.Author.Tests.{eqb-false, ltb-false}
use lib.Dec.{eqb, ltb}
use lib.ListN.{length}
use Rattle.refusal.specs.declared.Refusal.TheVariants.{NoCoefficient, TooManyCoefficients}
use Rattle.refusal.specs.Rules.{passes, tried, rule2, rule3}
use Rattle.refusal.proofs.Rules.{tried-first, rule_passes}
use Rattle.numbers.specs.inner.Usable.{Usable}
use Rattle.numbers.proofs.Rules.{passes-usable}
use Rattle.systems.specs.declared.System.{System}
use Rattle.systems.specs.Model.{Model, common}
use Rattle.systems.specs.Calls.{open_verdict}
use Rattle.systems.specs.State.{Holds}
use Rattle.systems.specs.inner.Slots.{Polynomials}
use Rattle.systems.proofs.Commons.{list-few}

-- coefficients that rules 2 and 3 pass
pub counted : (count : ℕ) → tried (rule2 count ∷ rule3 count ∷ []) ≡ passes → (0 < count) × (count ≤ 65)
counted count e =
    let two = tried-first (rule2 count) (rule3 count ∷ []) e in
    let three = tried-first (rule3 count) [] two.1 in
    let none = eqb-false count 0 (rule_passes (eqb count 0) NoCoefficient two.0) in
    (positive none, ltb-false 65 count (rule_passes (ltb 65 count) TooManyCoefficients three.0))
  where
    positive : (count ≡ 0 → ⊥) → 0 < count
    positive h = omega arith

module _ {s : System} {M : Model} (H : Holds s M) where
  pub held-usable : Usable M.p M.n (M.p ^ M.n)
  unfolding open_verdict
  held-usable = passes-usable M.p M.n H.accepted (M.p ^ M.n) refl

  pub held-polynomials : Polynomials M.held
  held-polynomials =
      record {
        some = λ c u. (counted (length c.coefficients) (H.polynomials c u)).0;
        few = λ c u. (counted (length c.coefficients) (H.polynomials c u)).1;
      }

  -- "It has at most 1,024 classes."
  pub common-few : length (common M) ≤ 1024
  unfolding common
  common-few = list-few M.p M.n held-usable M.held held-polynomials H.few
