-- 64 slots are enough: a polynomial with at most 65 coefficients has at most 64 classes, so that of the solver's rules only those on p and
-- n are left.
use Rattle.std.specs.Prelude.{Result, Ok, Err}
use Rattle.refusal.specs.declared.Refusal.{Refusal}
use mathlib.Core.Path.{◌≡◌, refl, sym, ap, ◌∙◌}
use mathlib.Core.Bool.{Bool, true, false}
use mathlib.Core.List.{List, ◌++◌}
use Prim.Native.Nat.{ℕ, ◌≤◌, ◌<◌}
use native.Mathlib.Omega.{arith}
use lib.IntN.{ℤ}
use lib.ListN.{length}
use Rattle.theory.specs.Degree.{all_zero}
use Rattle.theory.specs.Polynomial.{reduced, roots}
use Rattle.theory.specs.Shortest.{shortest}
use Rattle.theory.specs.SignedList.{signed_list}
use Rattle.theory.proofs.Numbers.Prime.{prime_pos}
use Rattle.theory.proofs.Polynomials.Roots.{all_zero_list, at_most_D, D-lt}
use Rattle.theory.proofs.Signed.Entries.{signed-length}
use Rattle.refusal.specs.Rules.{passes, tried}
use Rattle.refusal.proofs.Rules.{coefficients_lead, rule6_three_passes, rule11_passes}
use Rattle.numbers.specs.Modulus.{modulus_rules, modulus_of}
use Rattle.numbers.specs.inner.Usable.{Usable}
use Rattle.numbers.proofs.Rules.{usable, usable_leads, modulus-refuses, refused-leads}
use Rattle.solver.specs.Solve.{Lists, list_rules, solution, solver_verdict}

-- three lists of 64 slots
pub record Slots64 (given : Lists) : Type 0 where
  pub residues : length given.residues ≡ 64
  pub levels : length given.levels ≡ 64
  pub marks : length given.marks ≡ 64

-- at most 64 classes
pub solution_few : (f : List ℤ) {p n m : ℕ} → Usable p n m → length f ≤ 65 → length (solution f p n) ≤ 64
unfolding solution
solution_few f {p} {n} U few = go (all_zero (reduced f p n)) refl
  where
    same : length (signed_list (roots f p n) p n) ≡ length (shortest (roots f p n) p n)
    same = signed-length (roots f p n) p n (prime_pos U.prime)

    go : (t : Bool) → all_zero (reduced f p n) ≡ t → length (signed_list (roots f p n) p n) ≤ 64
    go true z = omega (arith, same, ap length (all_zero_list f p n U.prime.two z))
    go false z = omega (arith, same, at_most_D f p n U.prime z, D-lt f p n U.prime z)

-- so the rules on the slots pass
slots_pass : (given : Lists) → Slots64 given → (k : ℕ) → k ≤ 64 → tried (list_rules given k) ≡ passes
slots_pass given S k h =
    rw (
      rule6_three_passes (length given.residues) (length given.levels) (length given.marks) (S.residues ∙ sym S.levels)
          (S.residues ∙ sym S.marks),
      rule11_passes (length given.residues) k (omega (arith, S.residues)),
    )

-- with 64 slots the solver's rules are those on p and n
pub verdict_of_modulus : (f : List ℤ) (p n : ℕ) → 0 < length f → length f ≤ 65 → (given : Lists) → Slots64 given
    → solver_verdict f p n given ≡ tried (modulus_rules p n)
unfolding solver_verdict
verdict_of_modulus f p n some few given S =
    coefficients_lead (length f) (λ e. omega arith) few (modulus_rules p n ++ list_rules given (length (solution f p n)))
    ∙ go (modulus_of p n) refl
  where
    go : (M : Result ℕ Refusal) → modulus_of p n ≡ M
        → tried (modulus_rules p n ++ list_rules given (length (solution f p n))) ≡ tried (modulus_rules p n)
    go (Ok m) e =
        let U = usable p n m e in
        let k = length (solution f p n) in
        usable_leads U (list_rules given k) ∙ slots_pass given S k (solution_few f U few) ∙ sym U.accepted
    go (Err r) e = refused-leads p n r e (list_rules given (length (solution f p n))) ∙ sym (modulus-refuses p n r e)
