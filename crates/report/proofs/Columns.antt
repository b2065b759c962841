-- Every number that the report prints fits its column.
use Rattle.std.specs.Prelude.{Result, Ok, Err}
use mathlib.Core.Path.{◌≡◌, refl}
use mathlib.Core.List.{List, [], ◌∷◌}
use Prim.Native.Nat.{ℕ, zero, suc, ◌+◌, ◌≤◌, ◌<◌}
use native.Mathlib.Omega.{arith}
use lib.IntN.{ℤ}
use lib.ListN.{get_or, take, drop}
use Rattle.theory.specs.Counts.{solutions, count_row}
use Rattle.refusal.specs.declared.Refusal.{Refusal}
use Rattle.refusal.specs.declared.Refusal.TheVariants.{TooManyProblems}
use Rattle.refusal.specs.Rules.{Verdict, passes, refuses, tried}
use Rattle.refusal.proofs.Places.{PlaceAtMost}
use Rattle.numbers.specs.Modulus.{modulus_rules}
use Rattle.numbers.proofs.Places.{modulus-place}
use Rattle.text.specs.declared.Problem.{Problem}
use Rattle.text.specs.Form.{problem_at}
use Rattle.text.proofs.Places.{front-place}
use Rattle.text.proofs.Front.{given-told}
use Rattle.writer.specs.Fits.{RefusalFits, FitsOr, RowFits}
use Rattle.writer.proofs.Fits.{refusal_fits, row_fits}
use Rattle.report.specs.declared.step.Totals.{Totals}
use Rattle.report.specs.Report.{start, after, from_start}
use Rattle.report.specs.Fits.{FitsBy, FitsOrLast, FitsFrom, ReportFits}
use Rattle.report.specs.inner.Outcomes.{Small}
use Rattle.report.proofs.Totals.{start_small, after_small, from_start_place}
use Rattle.report.proofs.Counted.{roots_few, row-few}

three : (a b c : ℕ) → a ≤ 18446744073709551615 → b ≤ 18446744073709551615 → c ≤ 18446744073709551615 → RowFits (a ∷ b ∷ c ∷ [])
three a b c ha hb hc = row_fits (a ∷ b ∷ c ∷ []) small
  where
    small : (i : ℕ) → i < 3 → get_or (a ∷ b ∷ c ∷ []) i 0 ≤ 18446744073709551615
    small zero h = ha
    small (suc zero) h = hb
    small (suc (suc zero)) h = hc
    small (suc (suc (suc i))) h = absurd (omega arith)

module _ (s : Totals) (small : Small s) where
  last_fits : RowFits (s.problems ∷ s.rootless ∷ s.roots ∷ [])
  last_fits =
      three s.problems s.rootless s.roots (omega (arith, small.few)) (omega (arith, small.few, small.rootless_few))
      (omega (arith, small.few, small.roots_few))

  or-last : (left : List ℕ) (Lines : Type 0) → Lines → FitsOrLast s left Lines
  or-last [] Lines fits = last_fits
  or-last (byte ∷ left) Lines fits = fits

  too-many-fits : RefusalFits (TooManyProblems s.at)
  too-many-fits = refusal_fits (TooManyProblems s.at) (omega (arith, small.few, small.short))

  -- the problem at the front
  module _ (left : List ℕ) where
    refused-fits : (r : Refusal) → problem_at left 0 ≡ Err r → RefusalFits (from_start s.at r)
    refused-fits r is =
        refusal_fits (from_start s.at r)
        (omega (arith, small.few, small.short, from_start_place s.at r, front-place left r is))

    given-fits : (Rest : Totals → List ℕ → Type 0) → s.problems < 1000
        → ((t : Totals) → Small t → t.problems ≡ s.problems + 1 → (l : List ℕ) → Rest t l)
        → (P : Problem) → problem_at left 0 ≡ Ok P → FitsBy Rest s left (Ok P)
    given-fits Rest room rest P is = go (tried (modulus_rules P.p P.n)) refl (modulus-place P.p P.n)
      where
        f : List ℤ
        f = take P.count P.coefficients

        go : (v : Verdict) → tried (modulus_rules P.p P.n) ≡ v → PlaceAtMost 65535 v
            → FitsOr v (RowFits (count_row f P.p P.n) × Rest (after s P.end (solutions f P.p P.n)) (drop P.end left))
        go passes pass h =
            let T = given-told left P is in
            let short : P.end ≤ 1399 = omega (arith, T.end_is, T.few_coefficients) in
            let t = after_small s P.end (solutions f P.p P.n) small room short (roots_few f P.p P.n pass) in (
              row_fits (count_row f P.p P.n) (λ i h. omega (arith, row-few f P.p P.n pass i h)),
              rest (after s P.end (solutions f P.p P.n)) t refl (drop P.end left),
            )
        go (refuses r) pass h = refusal_fits r (omega arith)

from_fits : (more : ℕ) (s : Totals) (left : List ℕ) → Small s → s.problems + more ≤ 1000 → FitsFrom more s left
from_fits zero s left small h = or-last s small left (RefusalFits (TooManyProblems s.at)) (too-many-fits s small)
from_fits (suc more) s left small h =
    or-last s small left _ (go (λ t st e l. from_fits more t l st (omega arith)) (problem_at left 0) refl)
  where
    go : ((t : Totals) → Small t → t.problems ≡ s.problems + 1 → (l : List ℕ) → FitsFrom more t l)
        → (a : Result Problem Refusal) → problem_at left 0 ≡ a → FitsBy (λ s' left'. FitsFrom more s' left') s left a
    go rest (Ok P) is = given-fits s small left (λ s' left'. FitsFrom more s' left') (omega arith) rest P is
    go rest (Err r) is = refused-fits s small left r is

pub report_fits_columns : (text : List ℕ) → ReportFits text
report_fits_columns text = from_fits 1000 start text start_small (omega arith)
