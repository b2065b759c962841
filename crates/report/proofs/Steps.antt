-- What a step and the end of the text answer, from what the reader gives.
use Rattle.std.specs.Prelude.{Ok, Err}
use mathlib.Core.Path.{◌≡◌, sym, ap, ◌∙◌}
use mathlib.Core.Bool.{Bool, cond}
use mathlib.Core.List.{List, []}
use Prim.Native.Nat.{ℕ, ◌≤◌, ◌<◌}
use native.Mathlib.Omega.{arith}
use borrow.Author.Tests.{lt-ltb, le-ltb}
use lib.IntN.{ℤ}
use lib.ListN.{length, take}
use lib.Seq.{length-take-le}
use Rattle.theory.specs.Counts.{solutions, count_row}
use Rattle.refusal.specs.declared.Refusal.{Refusal}
use Rattle.refusal.specs.Number.{place_of}
use Rattle.refusal.specs.Rules.{Verdict, passes, refuses, tried}
use Rattle.numbers.specs.Modulus.{modulus_rules}
use Rattle.text.specs.declared.Problem.{Problem}
use Rattle.text.specs.Form.{problem_at}
use Rattle.text.proofs.Front.{Told, given-told}
use Rattle.text.proofs.Places.{front-place}
use Rattle.writer.specs.Output.{refusal_line, row_line}
use Rattle.report.specs.declared.step.Totals.{Totals}
use Rattle.report.specs.declared.step.Stepped.{Stepped}
use Rattle.report.specs.declared.step.Stepped.TheVariants.{Line, Stop, Wait}
use Rattle.report.specs.Report.{after, from_start}
use Rattle.report.specs.Run.{Outcome, stop, wait}
use Rattle.report.specs.inner.Outcomes.{next_or, outcome_of, outcome_by, outcome, ending_by, ending, step_of, line_of, Small, After}
use Rattle.report.proofs.Outcomes.{by_problem, ending-some}

-- the offset of small totals
pub offset_small : (s : Totals) → Small s → s.at ≤ 1399000
offset_small s small = omega (arith, small.few, small.short)

-- a problem that is read never waits
never_waits : (s : Totals) (f : List ℤ) (p n end : ℕ) → Wait ≡ step_of (outcome_of s f p n end) → ⊥
unfolding outcome_of
never_waits s f p n end e = go (tried (modulus_rules p n)) e
  where
    go : (v : Verdict) → Wait ≡ step_of (next_or v (after s end (solutions f p n)) (row_line (count_row f p n)) end) → ⊥
    go passes d = let z : ◌≡◌ {A = ℕ} 0 1 = cc d in omega arith
    go (refuses r) d = let z : ◌≡◌ {A = ℕ} 0 1 = cc d in omega arith

-- a row of which c coefficients are read, from a problem of so many bytes
pub record GivenRow (row : List ℤ) (c end : ℕ) : Type 0 where
  pub within : c ≤ 65
  pub counted : c ≡ length (take c row)
  pub some : 0 < length (take c row)
  pub few : length (take c row) ≤ 65
  pub short : end ≤ 1399

-- the bytes w hold a byte
module _ (s : Totals) (w : List ℕ) (some : length w ≡ 0 → ⊥) where
  -- the problem P at their front
  module _ (P : Problem) (is : problem_at w 0 ≡ Ok P) where
    told : Told P w
    told = given-told w P is

    pub given-row : GivenRow P.coefficients P.count P.end
    given-row =
        let counted : P.count ≡ length (take P.count P.coefficients) = sym (length-take-le P.count P.coefficients told.row_long) in
        record {
          within = told.few_coefficients;
          counted = counted;
          some = omega (arith, counted, told.some_coefficient);
          few = omega (arith, counted, told.few_coefficients);
          short = omega (arith, told.end_is, told.few_coefficients);
        }

    -- the answer to the problem is that of the step
    pub given-step : s.problems < 1000 → (r : Stepped) (old now : List ℕ)
        → r ≡ step_of (outcome_of s (take P.count P.coefficients) P.p P.n P.end)
        → now ≡ line_of (outcome_of s (take P.count P.coefficients) P.p P.n P.end) old → After s r P.end now
        → (r ≡ step_of (outcome s w)) × ((now ≡ line_of (outcome s w) old) × After s r (length w) now)
    given-step room r old now answer line after =
        rw (by_problem s w some room ∙ ap (outcome_by s w) is) (answer, (line, go r answer after))
      where
        go : (r : Stepped) → r ≡ step_of (outcome_of s (take P.count P.coefficients) P.p P.n P.end) → After s r P.end now
            → After s r (length w) now
        go (Line t k size) e a = (a.0, (a.1.0, (omega (arith, a.1.1.0, told.inside), a.1.1.1)))
        go (Stop size) e a = a
        go Wait e a = absurd (never_waits s (take P.count P.coefficients) P.p P.n P.end e)

    -- at the end of the text nothing is left of it
    pub given-ending : ending s w ≡ []
    given-ending = ending-some s w some ∙ ap (ending_by s) is

  -- the reader's refusal
  module _ (r : Refusal) (is : problem_at w 0 ≡ Err r) where
    pub refused-place : place_of r ≤ 1399
    refused-place = front-place w r is

    outcome-cond : (b : Bool) → Outcome Totals
    outcome-cond b = cond b wait (stop (refusal_line (from_start s.at r)))

    by_refused : s.problems < 1000 → outcome s w ≡ outcome_by s w (Err r)
    by_refused room = by_problem s w some room ∙ ap (outcome_by s w) is

    pub refused-short : s.problems < 1000 → length w < 1399 → outcome s w ≡ wait
    unfolding outcome-cond
    refused-short room h = by_refused room ∙ ap outcome-cond (lt-ltb (length w) 1399 h)

    pub refused-long : s.problems < 1000 → 1399 ≤ length w → outcome s w ≡ stop (refusal_line (from_start s.at r))
    unfolding outcome-cond
    refused-long room h = by_refused room ∙ ap outcome-cond (le-ltb (length w) 1399 h)

    pub refused-ending : ending s w ≡ refusal_line (from_start s.at r)
    refused-ending = ending-some s w some ∙ ap (ending_by s) is
