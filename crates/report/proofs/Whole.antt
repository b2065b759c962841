-- The report that the program writes is the report on the whole text, however the reads cut it.
use Rattle.std.specs.Prelude.{Result, Ok, Err}
use mathlib.Core.Path.{◌≡◌, refl, sym, ap, ◌∙◌}
use mathlib.Core.Bool.{Bool, true, false, cond}
use mathlib.Core.List.{List, [], ◌∷◌, ◌++◌}
use Prim.Native.Nat.{ℕ, zero, suc, ◌+◌, ◌-◌, ◌≤◌, ◌<◌}
use native.Mathlib.Omega.{arith}
use native.Mathlib.Decide.{dec_le, ℕ_discrete}
use lib.Dec.{ltb}
use lib.IntN.{ℤ}
use lib.ListN.{length, take, drop}
use Rattle.theory.specs.Counts.{solutions, count_row}
use Rattle.refusal.specs.declared.Refusal.{Refusal}
use Rattle.refusal.specs.declared.Refusal.TheVariants.{TooManyProblems}
use Rattle.refusal.specs.Rules.{Verdict, passes, refuses, tried}
use Rattle.numbers.specs.Modulus.{modulus_rules}
use Rattle.text.specs.declared.Problem.{Problem}
use Rattle.text.specs.Form.{problem_at}
use Rattle.text.proofs.Front.{given-told}
use Rattle.writer.specs.Output.{refusal_line, text_or, row_line}
use Rattle.report.specs.declared.step.Totals.{Totals}
use Rattle.report.specs.Report.{start, after, from_start, report_by, lines_or_last, report_from, report_text}
use Rattle.report.specs.Run.{Outcome, next, stop, wait, joined, Run}
use Rattle.report.specs.inner.Outcomes.{next_or, outcome_of, outcome_by, outcome, ending_by, ending}
use Rattle.report.proofs.Runs.{Laws, runs}
use Rattle.report.proofs.Outcomes.{none_there, too_many, by_problem, ending-some, kept}

-- the report from a place on
abbrev R : Totals → List ℕ → List ℕ
R s w = report_from (1000 - s.problems) s w

-- what an outcome says of it
abbrev Says : Totals → List ℕ → Outcome Totals → Type 0
Says s w (next s' l n) = (R s w ≡ l ++ R s' (drop n w)) × (n ≤ length w)
Says s w (stop l) = R s w ≡ l
Says s w wait = R s w ≡ ending s w

-- no byte is there
from_none : (k : ℕ) (s : Totals) (w : List ℕ) → length w ≡ 0 → report_from k s w ≡ ending s w
unfolding report_from ending
from_none zero s [] e = refl
from_none (suc k) s [] e = refl
from_none zero s (b ∷ w) e = absurd (omega arith)
from_none (suc k) s (b ∷ w) e = absurd (omega arith)

module _ (s : Totals) (w : List ℕ) (some : length w ≡ 0 → ⊥) where
  or-last : (lines : List ℕ) → lines_or_last s w lines ≡ lines
  or-last lines = go w some
    where
      go : (w : List ℕ) → (length w ≡ 0 → ⊥) → lines_or_last s w lines ≡ lines
      go [] h = absurd (h refl)
      go (b ∷ w) h = refl

  -- 1,000 problems are done
  says-full : 1000 ≤ s.problems → R s w ≡ refusal_line (TooManyProblems s.at)
  unfolding report_from
  says-full h =
      let z : 1000 - s.problems ≡ 0 = omega arith in
      ap (λ (k : ℕ). report_from k s w) z ∙ or-last (refusal_line (TooManyProblems s.at))

  module _ (room : s.problems < 1000) where
    rest : Totals → List ℕ → List ℕ
    rest s' w' = report_from (1000 - (s.problems + 1)) s' w'

    from-problem : (a : Result Problem Refusal) → problem_at w 0 ≡ a → R s w ≡ report_by rest s w a
    unfolding report_from rest
    from-problem a is =
        let k = 1000 - (s.problems + 1) in
        let z : 1000 - s.problems ≡ suc k = omega arith in
        ap (λ (j : ℕ). report_from j s w) z
        ∙ or-last (report_by (λ s' w'. report_from k s' w') s w (problem_at w 0))
        ∙ ap (report_by (λ s' w'. report_from k s' w') s w) is

    -- a problem that is read
    says-given : (P : Problem) → problem_at w 0 ≡ Ok P → Says s w (outcome_by s w (Ok P))
    unfolding outcome_of rest
    says-given P is = go (tried (modulus_rules P.p P.n)) (from-problem (Ok P) is)
      where
        f : List ℤ
        f = take P.count P.coefficients

        lines : List ℕ
        lines = row_line (count_row f P.p P.n) ++ rest (after s P.end (solutions f P.p P.n)) (drop P.end w)

        go : (v : Verdict) → R s w ≡ text_or v lines
            → Says s w (next_or v (after s P.end (solutions f P.p P.n)) (row_line (count_row f P.p P.n)) P.end)
        go passes h = (h, (given-told w P is).inside)
        go (refuses r) h = h

    -- one that is refused
    says-refused : (r : Refusal) → problem_at w 0 ≡ Err r → Says s w (outcome_by s w (Err r))
    says-refused r is = go (ltb (length w) 1399) (from-problem (Err r) is)
      where
        go : (b : Bool) → R s w ≡ refusal_line (from_start s.at r) → Says s w (cond b wait (stop (refusal_line (from_start s.at r))))
        go true h = h ∙ sym (ending-some s w some ∙ ap (ending_by s) is)
        go false h = h

    says-problem : (a : Result Problem Refusal) → problem_at w 0 ≡ a → Says s w (outcome_by s w a)
    says-problem (Ok P) is = says-given P is
    says-problem (Err r) is = says-refused r is

says : (s : Totals) (w : List ℕ) → Says s w (outcome s w)
says s w = go (ℕ_discrete (length w) 0) (dec_le 1000 s.problems)
  where
    go : Dec (length w ≡ 0) → Dec (1000 ≤ s.problems) → Says s w (outcome s w)
    go (yes e) d = rw (none_there s w e) (from_none (1000 - s.problems) s w e)
    go (no some) (yes h) = rw (too_many s w some h) (says-full s w some h)
    go (no some) (no h) = rw (by_problem s w some (omega arith)) (says-problem s w some (omega arith) (problem_at w 0) refl)

says_of : (s : Totals) (w : List ℕ) (o : Outcome Totals) → outcome s w ≡ o → Says s w o
says_of s w o e = rw (sym e) (says s w)

laws : Laws outcome ending R
laws =
    record {
      kept = kept;
      inside = λ s s' w l n e. (says_of s w (next s' l n) e).1;
      at_next = λ s s' w l n e. (says_of s w (next s' l n) e).0;
      at_stop = λ s w l e. says_of s w (stop l) e;
      at_wait = λ s w e. says_of s w wait e;
    }

-- a program that starts with no byte read writes the report on all that its reads deliver
pub report_of_any_pieces : (pieces : List (List ℕ)) (out : List ℕ) → Run outcome ending start [] pieces out
    → out ≡ report_text (joined pieces)
unfolding report_text
report_of_any_pieces pieces out r = runs outcome ending R laws r
