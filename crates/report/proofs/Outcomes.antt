-- Outcomes of a step, by what the bytes and the totals are.
use Rattle.std.specs.Prelude.{Result, Ok, Err}
use mathlib.Core.Path.{◌≡◌, refl, ap, ◌∙◌}
use mathlib.Core.Bool.{Bool, true, false, cond}
use mathlib.Core.List.{List, [], ◌∷◌, ◌++◌}
use Prim.Native.Nat.{ℕ, ◌≤◌, ◌<◌}
use native.Mathlib.Omega.{arith}
use borrow.Author.Tests.{le-leb, lt-leb, le-ltb, ltb-false}
use lib.Dec.{ltb, leb}
use lib.ListN.{length, length-append}
use Rattle.refusal.specs.declared.Refusal.{Refusal}
use Rattle.refusal.specs.declared.Refusal.TheVariants.{TooManyProblems}
use Rattle.text.specs.declared.Problem.{Problem}
use Rattle.text.specs.Form.{problem_at}
use Rattle.text.proofs.Enough.{long_told}
use Rattle.text.proofs.Front.{given-same}
use Rattle.writer.specs.Output.{refusal_line, row_line}
use Rattle.report.specs.declared.step.Totals.{Totals}
use Rattle.report.specs.Report.{from_start}
use Rattle.report.specs.Run.{Outcome, stop, wait}
use Rattle.report.specs.inner.Outcomes.{outcome_by, outcome, ending_by, ending}

-- no byte is there
pub none_there : (s : Totals) (w : List ℕ) → length w ≡ 0 → outcome s w ≡ wait
unfolding outcome
none_there s [] e = refl
none_there s (b ∷ w) e = absurd (omega arith)

-- a byte is there, and 1,000 problems are done
pub too_many : (s : Totals) (w : List ℕ) → (length w ≡ 0 → ⊥) → 1000 ≤ s.problems
    → outcome s w ≡ stop (refusal_line (TooManyProblems s.at))
unfolding outcome
too_many s [] some h = absurd (some refl)
too_many s (b ∷ w) some h = rw (le-leb 1000 s.problems h)

-- or not yet
pub by_problem : (s : Totals) (w : List ℕ) → (length w ≡ 0 → ⊥) → s.problems < 1000
    → outcome s w ≡ outcome_by s w (problem_at w 0)
unfolding outcome
by_problem s [] some h = absurd (some refl)
by_problem s (b ∷ w) some h = rw (lt-leb 1000 s.problems h)

-- the end of the text, with a byte left
pub ending-some : (s : Totals) (w : List ℕ) → (length w ≡ 0 → ⊥) → ending s w ≡ ending_by s (problem_at w 0)
unfolding ending
ending-some s [] some = absurd (some refl)
ending-some s (b ∷ w) some = refl

-- and with none
pub ending_none : (s : Totals) (w : List ℕ) → length w ≡ 0 → ending s w ≡ row_line (s.problems ∷ s.rootless ∷ s.roots ∷ [])
unfolding ending
ending_none s [] e = refl
ending_none s (b ∷ w) e = absurd (omega arith)

-- Bytes to come change no outcome but `wait`

refused_long : (s : Totals) (w : List ℕ) (r : Refusal) → (outcome_by s w (Err r) ≡ wait → ⊥) → 1399 ≤ length w
refused_long s w r ne = go (ltb (length w) 1399) refl
  where
    go : (b : Bool) → ltb (length w) 1399 ≡ b → 1399 ≤ length w
    go true e = absurd (ne (ap (λ (b : Bool). cond b wait (stop (refusal_line (from_start s.at r)))) e))
    go false e = ltb-false (length w) 1399 e

-- what the reader gives of w, where it tells the outcome, is what it gives of the longer text
told : (s : Totals) (w t : List ℕ) (a : Result Problem Refusal) → problem_at w 0 ≡ a → (outcome_by s w a ≡ wait → ⊥)
    → problem_at (w ++ t) 0 ≡ problem_at w 0
told s w t (Ok P) is ne = given-same w P is t
told s w t (Err r) is ne = long_told w t (refused_long s w r ne)

-- a longer text with the same problem has the same outcome
same_by : (s : Totals) (w t : List ℕ) (a : Result Problem Refusal) → (outcome_by s w a ≡ wait → ⊥)
    → outcome_by s (w ++ t) a ≡ outcome_by s w a
same_by s w t (Ok P) ne = refl
same_by s w t (Err r) ne =
    let long = refused_long s w r ne in
    rw (le-ltb (length w) 1399 long, le-ltb (length (w ++ t)) 1399 (omega (arith, length-append w t, long)))

by_kept : (s : Totals) (w t : List ℕ) → (outcome_by s w (problem_at w 0) ≡ wait → ⊥)
    → outcome_by s (w ++ t) (problem_at (w ++ t) 0) ≡ outcome_by s w (problem_at w 0)
by_kept s w t ne =
    ap (outcome_by s (w ++ t)) (told s w t (problem_at w 0) refl ne) ∙ same_by s w t (problem_at w 0) ne

pub kept : (s : Totals) (w t : List ℕ) → (outcome s w ≡ wait → ⊥) → outcome s (w ++ t) ≡ outcome s w
unfolding outcome
kept s [] t ne = absurd (ne refl)
kept s (b ∷ w) t ne = go (leb 1000 s.problems) ne
  where
    stopped : Outcome Totals
    stopped = stop (refusal_line (TooManyProblems s.at))

    go : (c : Bool) → (cond c stopped (outcome_by s (b ∷ w) (problem_at (b ∷ w) 0)) ≡ wait → ⊥)
        → cond c stopped (outcome_by s (b ∷ (w ++ t)) (problem_at (b ∷ (w ++ t)) 0))
        ≡ cond c stopped (outcome_by s (b ∷ w) (problem_at (b ∷ w) 0))
    go true d = refl
    go false d = by_kept s (b ∷ w) t d
