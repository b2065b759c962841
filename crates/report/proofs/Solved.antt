-- A problem that is read: its line, from what the solver and the writer say.
use Rattle.std.specs.Prelude.{Result, Ok, Err}
use mathlib.Core.Path.{◌≡◌, refl, sym, ap, ap₂, ◌∙◌}
use mathlib.Core.List.{List, [], ◌∷◌, ◌++◌}
use Prim.Native.Nat.{ℕ, suc, ◌+◌, ◌≤◌, ◌<◌}
use native.Mathlib.Omega.{arith}
use lib.IntN.{ℤ}
use lib.ListN.{length, length-take, get_or, take, drop, get_or-append}
use lib.Seq.{take_at}
use Rattle.theory.specs.Counts.{solutions, count_row}
use Rattle.theory.proofs.Counts.{row_length, row_at}
use Rattle.refusal.specs.declared.Refusal.{Refusal}
use Rattle.refusal.specs.Rules.{Verdict, passes, refuses, tried, filled, rule11, value_or}
use Rattle.refusal.proofs.Rules.{rule11_passes, coefficients_lead, tried_leads, tried_refuses, value_passes, value_refuses}
use Rattle.numbers.specs.Modulus.{modulus_rules}
use Rattle.solver.specs.Counts.{counts_verdict, tabulated_of, counts_after}
use Rattle.writer.specs.Output.{refusal_line, row_line}
use Rattle.report.specs.declared.step.Totals.{Totals}
use Rattle.report.specs.declared.step.Stepped.TheVariants.{Line, Stop}
use Rattle.report.specs.Report.{after}
use Rattle.report.specs.Run.{next, stop}
use Rattle.report.specs.inner.Outcomes.{next_or, outcome_of, step_of, line_of, with_line, Small, Counted, After}
use Rattle.report.proofs.Totals.{after_small}
use Rattle.report.proofs.Counted.{precision-most, roots_few}
use Rattle.report.proofs.Written.{line-counted, row_whole}

-- What the rules on p and n say of the outcome

module _ (s : Totals) (f : List ℤ) (p n end : ℕ) where
  outcome-next : tried (modulus_rules p n) ≡ passes
      → outcome_of s f p n end ≡ next (after s end (solutions f p n)) (row_line (count_row f p n)) end
  unfolding outcome_of
  outcome-next e = ap (λ (v : Verdict). next_or v (after s end (solutions f p n)) (row_line (count_row f p n)) end) e

  outcome-stop : (r : Refusal) → tried (modulus_rules p n) ≡ refuses r → outcome_of s f p n end ≡ stop (refusal_line r)
  unfolding outcome_of
  outcome-stop r e = ap (λ (v : Verdict). next_or v (after s end (solutions f p n)) (row_line (count_row f p n)) end) e

-- What the solver says

-- a row of slots that the solver filled
pub record FilledRow (f : List ℤ) (p n : ℕ) (row : List ℕ) : Type 0 where
  pub passed : tried (modulus_rules p n) ≡ passes
  pub row_is : take (n + 1) row ≡ count_row f p n
  pub last_is : get_or row n 0 ≡ solutions f p n
  pub within : n + 1 ≤ length row

-- 1 to 65 coefficients, and a row of 32 slots
module _ (f : List ℤ) (p n : ℕ) (some : 0 < length f) (few : length f ≤ 65) (old : List ℕ) (slots : 32 ≡ length old) where
  rows-enough : (v : Verdict) → tried (modulus_rules p n) ≡ v → tried (modulus_rules p n ++ rule11 (length old) (suc n) ∷ []) ≡ v
  rows-enough passes e =
      let h = precision-most f p n e in
      tried_leads (modulus_rules p n) (rule11 (length old) (suc n) ∷ []) e
      ∙ ap (λ (v : Verdict). tried (v ∷ [])) (rule11_passes (length old) (suc n) (omega arith))
  rows-enough (refuses r) e = tried_refuses (modulus_rules p n) (rule11 (length old) (suc n) ∷ []) r e

  verdict-is : counts_verdict f p n (length old) ≡ tried (modulus_rules p n)
  unfolding counts_verdict
  verdict-is =
      coefficients_lead (length f) (λ e. omega arith) few (modulus_rules p n ++ rule11 (length old) (suc n) ∷ [])
      ∙ rows-enough (tried (modulus_rules p n)) refl

  module _ (a : Result Unit Refusal) (answer-is : a ≡ tabulated_of f p n (length old)) where
    answer : a ≡ value_or (tried (modulus_rules p n)) (tt {0})
    unfolding tabulated_of
    answer = answer-is ∙ ap (λ (v : Verdict). value_or v (tt {0})) verdict-is

    pub filled-passes : a ≡ Ok (tt {0}) → tried (modulus_rules p n) ≡ passes
    filled-passes e = (value_passes (tried (modulus_rules p n)) tt tt (sym answer ∙ e)).0

    pub refused-refuses : (r : Refusal) → a ≡ Err r → tried (modulus_rules p n) ≡ refuses r
    refused-refuses r e = value_refuses (tried (modulus_rules p n)) tt r (sym answer ∙ e)

  -- the row after a call that passes
  module _ (now : List ℕ) (now-is : now ≡ counts_after f p n old) (pass : tried (modulus_rules p n) ≡ passes) where
    abbrev row : List ℕ
    row = count_row f p n

    filled_is : now ≡ row ++ drop (length row) old
    unfolding counts_after
    filled_is = now-is ∙ ap (λ (v : Verdict). filled v row old) (verdict-is ∙ pass)

    row-taken : take (n + 1) now ≡ row
    row-taken = ap (take (n + 1)) filled_is ∙ take_at row (drop (length row) old) (n + 1) (row_length f p (suc n) ∙ omega arith)

    last_is : get_or now n 0 ≡ solutions f p n
    last_is =
        ap (λ (l : List ℕ). get_or l n 0) filled_is
        ∙ get_or-append row (drop (length row) old) 0 n (omega (arith, row_length f p (suc n)))
        ∙ row_at f p (suc n) n (omega arith)

    pub row-filled : FilledRow f p n now
    row-filled =
        record {
          passed = pass;
          row_is = row-taken;
          last_is = last_is;
          within = omega (arith, ap length row-taken, row_length f p (suc n), length-take (n + 1) now);
        }

-- What a step answers, from its parts

module _ (s : Totals) (f : List ℤ) (p n end : ℕ) (old now : List ℕ) where
  -- a line of counts
  pub line-answer : Small s → s.problems < 1000 → end ≤ 1399 → (row : List ℕ) → FilledRow f p n row
      → (t : Totals) → t ≡ after s end (get_or row n 0) → (bytes : ℕ) → bytes ≡ length (row_line (take 32 (take (n + 1) row)))
      → now ≡ with_line (row_line (take 32 (take (n + 1) row))) old
      → (Line t end bytes ≡ step_of (outcome_of s f p n end))
      × ((now ≡ line_of (outcome_of s f p n end) old) × After s (Line t end bytes) end now)
  line-answer small room short row F t t-is bytes bytes-are now-is =
      let line = row_line (count_row f p n) in
      let few : length (take (n + 1) row) ≤ 32 =
      omega (arith, ap length F.row_is, row_length f p (suc n), precision-most f p n F.passed) in
      let line-is : row_line (take 32 (take (n + 1) row)) ≡ line = row_whole (take (n + 1) row) few ∙ ap row_line F.row_is in
      let t-after : t ≡ after s end (solutions f p n) = t-is ∙ ap (after s end) F.last_is in
      let b : bytes ≡ length line = bytes-are ∙ ap length line-is in
      let l : now ≡ with_line line old = now-is ∙ ap (λ (x : List ℕ). with_line x old) line-is in
      let t-small : Small t = rw t-after (after_small s end (solutions f p n) small room short (roots_few f p n F.passed)) in
      let t-problems : t.problems ≡ s.problems + 1 = ap (λ (u : Totals). u.problems) t-after in
      rw (outcome-next s f p n end F.passed) (
        ap₂ (λ (u : Totals) (k : ℕ). Line u end k) t-after b,
        (l, (t-small, (t-problems, (omega arith, line-counted line old now bytes b l)))),
      )

  -- a refusal of p and n
  pub refusal-answer : (r : Refusal) → tried (modulus_rules p n) ≡ refuses r → (bytes : ℕ) → bytes ≡ length (refusal_line r)
      → now ≡ with_line (refusal_line r) old → Counted bytes now
      → (Stop bytes ≡ step_of (outcome_of s f p n end)) × ((now ≡ line_of (outcome_of s f p n end) old) × After s (Stop bytes) end now)
  refusal-answer r e bytes b l counted = rw (outcome-stop s f p n end r e) (ap Stop b, (l, counted))
