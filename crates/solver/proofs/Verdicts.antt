-- What the solver and the test of a residue answer, by their rules: those on a polynomial, p and n first.
use Rattle.std.specs.Prelude.{Ok, Err}
use mathlib.Core.Path.{◌≡◌, refl, sym, ap, ◌∙◌}
use mathlib.Core.List.{List, [], ◌∷◌, ◌++◌}
use Prim.Native.Nat.{ℕ, suc, ◌+◌, ◌^◌, ◌≤◌, ◌<◌, min}
use native.Mathlib.Nat.{zero-add}
use native.Mathlib.Omega.{arith}
use borrow.Author.Tests.{ltb-false, eqb-false}
use lib.Dec.{eqb, ltb}
use lib.IntN.{ℤ}
use lib.ListN.{length, get_or}
use Rattle.theory.specs.Polynomial.{reduced, zeros, roots}
use Rattle.theory.specs.Shortest.{count}
use Rattle.theory.specs.Mark.{mark}
use Rattle.theory.specs.Live.{live}
use Rattle.theory.specs.Counts.{count_row}
use Rattle.theory.specs.inner.Overwritten.{Overwritten}
use Rattle.theory.proofs.Lists.Overwritten.{written_part}
use Rattle.theory.proofs.Numbers.Prime.{prime_pos}
use Rattle.theory.proofs.Counts.{row_length, row_at, solutions-zeros}
use Rattle.refusal.specs.declared.Refusal.{Refusal}
use Rattle.refusal.specs.declared.Refusal.TheVariants.{NoCoefficient, TooManyCoefficients, Lengths, TooFewSlots}
use Rattle.refusal.specs.Rules.{Verdict, passes, refuses, tried, rule2, rule3, rule8, rule11, value_or}
use Rattle.refusal.proofs.Rules.{rule2_refuses, rule2_passes, rule3_refuses, coefficients_lead, rule_passes, value_passes, value_refuses}
use Rattle.refusal.proofs.Rules.{tried_leads, tried_refuses, tried-first}
use Rattle.refusal.proofs.Rules.{rule6_three_refuses, rule6_three_passes, rule11_refuses, rule11_passes}
use Rattle.numbers.specs.Modulus.{modulus_rules, modulus_of}
use Rattle.numbers.proofs.Rules.{passes-usable}
use Rattle.solver.specs.Solve.{Lists, polynomial_rules, list_rules, lists_filled, solution, marks_of, found, solver_verdict, solved_of}
use Rattle.solver.specs.Solve.{lists_after, test_verdict, tested_of}
use Rattle.solver.specs.Counts.{counts_verdict, tabulated_of, counts_after}
use Rattle.solver.specs.inner.UsablePolynomial.{polynomial_modulus, UsablePolynomial}
use Rattle.solver.specs.inner.Reduced.{zero_classes, reduced_verdict, reduced_solved, reduced_lists}

-- What a value or a refusal says of the verdict

-- The rules on a polynomial, p and n

module _ (f : List ℤ) (p n : ℕ) where
  pub none-given : length f ≡ 0 → polynomial_modulus f p n ≡ Err NoCoefficient
  unfolding polynomial_modulus
  none-given e = rw (rule2_refuses (length f) e)

  pub many-given : 65 < length f → polynomial_modulus f p n ≡ Err TooManyCoefficients
  unfolding polynomial_modulus
  many-given h = rw (rule2_passes (length f) (λ e. omega arith), rule3_refuses (length f) h)

  pub counted : (length f ≡ 0 → ⊥) → length f ≤ 65 → polynomial_modulus f p n ≡ modulus_of p n
  unfolding polynomial_modulus modulus_of
  counted some few = ap (λ (v : Verdict). value_or v (p ^ n)) (coefficients_lead (length f) some few (modulus_rules p n))

  pub usable-polynomial : (m : ℕ) → polynomial_modulus f p n ≡ Ok m → UsablePolynomial f p n m
  unfolding polynomial_modulus
  usable-polynomial m e =
      let both = value_passes (tried (polynomial_rules f p n)) (p ^ n) m e in
      let two = tried-first (rule2 (length f)) (rule3 (length f) ∷ modulus_rules p n) both.0 in
      let three = tried-first (rule3 (length f)) (modulus_rules p n) two.1 in
      record {
        accepted = both.0;
        some = positive (eqb-false (length f) 0 (rule_passes (eqb (length f) 0) NoCoefficient two.0));
        few = ltb-false 65 (length f) (rule_passes (ltb 65 (length f)) TooManyCoefficients three.0);
        modulus = passes-usable p n three.1 m both.1;
      }
    where
      positive : (length f ≡ 0 → ⊥) → 0 < length f
      positive h = omega arith

  -- a refusal is that of any longer list
  pub polynomial-refused : (r : Refusal) → polynomial_modulus f p n ≡ Err r → (rest : List Verdict)
      → tried (polynomial_rules f p n ++ rest) ≡ refuses r
  unfolding polynomial_modulus
  polynomial-refused r e rest = tried_refuses (polynomial_rules f p n) rest r (value_refuses (tried (polynomial_rules f p n)) (p ^ n) r e)

-- The solver

module _ (f : List ℤ) (p n : ℕ) (given : Lists) where
  -- a refusal alters nothing
  pub solve-refused : (r : Refusal) → polynomial_modulus f p n ≡ Err r
      → (Err r ≡ solved_of f p n given) × (given ≡ lists_after f p n given)
  unfolding solver_verdict solved_of lists_after
  solve-refused r e = rw (polynomial-refused f p n r e (list_rules given (length (solution f p n)))) (refl, refl)

  -- where these rules pass, the solver is the one on residues
  module _ {m : ℕ} (U : UsablePolynomial f p n m) where
    verdict-is : solver_verdict f p n given ≡ reduced_verdict (reduced f p n) p n given
    unfolding solver_verdict solution roots reduced_verdict
    verdict-is = tried_leads (polynomial_rules f p n) (list_rules given (length (solution f p n))) U.accepted

    pub solved-is : solved_of f p n given ≡ reduced_solved (reduced f p n) p n given
    unfolding solved_of solution roots live
    solved-is = ap (λ (v : Verdict). value_or v (found (length (solution f p n)) (count (roots f p n) p n) (live f p n))) verdict-is

    pub lists-are : lists_after f p n given ≡ reduced_lists (reduced f p n) p n given
    unfolding lists_after solution roots mark
    lists-are = ap (λ (v : Verdict). lists_filled v (solution f p n) (marks_of f p n) given) verdict-is

-- The solver on residues

module _ (w : List ℕ) (p n : ℕ) (given : Lists) where
  abbrev slots : ℕ
  slots = length given.residues

  abbrev levels : ℕ
  levels = length given.levels

  abbrev marks : ℕ
  marks = length given.marks

  abbrev k : ℕ
  k = length (zero_classes w p n)

  -- rule 6
  pub lengths-refused : {x : ℕ} → x ≡ min slots (min levels marks) → (slots ≡ levels → slots ≡ marks → ⊥)
      → (Err (Lengths x) ≡ reduced_solved w p n given) × (given ≡ reduced_lists w p n given)
  unfolding reduced_verdict
  lengths-refused x-is h = rw (x-is, rule6_three_refuses slots levels marks h) (refl, refl)

  module _ (d : slots ≡ levels) (e : slots ≡ marks) {x : ℕ} (x-is : x ≡ k) where
    -- rule 11
    pub slots-refused : slots < x → (Err (TooFewSlots x) ≡ reduced_solved w p n given) × (given ≡ reduced_lists w p n given)
    unfolding reduced_verdict
    slots-refused h = rw (x-is, rule6_three_passes slots levels marks d e, rule11_refuses slots k (omega arith)) (refl, refl)

    pub slots-pass : x ≤ slots → reduced_verdict w p n given ≡ passes
    unfolding reduced_verdict
    slots-pass h = rw (rule6_three_passes slots levels marks d e, rule11_passes slots k (omega arith))

-- The test of a residue

module _ (f : List ℤ) (p n point : ℕ) where
  pub test-refused : (r : Refusal) → polynomial_modulus f p n ≡ Err r → Err r ≡ tested_of f p n point
  unfolding test_verdict tested_of
  test-refused r e = rw (polynomial-refused f p n r e (rule8 point (p ^ n) ∷ []))

  -- where these rules pass, rule 8 and the value decide
  pub tested-is : {m : ℕ} → UsablePolynomial f p n m
      → tested_of f p n point ≡ value_or (tried (rule8 point m ∷ [])) (roots f p n point)
  unfolding test_verdict tested_of
  tested-is U =
      ap (λ (v : Verdict). value_or v (roots f p n point))
      (tried_leads (polynomial_rules f p n) (rule8 point (p ^ n) ∷ []) U.accepted
      ∙ ap (λ (q : ℕ). tried (rule8 point q ∷ [])) (sym U.modulus.power))

-- The row of counts

module _ (f : List ℤ) (p n : ℕ) (given : List ℕ) where
  pub counts-refused : (r : Refusal) → polynomial_modulus f p n ≡ Err r
      → (Err r ≡ tabulated_of f p n (length given)) × (given ≡ counts_after f p n given)
  unfolding counts_verdict tabulated_of counts_after
  counts-refused r e = rw (polynomial-refused f p n r e (rule11 (length given) (suc n) ∷ [])) (refl, refl)

  module _ {m : ℕ} (U : UsablePolynomial f p n m) where
    left-to-slots : counts_verdict f p n (length given) ≡ tried (rule11 (length given) (suc n) ∷ [])
    unfolding counts_verdict
    left-to-slots = tried_leads (polynomial_rules f p n) (rule11 (length given) (suc n) ∷ []) U.accepted

    -- rule 11
    pub counts-short : length given < suc n
        → (Err (TooFewSlots (suc n)) ≡ tabulated_of f p n (length given)) × (given ≡ counts_after f p n given)
    unfolding tabulated_of counts_after
    counts-short h = rw (left-to-slots, rule11_refuses (length given) (suc n) h) (refl, refl)

    pub counts-filled : {after : List ℕ} → suc n ≤ length given
        → Overwritten (λ j. count (zeros (reduced f p n) p j) p j) 0 (suc n) given after
        → (Ok tt ≡ tabulated_of f p n (length given)) × (after ≡ counts_after f p n given)
    unfolding tabulated_of counts_after
    counts-filled h w =
        rw (left-to-slots, rule11_passes (length given) (suc n) h) (
          refl,
          written_part (λ j. count (zeros (reduced f p n) p j) p j) 0 (suc n) (count_row f p n) given _ w
              (sym (row_length f p (suc n)) ∙ sym (zero-add (length (count_row f p n)))) h (λ k u. same k (omega arith)),
        )
      where
        same : (k : ℕ) → k < suc n → count (zeros (reduced f p n) p (0 + k)) p (0 + k) ≡ get_or (count_row f p n) k 0
        same k u =
            ap (λ (j : ℕ). count (zeros (reduced f p n) p j) p j) (zero-add k)
            ∙ sym (row_at f p (suc n) k u ∙ solutions-zeros f p k n (prime_pos U.modulus.prime) (omega arith))
