-- The test of one residue and of many: what the reduced coefficients say, and the lent row after a call.
use Rattle.std.specs.Prelude.{Ok, Err}
use mathlib.Core.Path.{◌≡◌, refl, sym, ap, ap₂, ◌∙◌}
use mathlib.Core.List.{List, [], ◌∷◌, ◌++◌, map}
use Prim.Native.Nat.{ℕ, ◌+◌, ◌≤◌, ◌<◌}
use lib.IntN.{ℤ}
use lib.ListN.{length, length-map, get_or, set, take, drop}
use lib.Seq.{take_all}
use Rattle.std.proofs.lemmas.List.{drop_all, append-nil}
use Rattle.theory.specs.Polynomial.{reduce}
use Rattle.theory.proofs.Lists.Fill.{written_next, written_entry}
use Rattle.theory.proofs.Lists.Map.{map_same}
use Rattle.refusal.specs.declared.Refusal.{Refusal}
use Rattle.refusal.specs.Rules.{tried, rule8, value_or}
use Rattle.refusal.proofs.Rules.{filled_whole, value_refuses}
use Rattle.solver.specs.declared.Query.{Query}
use Rattle.solver.specs.Solve.{polynomial_rules, tested_of}
use Rattle.solver.specs.Points.{answer_number, answered_of, points_verdict, tested_all_of, queries_after}
use Rattle.solver.specs.inner.UsablePolynomial.{polynomial_modulus, UsablePolynomial}
use Rattle.solver.specs.inner.Points.{tested_reduced, answered_by}
use Rattle.solver.proofs.Coefficients.{root_is}
use Rattle.solver.proofs.Verdicts.{tested-is}

-- The single test, by the reduced coefficients

module _ (f : List ℤ) {p n m : ℕ} (U : UsablePolynomial f p n m) {w : List ℕ} (row : w ≡ map (reduce m) f) where
  pub tested-reduced : (point : ℕ) → tested_reduced w m point ≡ tested_of f p n point
  unfolding tested_reduced
  tested-reduced point =
      sym (tested-is f p n point U ∙ ap (value_or (tried (rule8 point m ∷ []))) (root_is f U.modulus row point))

-- The test of many

-- the row with the answers of its first i records, by coefficients w modulo m
abbrev pub row_at : List ℕ → ℕ → List Query → ℕ → List Query
row_at w m xs i = map (answered_by w m) (take i xs) ++ drop i xs

-- one record more is answered
pub row_next : (w : List ℕ) (m : ℕ) (xs qs : List Query) (i : ℕ) (d r : Query) → i < length xs → qs ≡ row_at w m xs i
    → r ≡ answered_by w m (get_or qs i d) → set qs i r ≡ row_at w m xs (i + 1)
row_next w m xs qs i d r h e f =
    let f-is = answered_by w m in
    let entry = written_entry f-is xs i d h xs d h in
    ap (λ (ys : List Query). set ys i r) e
    ∙ written_next f-is xs i d h xs d r h (f ∙ ap (λ (ys : List Query). f-is (get_or ys i d)) e ∙ ap f-is entry)

module _ (f : List ℤ) (p n : ℕ) (queries : List Query) where
  pub points-refused : (r : Refusal) → polynomial_modulus f p n ≡ Err r
      → (Err r ≡ tested_all_of f p n) × (queries ≡ queries_after f p n queries)
  unfolding tested_all_of points_verdict queries_after polynomial_modulus
  points-refused r e = rw (value_refuses (tried (polynomial_rules f p n)) _ r e) (refl, refl)

  pub points-answered : {m : ℕ} → UsablePolynomial f p n m → {w : List ℕ} → w ≡ map (reduce m) f → {after : List Query} {i : ℕ}
      → length queries ≤ i → after ≡ row_at w m queries i → (Ok tt ≡ tested_all_of f p n) × (after ≡ queries_after f p n queries)
  unfolding tested_all_of points_verdict queries_after answered_of
  points-answered {m} U {w} row {i = i} last e =
      rw U.accepted (
        refl,
        e
            ∙ ap₂ (λ (ys zs : List Query). map (answered_by w m) ys ++ zs) (take_all i queries last) (drop_all i queries last)
            ∙ append-nil (map (answered_by w m) queries)
            ∙ map_same (answered_by w m) (answered_of f p n) queries
            (λ q _. ap (λ t. record { point = q.point; answer = answer_number t }) (tested-reduced f U row q.point))
            ∙ sym (filled_whole (map (answered_of f p n) queries) queries (sym (length-map queries (answered_of f p n)))),
      )
