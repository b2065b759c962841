-- What the test of many points promises, in the words of 02, 2.5.
use Rattle.std.specs.Prelude.{Ok, Err}
use mathlib.Core.Path.{◌≡◌, refl, sym, ap, ◌∙◌}
use mathlib.Core.Bool.{true, false}
use mathlib.Core.List.{List, [], ◌∷◌, map}
use Prim.Native.Nat.{ℕ, ◌^◌, ◌≤◌, ◌<◌}
use lib.IntN.{ℤ}
use lib.ListN.{length, length-map, get_or}
use Rattle.theory.specs.Polynomial.{roots}
use Rattle.theory.proofs.Lists.Map.{map-map, get_d_map}
use Rattle.refusal.specs.declared.Refusal.{Refusal}
use Rattle.refusal.specs.Rules.{Verdict, passes, refuses, tried, filled, rule8, value_or}
use Rattle.refusal.proofs.Rules.{tried_leads, rule8_refuses, rule8_passes, filled_whole, value_passes, value_refuses}
use Rattle.solver.specs.declared.Query.{Query}
use Rattle.solver.specs.Solve.{polynomial_rules, test_verdict, tested_of}
use Rattle.solver.specs.Points.{answer_number, answered_of, points_verdict, tested_all_of, queries_after}

module _ (f : List ℤ) (p n : ℕ) where
  whole_row : (queries : List Query) → filled passes (map (answered_of f p n) queries) queries ≡ map (answered_of f p n) queries
  whole_row queries = filled_whole (map (answered_of f p n) queries) queries (sym (length-map queries (answered_of f p n)))

  -- "The points themselves are left untouched", in every call
  pub points-stay : (queries : List Query) → map (λ q. q.point) (queries_after f p n queries) ≡ map (λ q. q.point) queries
  unfolding queries_after answered_of
  points-stay queries = go (points_verdict f p n)
    where
      go : (v : Verdict) → map (λ q. q.point) (filled v (map (answered_of f p n) queries) queries) ≡ map (λ q. q.point) queries
      go passes = ap (map (λ q. q.point)) (whole_row queries) ∙ map-map (λ q. q.point) (answered_of f p n) queries
      go (refuses r) = refl

  -- a refusal alters nothing
  pub refused-stays : (r : Refusal) → tested_all_of f p n ≡ Err r → (queries : List Query) → queries_after f p n queries ≡ queries
  unfolding tested_all_of queries_after
  refused-stays r e queries = rw (value_refuses (points_verdict f p n) tt r e)

  -- "An empty row is fine": it stays empty, and the answer is that of any row
  pub empty-row : queries_after f p n [] ≡ []
  unfolding queries_after
  empty-row = go (points_verdict f p n)
    where
      go : (v : Verdict) → filled {A = Query} v [] [] ≡ []
      go passes = refl
      go (refuses r) = refl

  -- a call that is accepted
  module _ (accepted : tested_all_of f p n ≡ Ok tt) where
    rules-pass : tried (polynomial_rules f p n) ≡ passes
    unfolding tested_all_of points_verdict
    rules-pass = (value_passes (tried (polynomial_rules f p n)) tt tt accepted).0

    -- every record has its answer
    pub all-answered : (queries : List Query) → queries_after f p n queries ≡ map (answered_of f p n) queries
    unfolding queries_after points_verdict
    all-answered queries = ap (λ (v : Verdict). filled v (map (answered_of f p n) queries) queries) rules-pass ∙ whole_row queries

    -- that to its own point: "a bad point disturbs no other record"
    pub record-answered : (queries : List Query) (i : ℕ) (d : Query) → i < length queries
        → get_or (queries_after f p n queries) i d ≡ answered_of f p n (get_or queries i d)
    record-answered queries i d h =
        ap (λ ys. get_or ys i d) (all-answered queries) ∙ get_d_map (answered_of f p n) queries i d d h

    answer-is : (q : Query) → (answered_of f p n q).answer ≡ answer_number (value_or (tried (rule8 q.point (p ^ n) ∷ [])) (roots f p n q.point))
    unfolding answered_of tested_of test_verdict
    answer-is q =
        ap (λ (v : Verdict). answer_number (value_or v (roots f p n q.point)))
        (tried_leads (polynomial_rules f p n) (rule8 q.point (p ^ n) ∷ []) rules-pass)

    -- 8 for a point that is not below pⁿ
    pub answer-too-large : (q : Query) → p ^ n ≤ q.point → (answered_of f p n q).answer ≡ 8
    answer-too-large q h = answer-is q ∙ rw (rule8_refuses q.point (p ^ n) h)

    -- and otherwise 1 for a root, 0 for no root
    pub answer-root : (q : Query) → q.point < p ^ n → roots f p n q.point ≡ true → (answered_of f p n q).answer ≡ 1
    answer-root q h e = answer-is q ∙ rw (rule8_passes q.point (p ^ n) h, e)

    pub answer-no-root : (q : Query) → q.point < p ^ n → roots f p n q.point ≡ false → (answered_of f p n q).answer ≡ 0
    answer-no-root q h e = answer-is q ∙ rw (rule8_passes q.point (p ^ n) h, e)
