-- The place of a refused text is below 1,400, whatever the text.
use mathlib.Core.Path.{◌≡◌}
use mathlib.Core.Bool.{not}
use mathlib.Core.List.{List, [], ◌∷◌, ◌++◌}
use Rattle.std.specs.Prelude.{Option, Some, None, Err}
use Prim.Native.Nat.{ℕ, zero, suc, ◌+◌, ◌*◌, ◌≤◌}
use native.Mathlib.Omega.{arith}
use borrow.Author.Tests.{ltb-false}
use lib.Dec.{eqb, ltb}
use lib.ListN.{length, get_or}
use Rattle.refusal.specs.declared.Refusal.{Refusal}
use Rattle.refusal.specs.declared.Refusal.TheVariants.{Form, NoCoefficient, TooManyCoefficients}
use Rattle.refusal.specs.Number.{place_of}
use Rattle.refusal.specs.Rules.{passes, tried, rule2, rule3}
use Rattle.refusal.proofs.Rules.{tried-both, tried-first, rule_passes, value_refuses}
use Rattle.refusal.proofs.Places.{PlaceAtMost, PlacesAtMost, rule_place, tried_place, tried_places}
use Rattle.text.specs.Text.{unsigned_value, signed_value}
use Rattle.text.specs.Form.{has_value, ends_line, ends_text, first_line_rules, count_of, coefficient_rules, verdict_at, end_at}
use Rattle.text.specs.Form.{told_at, problem_at, problem_of}

value_place : {A : Type 0} (b : ℕ) (o : Option A) (place : ℕ) → place ≤ b → PlaceAtMost b (has_value o place)
value_place b (Some x) place h = tt
value_place b None place h = h

line_place : (b : ℕ) (text : List ℕ) (place : ℕ) → place ≤ b → PlaceAtMost b (ends_line text place)
line_place b text place h = rule_place b (not (eqb (get_or text place 0) 10)) (Form place) h

-- c lines of coefficients
lines_places : (b : ℕ) (text : List ℕ) (at c : ℕ) → at + 21 * c ≤ b → PlacesAtMost b (coefficient_rules text at c)
unfolding coefficient_rules
lines_places b text at zero h = tt
lines_places b text at (suc c) h = (
  value_place b (signed_value text at 20) at (omega arith),
  (line_place b text (at + 20) (omega arith), lines_places b text (at + 21) c (omega arith)),
)

module _ (text : List ℕ) where
  abbrev c : ℕ
  c = count_of text 0

  front-places : PlacesAtMost 1399 (first_line_rules text 0 ++ rule2 c ∷ [])
  unfolding first_line_rules
  front-places =
      let p = value_place 1399 (unsigned_value text 0 11) 0 (omega arith) in
      let n = value_place 1399 (unsigned_value text 11 11) 11 (omega arith) in
      let count = value_place 1399 (unsigned_value text 22 11) 22 (omega arith) in
      let end = line_place 1399 text 33 (omega arith) in
      (p, (n, (count, (end, (rule_place 1399 (eqb c 0) NoCoefficient (omega arith), tt)))))

  -- after rule 3 there are at most 65 coefficients
  few : tried (rule3 c ∷ []) ≡ passes → c ≤ 65
  few e = ltb-false 65 c (rule_passes (ltb 65 c) TooManyCoefficients (tried-first (rule3 c) [] e).0)

  verdict-place : PlaceAtMost 1399 (verdict_at text 0)
  unfolding verdict_at first_line_rules
  verdict-place =
      let lines = coefficient_rules text 34 c in
      tried_place 1399 (first_line_rules text 0 ++ rule2 c ∷ []) (rule3 c ∷ lines) front-places
      (λ _.
      tried_place 1399 (rule3 c ∷ []) lines (rule_place 1399 (ltb 65 c) TooManyCoefficients (omega arith), tt)
      (λ e. tried_places 1399 lines (lines_places 1399 text 34 c (omega (arith, few e)))))

  -- a text that passes so far has at most 65 coefficients
  verdict-few : verdict_at text 0 ≡ passes → c ≤ 65
  unfolding verdict_at first_line_rules
  verdict-few e =
      let lines = coefficient_rules text 34 c in
      let later = (tried-both (first_line_rules text 0 ++ rule2 c ∷ []) (rule3 c ∷ lines) e).1 in
      few (tried-both (rule3 c ∷ []) lines later).0

  whole-place : PlaceAtMost 1399 (tried (verdict_at text 0 ∷ ends_text text (end_at text 0) ∷ []))
  unfolding end_at
  whole-place =
      let end = end_at text 0 in
      tried_place 1399 (verdict_at text 0 ∷ []) (ends_text text end ∷ []) (verdict-place, tt)
      (λ e.
      let h : end ≤ 1399 = omega (arith, verdict-few (tried-first (verdict_at text 0) [] e).0) in
      tried_places 1399 (ends_text text end ∷ []) (rule_place 1399 (ltb end (length text)) (Form end) h, tt))

  -- of the problem at the front of a text
  pub front-place : (r : Refusal) → problem_at text 0 ≡ Err r → place_of r ≤ 1399
  unfolding problem_at
  front-place r e = rw (value_refuses (verdict_at text 0) (told_at text 0) r e) at verdict-place

  -- of the problem that is the whole text
  pub text-place : (r : Refusal) → problem_of text ≡ Err r → place_of r ≤ 1399
  unfolding problem_of
  text-place r e =
      rw (value_refuses (tried (verdict_at text 0 ∷ ends_text text (end_at text 0) ∷ [])) (told_at text 0) r e) at whole-place
