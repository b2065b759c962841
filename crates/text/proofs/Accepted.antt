-- A text that reads as a problem is the input text of that problem.
use mathlib.Core.Path.{◌≡◌, refl, sym, ap, subst, ◌∙◌}
use mathlib.Core.Bool.{not}
use mathlib.Core.List.{List, [], ◌∷◌, ◌++◌, append_assoc, append-nil}
use Rattle.std.specs.Prelude.{Option, Some, None, unwrap_or, Ok}
use Prim.Native.Nat.{ℕ, zero, suc, ◌+◌, ◌-◌, ◌*◌, ◌<◌, ◌≤◌}
use native.Mathlib.Omega.{arith}
use borrow.Author.Tests.{eqb-true, eqb-false, ltb-false, not-false}
use lib.Dec.{eqb, ltb}
use lib.IntN.{pos}
use lib.ListN.{length, get_or, take, drop, replicate, drop_of_length-le}
use lib.Seq.{take_at}
use Rattle.columns.specs.Column.{column, signed_column}
use Rattle.refusal.specs.declared.Refusal.TheVariants.{Form, NoCoefficient, TooManyCoefficients}
use Rattle.refusal.specs.Rules.{passes, tried, rule2, rule3}
use Rattle.refusal.proofs.Rules.{rule_passes, tried-first, value_passes}
use Rattle.text.specs.declared.Problem.{Problem}
use Rattle.text.specs.Text.{unsigned_value, signed_value}
use Rattle.text.specs.Form.{has_value, ends_line, ends_text, first_line_rules, p_of, n_of, count_of, coefficient_rules, coefficients_at}
use Rattle.text.specs.Form.{row_of, verdict_at, end_at, told_at, problem_at, problem_of}
use Rattle.text.specs.Input.{coefficient_lines, input_text}
use Rattle.text.proofs.Placed.{unsigned-column-is, signed-column-is, end_is}
use Rattle.text.proofs.Rows.{coefficients_length}
use Rattle.text.proofs.FirstLine.{told_end}
use Rattle.text.proofs.Input.{AllInRange, Readable, input_append}

-- Rules that pass

value_is : {A : Type 0} (o : Option A) (d : A) (place : ℕ) → has_value o place ≡ passes → o ≡ Some (unwrap_or o d)
value_is (Some x) d place e = refl
value_is None d place e = let z : ◌≡◌ {A = ℕ} 0 1 = cc in absurd (omega arith)

line_ends : (text : List ℕ) (place : ℕ) → ends_line text place ≡ passes → get_or text place 0 ≡ 10
line_ends text place e =
    eqb-true (get_or text place 0) 10 (not-false (eqb (get_or text place 0) 10)
    (rule_passes (not (eqb (get_or text place 0) 10)) (Form place) e))

-- The lines of the coefficients

module _ (text : List ℕ) where
  lines_are : (c at : ℕ) → tried (coefficient_rules text at c) ≡ passes
      → (drop at text ≡ coefficient_lines (coefficients_at text at c) ++ drop (at + 21 * c) text) × AllInRange (coefficients_at text at c)
  unfolding coefficient_rules coefficients_at coefficient_lines
  lines_are zero at e =
      let z : at ≡ at + 21 * 0 = omega arith in
      (ap (λ (k : ℕ). drop k text) z, tt)
  lines_are (suc c) at e =
      let (v, f) = tried-first (has_value (signed_value text at 20) at) (ends_line text (at + 20) ∷ coefficient_rules text (at + 21) c) e in
      let (l, g) = tried-first (ends_line text (at + 20)) (coefficient_rules text (at + 21) c) f in
      let z = unwrap_or (signed_value text at 20) (pos 0) in
      let (d, r) = signed-column-is text at 20 z (value_is (signed_value text at 20) (pos 0) at v) in
      let n = end_is text (at + 20) (line_ends text (at + 20) l) in
      let (h, s) = lines_are c (at + 21) g in
      let p : at + 20 + 1 ≡ at + 21 = omega arith in
      let q : at + 21 + 21 * c ≡ at + 21 * suc c = omega arith in
      let cs = coefficients_at text (at + 21) c in (
        d ∙ ap (λ (k : List ℕ). signed_column 20 z ++ k)
            (n ∙ ap (λ (k : ℕ). 10 ∷ drop k text) p ∙ ap (λ (k : List ℕ). 10 ∷ k)
            (h ∙ ap (λ (k : ℕ). coefficient_lines cs ++ drop k text) q))
            ∙ sym (append_assoc (signed_column 20 z) (10 ∷ coefficient_lines cs) (drop (at + 21 * suc c) text)),
        (r, s),
      )

  -- The first line

  module _ (at : ℕ) where
    record Passed : Type 0 where
      p-has : has_value (unsigned_value text at 11) at ≡ passes
      n-has : has_value (unsigned_value text (at + 11) 11) (at + 11) ≡ passes
      count-has : has_value (unsigned_value text (at + 22) 11) (at + 22) ≡ passes
      ends : ends_line text (at + 33) ≡ passes
      some-are : rule2 (count_of text at) ≡ passes
      few-are : rule3 (count_of text at) ≡ passes
      lines : tried (coefficient_rules text (at + 34) (count_of text at)) ≡ passes

    all-passed : verdict_at text at ≡ passes → Passed
    unfolding verdict_at first_line_rules
    all-passed e =
        let a = has_value (unsigned_value text at 11) at in
        let b = has_value (unsigned_value text (at + 11) 11) (at + 11) in
        let c = has_value (unsigned_value text (at + 22) 11) (at + 22) in
        let d = ends_line text (at + 33) in
        let k = count_of text at in
        let rest = coefficient_rules text (at + 34) k in
        let (pa, ea) = tried-first a (b ∷ c ∷ d ∷ rule2 k ∷ rule3 k ∷ rest) e in
        let (pb, eb) = tried-first b (c ∷ d ∷ rule2 k ∷ rule3 k ∷ rest) ea in
        let (pc, ec) = tried-first c (d ∷ rule2 k ∷ rule3 k ∷ rest) eb in
        let (pd, ed) = tried-first d (rule2 k ∷ rule3 k ∷ rest) ec in
        let (pe, ee) = tried-first (rule2 k) (rule3 k ∷ rest) ed in
        let (pf, ef) = tried-first (rule3 k) rest ee in
        record { p-has = pa; n-has = pb; count-has = pc; ends = pd; some-are = pe; few-are = pf; lines = ef }

    -- the text from the place on
    pub passed-is-input : verdict_at text at ≡ passes
        → drop at text ≡ input_text (p_of text at) (n_of text at) (coefficients_at text (at + 34) (count_of text at))
        ++ drop (end_at text at) text
    unfolding p_of n_of count_of end_at
    passed-is-input e =
        let P = all-passed e in
        let p = p_of text at in
        let n = n_of text at in
        let k = count_of text at in
        let cs = coefficients_at text (at + 34) k in
        let a = unsigned-column-is text at 11 p (value_is (unsigned_value text at 11) 0 at P.p-has) in
        let b = unsigned-column-is text (at + 11) 11 n (value_is (unsigned_value text (at + 11) 11) 0 (at + 11) P.n-has) in
        let c = unsigned-column-is text (at + 22) 11 k (value_is (unsigned_value text (at + 22) 11) 0 (at + 22) P.count-has) in
        let d = end_is text (at + 33) (line_ends text (at + 33) P.ends) in
        let l = lines_are k (at + 34) P.lines in
        let x : at + 11 + 11 ≡ at + 22 = omega arith in
        let y : at + 22 + 11 ≡ at + 33 = omega arith in
        let z : at + 33 + 1 ≡ at + 34 = omega arith in
        let m : k ≡ length cs = sym (coefficients_length text (at + 34) k) in
        a.0
        ∙ ap (λ (t : List ℕ). column 11 p ++ t)
        (b.0 ∙ ap (λ (j : ℕ). column 11 n ++ drop j text) x
        ∙ ap (λ (t : List ℕ). column 11 n ++ t)
        (c.0 ∙ ap (λ (j : ℕ). column 11 k ++ drop j text) y ∙ ap (λ (j : ℕ). column 11 j ++ drop (at + 33) text) m
        ∙ ap (λ (t : List ℕ). column 11 (length cs) ++ t)
        (d ∙ ap (λ (j : ℕ). 10 ∷ drop j text) z ∙ ap (λ (t : List ℕ). 10 ∷ t) l.0)))
        ∙ sym (input_append p n cs (drop (end_at text at) text))

    pub passed-is-readable : verdict_at text at ≡ passes
        → Readable (p_of text at) (n_of text at) (coefficients_at text (at + 34) (count_of text at))
    unfolding p_of n_of count_of
    passed-is-readable e =
        let P = all-passed e in
        let k = count_of text at in
        let m = coefficients_length text (at + 34) k in
        let some-are = eqb-false k 0 (rule_passes (eqb k 0) NoCoefficient P.some-are) in
        let few = ltb-false 65 k (rule_passes (ltb 65 k) TooManyCoefficients P.few-are) in
        record {
          p_small = (unsigned-column-is text at 11 (p_of text at) (value_is (unsigned_value text at 11) 0 at P.p-has)).1;
          n_small = (unsigned-column-is text (at + 11) 11 (n_of text at)
              (value_is (unsigned_value text (at + 11) 11) 0 (at + 11) P.n-has)).1;
          some_coefficient = positive k some-are (length (coefficients_at text (at + 34) k)) m;
          few_coefficients = omega (arith, m);
          in_range = (lines_are k (at + 34) P.lines).1;
        }
      where
        positive : (k : ℕ) → (k ≡ 0 → ⊥) → (j : ℕ) → j ≡ k → 0 < j
        positive k h j e = omega arith

-- What an answer says

-- what stands from the place on is the input text of a problem that the reader is to take
abbrev IsInputAt : List ℕ → ℕ → Problem → Type 0
IsInputAt text at P =
    (drop at text ≡ input_text P.p P.n (take P.count P.coefficients) ++ drop P.end text) × Readable P.p P.n (take P.count P.coefficients)

told-is-input : (text : List ℕ) (at : ℕ) → verdict_at text at ≡ passes → IsInputAt text at (told_at text at)
unfolding told_at
told-is-input text at v =
    let cs = coefficients_at text (at + 34) (count_of text at) in
    let row : take (count_of text at) (row_of cs) ≡ cs =
    take_at cs (replicate (65 - length cs) (pos 0)) (count_of text at) (coefficients_length text (at + 34) (count_of text at)) in
    (rw row (passed-is-input text at v), rw row (passed-is-readable text at v))

pub given_at_is_input : (text : List ℕ) (at : ℕ) (P : Problem) → problem_at text at ≡ Ok P
    → (drop at text ≡ input_text P.p P.n (take P.count P.coefficients) ++ drop P.end text) × Readable P.p P.n (take P.count P.coefficients)
unfolding problem_at
given_at_is_input text at P given =
    let (v, e) = value_passes (verdict_at text at) (told_at text at) P given in
    subst (IsInputAt text at) (sym e) (told-is-input text at v)

-- a text that reads as a problem is the input text of that problem
pub given_is_input : (text : List ℕ) (P : Problem) → problem_of text ≡ Ok P
    → (text ≡ input_text P.p P.n (take P.count P.coefficients)) × Readable P.p P.n (take P.count P.coefficients)
unfolding problem_of
given_is_input text P given =
    let (v, e) = value_passes (tried (verdict_at text 0 ∷ ends_text text (end_at text 0) ∷ [])) (told_at text 0) P given in
    let (a, b) = tried-first (verdict_at text 0) (ends_text text (end_at text 0) ∷ []) v in
    let (c, d) = tried-first (ends_text text (end_at text 0)) [] b in
    let l : length text ≤ end_at text 0 =
    ltb-false (end_at text 0) (length text) (rule_passes (ltb (end_at text 0) (length text)) (Form (end_at text 0)) c) in
    let (whole, R) = subst (IsInputAt text 0) (sym e) (told-is-input text 0 a) in
    let last : drop P.end text ≡ [] = drop_of_length-le text (omega (arith, told_end text 0 P (sym e))) in
    let input = input_text P.p P.n (take P.count P.coefficients) in
    (whole ∙ ap (λ (k : List ℕ). input ++ k) last ∙ append-nil input, R)
