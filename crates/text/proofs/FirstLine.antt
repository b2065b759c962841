-- The first line and what the rules say of it; the problem by the verdict.
use mathlib.Core.Path.{◌≡◌, refl, sym, ap, ◌∙◌}
use mathlib.Core.List.{List, ◌∷◌}
use Rattle.std.specs.Prelude.{Result, Option, Some, None, Ok, Err}
use Prim.Native.Nat.{ℕ, ◌+◌, ◌*◌, ◌≤◌, ◌<◌}
use native.Mathlib.Omega.{arith}
use borrow.Author.Tests.{lt-ltb, le-ltb}
use lib.IntN.{ℤ}
use lib.ListN.{length, get_or}
use Rattle.refusal.specs.declared.Refusal.{Refusal}
use Rattle.refusal.specs.declared.Refusal.TheVariants.{Form, NoCoefficient, TooManyCoefficients}
use Rattle.refusal.specs.Rules.{Verdict, passes, refuses, tried, value_or, rule2, rule3}
use Rattle.refusal.proofs.Rules.{rule2_refuses, rule2_passes, rule3_refuses, rule3_passes, value_passes, value_refuses}
use Rattle.text.specs.declared.Cursor.{Cursor}
use Rattle.text.specs.declared.Problem.{Problem}
use Rattle.text.specs.Text.{cursor_at, unsigned_value, unsigned_at, line_end_at}
use Rattle.text.specs.Form.{first_line_rules, p_of, n_of, count_of, coefficient_rules, coefficients_at, row_of, verdict_at, end_at}
use Rattle.text.specs.Form.{told_at, problem_at, problem_of}
use Rattle.text.proofs.Answers.{unsigned-value-means, unsigned-fault-means, line-end-means, line-end-missing-means}
use Rattle.text.proofs.Rows.{ends_line_passes, ends_line_refuses, problem, refused_by, given_by}

-- A value is given where the verdict passes it

-- a first line that is right: p, n and the number of coefficients
pub record FirstLine (text : List ℕ) (at p n count : ℕ) : Type 0 where
  pub p_is : unsigned_value text at 11 ≡ Some p
  pub n_is : unsigned_value text (at + 11) 11 ≡ Some n
  pub count_is : unsigned_value text (at + 22) 11 ≡ Some count
  pub ends : get_or text (at + 33) 0 ≡ 10

module _ (text : List ℕ) (at : ℕ) where
  -- The verdict, by the first rule that applies

  verdict-p : unsigned_value text at 11 ≡ None → verdict_at text at ≡ refuses (Form at)
  unfolding verdict_at first_line_rules
  verdict-p e = rw e

  verdict-n : (p : ℕ) → unsigned_value text at 11 ≡ Some p → unsigned_value text (at + 11) 11 ≡ None
      → verdict_at text at ≡ refuses (Form (at + 11))
  unfolding verdict_at first_line_rules
  verdict-n p e f = rw (e, f)

  verdict-count : (p n : ℕ) → unsigned_value text at 11 ≡ Some p → unsigned_value text (at + 11) 11 ≡ Some n
      → unsigned_value text (at + 22) 11 ≡ None → verdict_at text at ≡ refuses (Form (at + 22))
  unfolding verdict_at first_line_rules
  verdict-count p n e f g = rw (e, f, g)

  verdict-end : (p n count : ℕ) → unsigned_value text at 11 ≡ Some p → unsigned_value text (at + 11) 11 ≡ Some n
      → unsigned_value text (at + 22) 11 ≡ Some count → (get_or text (at + 33) 0 ≡ 10 → ⊥) → verdict_at text at ≡ refuses (Form (at + 33))
  unfolding verdict_at first_line_rules
  verdict-end p n count e f g h = rw (e, f, g, ends_line_refuses text (at + 33) h)

  module _ (p n count : ℕ) (L : FirstLine text at p n count) where
    count-of : count_of text at ≡ count
    unfolding count_of
    count-of = rw L.count_is

    first-line-passes : verdict_at text at
        ≡ tried (rule2 (count_of text at) ∷ rule3 (count_of text at) ∷ coefficient_rules text (at + 34) (count_of text at))
    unfolding verdict_at first_line_rules
    first-line-passes = rw (L.p_is, L.n_is, L.count_is, ends_line_passes text (at + 33) L.ends)

    count-judged : verdict_at text at ≡ tried (rule2 count ∷ rule3 count ∷ coefficient_rules text (at + 34) count)
    count-judged =
        first-line-passes
        ∙ ap (λ (c : ℕ). tried (rule2 c ∷ rule3 c ∷ coefficient_rules text (at + 34) c)) count-of

    pub verdict-2 : count ≡ 0 → verdict_at text at ≡ refuses NoCoefficient
    verdict-2 e = count-judged ∙ rw (rule2_refuses count e)

    pub verdict-3 : (count ≡ 0 → ⊥) → 65 < count → verdict_at text at ≡ refuses TooManyCoefficients
    verdict-3 ne h = count-judged ∙ rw (rule2_passes count ne, rule3_refuses count h)

    verdict-rest : (count ≡ 0 → ⊥) → count ≤ 65 → verdict_at text at ≡ tried (coefficient_rules text (at + 34) count)
    verdict-rest ne h = count-judged ∙ rw (rule2_passes count ne, rule3_passes count h)

    -- the problem from the lines of its coefficients
    pub problem-read : (count ≡ 0 → ⊥) → count ≤ 65 →
        value_or (tried (coefficient_rules text (at + 34) count))
        (problem p n count (at + 34 + 21 * count) (row_of (coefficients_at text (at + 34) count)))
        ≡ problem_at text at
    unfolding problem_at told_at p_of n_of count_of end_at
    problem-read ne h = rw (verdict-rest ne h, L.p_is, L.n_is, L.count_is)

    module _ (next : ℕ) (here : next ≡ at + 34) (ne : count ≡ 0 → ⊥) (few : count ≤ 65) (r : Result (List ℤ × Cursor) Refusal)
        (is : r ≡ value_or (tried (coefficient_rules text next count))
        (row_of (coefficients_at text next count), cursor_at (next + 21 * count))) where
      pub rest_refused : (s : Refusal) → r ≡ Err s → Err s ≡ problem_at text at
      rest_refused s e =
          let v : tried (coefficient_rules text (at + 34) count) ≡ refuses s = rw here at (value_refuses _ _ s (sym is ∙ e)) in
          refused_by (tried (coefficient_rules text (at + 34) count)) s _ v ∙ problem-read ne few

      pub rest_read : (row : List ℤ) (last : Cursor) → r ≡ Ok (row, last) → Ok (problem p n count last.at row) ≡ problem_at text at
      rest_read row last e =
          let (v, same) = value_passes _ _ (row, last) (sym is ∙ e) in
          let w : tried (coefficient_rules text (at + 34) count) ≡ passes = rw here at v in
          let k : problem p n count (next + 21 * count) (row_of (coefficients_at text next count)) ≡ problem p n count last.at row =
          ap (λ (x : List ℤ × Cursor). problem p n count x.1.at x.0) (sym same) in
          ap Ok (sym k)
          ∙ ap (λ (j : ℕ). Ok (problem p n count (j + 21 * count) (row_of (coefficients_at text j count)))) here
          ∙ given_by (tried (coefficient_rules text (at + 34) count)) _ w
          ∙ problem-read ne few

  -- a refused problem
  pub problem-refused-at : (r : Refusal) → verdict_at text at ≡ refuses r → Err r ≡ problem_at text at
  unfolding problem_at
  problem-refused-at r e = rw e

-- The first line, column by column: what is read so far, and the place after it

pub record AfterP (text : List ℕ) (at p b : ℕ) : Type 0 where
  pub p_is : unsigned_value text at 11 ≡ Some p
  pub here : b ≡ at + 11

pub record AfterN (text : List ℕ) (at p n c : ℕ) : Type 0 where
  pub p_is : unsigned_value text at 11 ≡ Some p
  pub n_is : unsigned_value text (at + 11) 11 ≡ Some n
  pub here : c ≡ at + 22

pub record AfterCount (text : List ℕ) (at p n count d : ℕ) : Type 0 where
  pub p_is : unsigned_value text at 11 ≡ Some p
  pub n_is : unsigned_value text (at + 11) 11 ≡ Some n
  pub count_is : unsigned_value text (at + 22) 11 ≡ Some count
  pub here : d ≡ at + 33

module _ (text : List ℕ) (at : ℕ) where
  pub p-refused : (r : Option (ℕ × Cursor)) → r ≡ unsigned_at text at 11 → r ≡ None → Err (Form at) ≡ problem_at text at
  p-refused r e f = problem-refused-at text at (Form at) (verdict-p text at (unsigned-fault-means text at 11 r e f))

  pub p-read : (p : ℕ) (b : Cursor) (r : Option (ℕ × Cursor)) → r ≡ unsigned_at text at 11 → r ≡ Some (p, b) → AfterP text at p b.at
  p-read p b r e f =
      let v = unsigned-value-means text at 11 p b r e f in
      record { p_is = v.0; here = v.1 }

  module _ (p b : ℕ) (R : AfterP text at p b) where
    pub n-refused : (r : Option (ℕ × Cursor)) → r ≡ unsigned_at text b 11 → r ≡ None → Err (Form b) ≡ problem_at text at
    n-refused r e f =
        ap (λ (k : ℕ). Err (Form k)) R.here
        ∙ problem-refused-at text at (Form (at + 11))
        (verdict-n text at p R.p_is (rw R.here at (unsigned-fault-means text b 11 r e f)))

    pub n-read : (n : ℕ) (c : Cursor) (r : Option (ℕ × Cursor)) → r ≡ unsigned_at text b 11 → r ≡ Some (n, c) → AfterN text at p n c.at
    n-read n c r e f =
        let v = unsigned-value-means text b 11 n c r e f in
        record { p_is = R.p_is; n_is = rw R.here at v.0; here = omega (arith, R.here, v.1) }

  module _ (p n c : ℕ) (R : AfterN text at p n c) where
    pub count-refused : (r : Option (ℕ × Cursor)) → r ≡ unsigned_at text c 11 → r ≡ None → Err (Form c) ≡ problem_at text at
    count-refused r e f =
        ap (λ (k : ℕ). Err (Form k)) R.here
        ∙ problem-refused-at text at (Form (at + 22))
        (verdict-count text at p n R.p_is R.n_is (rw R.here at (unsigned-fault-means text c 11 r e f)))

    pub count-read : (count : ℕ) (d : Cursor) (r : Option (ℕ × Cursor)) → r ≡ unsigned_at text c 11 → r ≡ Some (count, d)
        → AfterCount text at p n count d.at
    count-read count d r e f =
        let v = unsigned-value-means text c 11 count d r e f in
        record { p_is = R.p_is; n_is = R.n_is; count_is = rw R.here at v.0; here = omega (arith, R.here, v.1) }

  module _ (p n count d : ℕ) (R : AfterCount text at p n count d) where
    pub end_refused : (r : Option Cursor) → r ≡ line_end_at text d → r ≡ None → Err (Form d) ≡ problem_at text at
    end_refused r e f =
        ap (λ (k : ℕ). Err (Form k)) R.here
        ∙ problem-refused-at text at (Form (at + 33))
        (verdict-end text at p n count R.p_is R.n_is R.count_is (rw R.here at (line-end-missing-means text d r e f)))

    pub line_read : (b : Cursor) (r : Option Cursor) → r ≡ line_end_at text d → r ≡ Some b → FirstLine text at p n count × (b.at ≡ at + 34)
    line_read b r e f =
        let v = line-end-means text d b r e f in
        (record { p_is = R.p_is; n_is = R.n_is; count_is = R.count_is; ends = rw R.here at v.0 }, omega (arith, R.here, v.1))

-- The place after the problem

pub told_end : (text : List ℕ) (at : ℕ) (P : Problem) → told_at text at ≡ P → end_at text at ≡ P.end
unfolding told_at
told_end text at P e = ap (λ (Q : Problem). Q.end) e

-- The whole text

module _ (text : List ℕ) where
  pub whole-refused : (r : Refusal) → problem_at text 0 ≡ Err r → Err r ≡ problem_of text
  unfolding problem_at problem_of
  whole-refused r e = rw (value_refuses (verdict_at text 0) (told_at text 0) r e)

  module _ (P : Problem) (given : problem_at text 0 ≡ Ok P) where
    front : (verdict_at text 0 ≡ passes) × (told_at text 0 ≡ P)
    unfolding problem_at
    front = let (v, e) = value_passes (verdict_at text 0) (told_at text 0) P given in (v, sym e)

    end_is : end_at text 0 ≡ P.end
    end_is = told_end text 0 P front.1

    pub whole-longer : P.end < length text → Err (Form P.end) ≡ problem_of text
    unfolding problem_of
    whole-longer h =
        let l : end_at text 0 < length text = omega (arith, end_is) in
        ap (λ (k : ℕ). Err (Form k)) (sym end_is) ∙ rw (front.0, lt-ltb (end_at text 0) (length text) l)

    pub whole-given : length text ≤ P.end → Ok P ≡ problem_of text
    unfolding problem_of
    whole-given h =
        let l : length text ≤ end_at text 0 = omega (arith, end_is) in
        ap Ok (sym front.1) ∙ rw (front.0, le-ltb (end_at text 0) (length text) l)
