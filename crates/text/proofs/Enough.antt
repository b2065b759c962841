-- A problem is told by the bytes up to its end: where a text goes on after them, the problem at its front is the same. 1,399 bytes always
-- tell it, since "The longest has 1,399 bytes".
use mathlib.Core.Path.{◌≡◌, refl, sym, ap, ap₂, ◌∙◌}
use mathlib.Core.List.{List, [], ◌∷◌, ◌++◌}
use Rattle.std.specs.Prelude.{Option, unwrap_or}
use Prim.Native.Nat.{ℕ, ◌+◌, ◌*◌, ◌≤◌, ◌<◌}
use native.Mathlib.Omega.{arith}
use native.Mathlib.Decide.{dec_le}
use lib.IntN.{ℤ}
use lib.ListN.{length, take}
use lib.Seq.{take_at}
use Rattle.refusal.specs.declared.Refusal.{Refusal}
use Rattle.refusal.specs.declared.Refusal.TheVariants.{TooManyCoefficients}
use Rattle.refusal.specs.Rules.{Verdict, passes, refuses, tried, value_or, rule2, rule3}
use Rattle.refusal.proofs.Rules.{rule2_passes, rule3_refuses}
use Rattle.text.specs.Form.{has_value, ends_text, first_line_rules, p_of, n_of, count_of, end_at, coefficient_rules, coefficients_at}
use Rattle.text.specs.Form.{row_of, verdict_at, told_at, problem_at, problem_of}
use Rattle.text.proofs.Rows.{problem}
use Rattle.text.proofs.Prefix.{unsigned-same, line-end-same, end_same, lines_same, coefficients-same}

-- more than 65 coefficients are refused, whatever stands in their lines, by rule 1 on the first line or by rule 3
many : (vs : List Verdict) (k : ℕ) → 65 < k → (r : Refusal) × ((rest : List Verdict) → tried (vs ++ rule2 k ∷ rule3 k ∷ rest) ≡ refuses r)
many [] k h = (TooManyCoefficients, λ rest. rw (rule2_passes k (λ e. omega arith), rule3_refuses k h))
many (passes ∷ vs) k h = many vs k h
many (refuses r ∷ vs) k h = (r, λ rest. refl)

refused_first : (v w : Verdict) (r : Refusal) → v ≡ refuses r → tried (v ∷ w ∷ []) ≡ refuses r
refused_first v w r e = rw e

four : {a b c d a' b' c' d' : Verdict} → a ≡ a' → b ≡ b' → c ≡ c' → d ≡ d' → a ∷ b ∷ c ∷ d ∷ [] ≡ a' ∷ b' ∷ c' ∷ d' ∷ []
four e f g h = rw (e, f, g, h)

same_problem : {v w : Verdict} {p q n k c d e f : ℕ} {cs ds : List ℤ} → v ≡ w → p ≡ q → n ≡ k → c ≡ d → e ≡ f → cs ≡ ds
    → value_or v (problem p n c e (row_of cs)) ≡ value_or w (problem q k d f (row_of ds))
same_problem sv sp sn sc se sl = rw (sv, sp, sn, sc, se, sl)

-- The first line is within the first m bytes

module _ (m : ℕ) (text : List ℕ) (line : 34 ≤ m) where
  first-same : first_line_rules (take m text) 0 ≡ first_line_rules text 0
  unfolding first_line_rules
  first-same =
      four (ap (λ (o : Option ℕ). has_value o 0) (unsigned-same m text 0 11 (omega arith)))
      (ap (λ (o : Option ℕ). has_value o 11) (unsigned-same m text 11 11 (omega arith)))
      (ap (λ (o : Option ℕ). has_value o 22) (unsigned-same m text 22 11 (omega arith)))
      (line-end-same m text 33 (omega arith))

  p-same : p_of (take m text) 0 ≡ p_of text 0
  unfolding p_of
  p-same = ap (λ (o : Option ℕ). unwrap_or o 0) (unsigned-same m text 0 11 (omega arith))

  n-same : n_of (take m text) 0 ≡ n_of text 0
  unfolding n_of
  n-same = ap (λ (o : Option ℕ). unwrap_or o 0) (unsigned-same m text 11 11 (omega arith))

  pub count_same : count_of (take m text) 0 ≡ count_of text 0
  unfolding count_of
  count_same = ap (λ (o : Option ℕ). unwrap_or o 0) (unsigned-same m text 22 11 (omega arith))

  after_same : end_at (take m text) 0 ≡ end_at text 0
  unfolding end_at
  after_same = ap (λ (k : ℕ). 0 + 34 + 21 * k) count_same

  -- and so are the lines of the coefficients
  module _ (lines : 34 + 21 * count_of text 0 ≤ m) where
    verdict-same : verdict_at (take m text) 0 ≡ verdict_at text 0
    unfolding verdict_at
    verdict-same =
        ap₂ (λ (F : List Verdict) (k : ℕ). tried (F ++ rule2 k ∷ rule3 k ∷ coefficient_rules (take m text) 34 k)) first-same count_same
        ∙ ap (λ (l : List Verdict). tried (first_line_rules text 0 ++ rule2 (count_of text 0) ∷ rule3 (count_of text 0) ∷ l))
        (lines_same m text (count_of text 0) 34 lines)

    row_same : coefficients_at (take m text) 34 (count_of (take m text) 0) ≡ coefficients_at text 34 (count_of text 0)
    row_same = ap (coefficients_at (take m text) 34) count_same ∙ coefficients-same m text (count_of text 0) 34 lines

    by-same : (v w : Verdict) → v ≡ w → value_or v (told_at (take m text) 0) ≡ value_or w (told_at text 0)
    unfolding told_at
    by-same v w e = same_problem e p-same n-same count_same after_same row_same

    pub told_same : problem_at (take m text) 0 ≡ problem_at text 0
    unfolding problem_at
    told_same = by-same (verdict_at (take m text) 0) (verdict_at text 0) verdict-same

    -- a byte more shows whether the text ends there
    whole_same : 34 + 21 * count_of text 0 < m → problem_of (take m text) ≡ problem_of text
    unfolding problem_of end_at
    whole_same h =
        let ends : ends_text (take m text) (end_at (take m text) 0) ≡ ends_text text (end_at text 0) =
        ap (ends_text (take m text)) after_same ∙ end_same m text (end_at text 0) h in
        by-same (tried (verdict_at (take m text) 0 ∷ ends_text (take m text) (end_at (take m text) 0) ∷ []))
        (tried (verdict_at text 0 ∷ ends_text text (end_at text 0) ∷ []))
        (ap₂ (λ (v w : Verdict). tried (v ∷ w ∷ [])) verdict-same ends)

  -- or there are too many coefficients
  module _ (more : 65 < count_of text 0) where
    anyway : (r : Refusal) × ((rest : List Verdict)
        → tried (first_line_rules text 0 ++ rule2 (count_of text 0) ∷ rule3 (count_of text 0) ∷ rest) ≡ refuses r)
    anyway = many (first_line_rules text 0) (count_of text 0) more

    verdict-prefix : verdict_at (take m text) 0 ≡ refuses anyway.0
    unfolding verdict_at
    verdict-prefix =
        ap₂ (λ (F : List Verdict) (k : ℕ). tried (F ++ rule2 k ∷ rule3 k ∷ coefficient_rules (take m text) 34 k)) first-same count_same
        ∙ anyway.1 (coefficient_rules (take m text) 34 (count_of text 0))

    verdict-whole : verdict_at text 0 ≡ refuses anyway.0
    unfolding verdict_at
    verdict-whole = anyway.1 (coefficient_rules text 34 (count_of text 0))

    refused-same : (v w : Verdict) → v ≡ refuses anyway.0 → w ≡ refuses anyway.0
        → value_or v (told_at (take m text) 0) ≡ value_or w (told_at text 0)
    refused-same v w e f = rw (e, f)

    many-told : problem_at (take m text) 0 ≡ problem_at text 0
    unfolding problem_at
    many-told = refused-same (verdict_at (take m text) 0) (verdict_at text 0) verdict-prefix verdict-whole

    many-refused : problem_of (take m text) ≡ problem_of text
    unfolding problem_of
    many-refused =
        refused-same (tried (verdict_at (take m text) 0 ∷ ends_text (take m text) (end_at (take m text) 0) ∷ []))
        (tried (verdict_at text 0 ∷ ends_text text (end_at text 0) ∷ []))
        (refused_first (verdict_at (take m text) 0) (ends_text (take m text) (end_at (take m text) 0)) anyway.0 verdict-prefix)
        (refused_first (verdict_at text 0) (ends_text text (end_at text 0)) anyway.0 verdict-whole)

-- The first 1,399 bytes tell the problem at the front of any text

at_same : (m : ℕ) → 1399 ≤ m → (text : List ℕ) → problem_at (take m text) 0 ≡ problem_at text 0
at_same m long text = go (dec_le (count_of text 0) 65)
  where
    go : Dec (count_of text 0 ≤ 65) → problem_at (take m text) 0 ≡ problem_at text 0
    go (yes u) = told_same m text (omega arith) (omega arith)
    go (no u) = many-told m text (omega arith) (omega arith)

-- whatever follows them
pub long_told : (w t : List ℕ) → 1399 ≤ length w → problem_at (w ++ t) 0 ≡ problem_at w 0
long_told w t long = sym (at_same (length w) long (w ++ t)) ∙ ap (λ (v : List ℕ). problem_at v 0) (take_at w t (length w) refl)

-- and 1,400 bytes tell the problem that is the whole text
pub problem_same : (m : ℕ) → 1400 ≤ m → (text : List ℕ) → problem_of (take m text) ≡ problem_of text
problem_same m long text = go (dec_le (count_of text 0) 65)
  where
    go : Dec (count_of text 0 ≤ 65) → problem_of (take m text) ≡ problem_of text
    go (yes u) = whole_same m text (omega arith) (omega arith) (omega arith)
    go (no u) = many-refused m text (omega arith) (omega arith)
