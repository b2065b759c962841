-- The form of the input (01, "Lent lists, map and text": "Input: …"), with rules 1, 2 and 3 of "When the solver declines".
use Rattle.std.specs.Prelude.{not, List, [], ◌∷◌, ◌++◌, ℕ, zero, suc, ◌+◌, ◌-◌, ◌*◌, eqb, ltb, ℤ, pos, length, get_or, replicate}
use Rattle.std.specs.Prelude.{Result, Option, Some, None, unwrap_or}
use Rattle.columns.specs.Column.{line_end}
use Rattle.refusal.specs.declared.Refusal.{Refusal}
use Rattle.refusal.specs.declared.Refusal.TheVariants.{Form}
use Rattle.refusal.specs.Rules.{Verdict, passes, refuses, rule, tried, value_or, rule2, rule3}
use Rattle.text.specs.declared.Problem.{Problem}
use Rattle.text.specs.Text.{unsigned_value, signed_value}

-- "1. …; the place is the offset of the first faulty or incomplete column": the column at the place has a value
abbrev pub has_value : {A : Type 0} → Option A → ℕ → Verdict
has_value (Some x) place = passes
has_value None place = refuses (Form place)

-- "of a missing line end"
abbrev pub ends_line : List ℕ → ℕ → Verdict
ends_line text place = rule (not (eqb (get_or text place 0) line_end)) (Form place)

-- "or of the first byte past the end"
abbrev pub ends_text : List ℕ → ℕ → Verdict
ends_text text place = rule (ltb place (length text)) (Form place)

-- "one line of p, n and the coefficient count c, unsigned, …, in 11 columns each"
unfoldable pub first_line_rules : List ℕ → ℕ → List Verdict
unfolding unsigned_value
first_line_rules text at =
    has_value (unsigned_value text at 11) at ∷ has_value (unsigned_value text (at + 11) 11) (at + 11)
    ∷ has_value (unsigned_value text (at + 22) 11) (at + 22) ∷ ends_line text (at + 33) ∷ []

-- p, n and c, the numbers of these columns
unfoldable pub p_of : List ℕ → ℕ → ℕ
unfolding unsigned_value
p_of text at = unwrap_or (unsigned_value text at 11) 0

unfoldable pub n_of : List ℕ → ℕ → ℕ
unfolding unsigned_value
n_of text at = unwrap_or (unsigned_value text (at + 11) 11) 0

unfoldable pub count_of : List ℕ → ℕ → ℕ
unfolding unsigned_value
count_of text at = unwrap_or (unsigned_value text (at + 22) 11) 0

-- "then c lines of one coefficient in 20 columns"
unfoldable pub coefficient_rules : List ℕ → ℕ → ℕ → List Verdict
unfolding signed_value
coefficient_rules text at zero = []
coefficient_rules text at (suc c) = has_value (signed_value text at 20) at ∷ ends_line text (at + 20) ∷ coefficient_rules text (at + 21) c

-- the coefficients of these lines
unfoldable pub coefficients_at : List ℕ → ℕ → ℕ → List ℤ
unfolding signed_value
coefficients_at text at zero = []
coefficients_at text at (suc c) = unwrap_or (signed_value text at 20) (pos 0) ∷ coefficients_at text (at + 21) c

-- "a row of 65 coefficients, zero after the c read"
abbrev pub row_of : List ℤ → List ℤ
row_of coefficients = coefficients ++ replicate (65 - length coefficients) (pos 0)

-- "In the reader, rule 1 covers the first line, then rules 2 and 3 judge c, then rule 1 covers the rest."
unfoldable pub verdict_at : List ℕ → ℕ → Verdict
unfolding first_line_rules count_of coefficient_rules
verdict_at text at =
    tried
    (first_line_rules text at ++ rule2 (count_of text at) ∷ rule3 (count_of text at) ∷ coefficient_rules text (at + 34) (count_of text at))

-- the place after the problem's last line
unfoldable pub end_at : List ℕ → ℕ → ℕ
unfolding count_of
end_at text at = at + 34 + 21 * count_of text at

-- "The reader gives p, n, c and a row of 65 coefficients", and the place after them
unfoldable pub told_at : List ℕ → ℕ → Problem
unfolding p_of n_of count_of end_at coefficients_at
told_at text at =
    record {
      p = p_of text at;
      n = n_of text at;
      count = count_of text at;
      end = end_at text at;
      coefficients = row_of (coefficients_at text (at + 34) (count_of text at));
    }

-- the problem that starts at a place
unfoldable pub problem_at : List ℕ → ℕ → Result Problem Refusal
unfolding verdict_at told_at
problem_at text at = value_or (verdict_at text at) (told_at text at)

-- the problem that is the whole text: "then the end"
unfoldable pub problem_of : List ℕ → Result Problem Refusal
unfolding verdict_at told_at end_at
problem_of text = value_or (tried (verdict_at text 0 ∷ ends_text text (end_at text 0) ∷ [])) (told_at text 0)
