-- The input text of a problem reads as that problem.
use mathlib.Core.Path.{◌≡◌, refl, sym, ap, ap₂, ◌∙◌}
use mathlib.Core.List.{List, [], ◌∷◌, ◌++◌, append_assoc, append-nil}
use Rattle.std.specs.Prelude.{Option, unwrap_or, Ok}
use Prim.Native.Nat.{ℕ, suc, ◌+◌, ◌*◌, ◌≤◌, ◌<◌}
use native.Mathlib.Omega.{arith}
use lib.IntN.{ℤ, pos, negsuc}
use lib.ListN.{length, drop, length-drop}
use Rattle.columns.specs.Column.{column, signed_column, FitsColumn}
use Rattle.refusal.specs.Rules.{passes, tried}
use Rattle.text.specs.declared.Problem.{Problem}
use Rattle.text.specs.Form.{coefficient_rules, coefficients_at, row_of}
use Rattle.text.specs.Form.{problem_at, problem_of}
use Rattle.text.specs.Input.{coefficient_lines, input_text}
use Rattle.text.proofs.ReadBack.{InRange}
use Rattle.columns.proofs.Length.{column-length, signed-length}
use Rattle.text.proofs.Placed.{after, unsigned-placed, signed-placed, end-placed}
use Rattle.text.proofs.Rows.{line-passes}
use Rattle.text.proofs.FirstLine.{FirstLine, problem-read, whole-given}

-- every coefficient is a signed 64-bit number
abbrev pub AllInRange : List ℤ → Type 0
AllInRange [] = Unit {0}
AllInRange (z ∷ cs) = InRange z × AllInRange cs

-- a signed 64-bit number fits 20 columns
fits_20 : (z : ℤ) → InRange z → FitsColumn 20 z
fits_20 (pos x) h = (omega arith, omega arith)
fits_20 (negsuc k) h = omega arith

-- An input text reads as its problem

module _ (text : List ℕ) where
  -- what the lines of the coefficients read as
  record LinesRead (at : ℕ) (cs : List ℤ) (rest : List ℕ) : Type 0 where
    passed : tried (coefficient_rules text at (length cs)) ≡ passes
    values : coefficients_at text at (length cs) ≡ cs
    left : drop (at + 21 * length cs) text ≡ rest

  lines-read : (cs : List ℤ) (at : ℕ) (rest : List ℕ) → AllInRange cs → drop at text ≡ coefficient_lines cs ++ rest → LinesRead at cs rest
  unfolding coefficient_lines coefficient_rules coefficients_at
  lines-read [] at rest r e =
      let z : at + 21 * 0 ≡ at = omega arith in
      record { passed = refl; values = refl; left = ap (λ (k : ℕ). drop k text) z ∙ e }
  lines-read (z ∷ cs) at rest r e =
      let f : drop at text ≡ signed_column 20 z ++ (10 ∷ (coefficient_lines cs ++ rest)) = e ∙ append_assoc (signed_column 20 z)
      (10 ∷ coefficient_lines cs) rest in
      let v = signed-placed text at 20 z (10 ∷ (coefficient_lines cs ++ rest)) (omega arith) (fits_20 z r.0) r.0 f in
      let g = after text at (signed_column 20 z) (10 ∷ (coefficient_lines cs ++ rest)) 20 (signed-length 20 z) f in
      let h = end-placed text (at + 20) (coefficient_lines cs ++ rest) g in
      let p : at + 20 + 1 ≡ at + 21 = omega arith in
      let R = lines-read cs (at + 21) rest r.1 (ap (λ (k : ℕ). drop k text) (sym p) ∙ h.1) in
      let q : at + 21 * suc (length cs) ≡ at + 21 + 21 * length cs = omega arith in
      record {
        passed = line-passes text at (length cs) z v h.0 ∙ R.passed;
        values = ap₂ (λ (y : ℤ) (l : List ℤ). y ∷ l) (ap (λ (o : Option ℤ). unwrap_or o (pos 0)) v) R.values;
        left = ap (λ (k : ℕ). drop k text) q ∙ R.left;
      }

pub input_append : (p n : ℕ) (cs : List ℤ) (rest : List ℕ) → input_text p n cs ++ rest
    ≡ column 11 p ++ (column 11 n ++ (column 11 (length cs) ++ 10 ∷ (coefficient_lines cs ++ rest)))
unfolding input_text
input_append p n cs rest = simp append_assoc

-- a problem that the reader is to take
pub record Readable (p n : ℕ) (cs : List ℤ) : Type 0 where
  pub p_small : p ≤ 4294967295
  pub n_small : n ≤ 4294967295
  pub some_coefficient : 0 < length cs
  pub few_coefficients : length cs ≤ 65
  pub in_range : AllInRange cs

abbrev pub problem : ℕ → ℕ → List ℤ → ℕ → Problem
problem p n cs end = record { p = p; n = n; count = length cs; end = end; coefficients = row_of cs }

module _ (text : List ℕ) (at p n : ℕ) (cs : List ℤ) (rest : List ℕ) (U : Readable p n cs) (here : drop at text ≡ input_text p n cs ++ rest)
  where
    rest-n : List ℕ
    rest-n = column 11 n ++ (column 11 (length cs) ++ 10 ∷ (coefficient_lines cs ++ rest))

    rest-count : List ℕ
    rest-count = column 11 (length cs) ++ 10 ∷ (coefficient_lines cs ++ rest)

    from-p : drop at text ≡ column 11 p ++ rest-n
    unfolding rest-n
    from-p = here ∙ input_append p n cs rest

    from-n : drop (at + 11) text ≡ column 11 n ++ rest-count
    unfolding rest-n rest-count
    from-n = after text at (column 11 p) rest-n 11 (column-length 11 p) from-p

    from-count : drop (at + 22) text ≡ column 11 (length cs) ++ 10 ∷ (coefficient_lines cs ++ rest)
    unfolding rest-count
    from-count =
        let k : at + 22 ≡ at + 11 + 11 = omega arith in
        ap (λ (j : ℕ). drop j text) k ∙ after text (at + 11) (column 11 n) rest-count 11 (column-length 11 n) from-n

    from_end : drop (at + 33) text ≡ 10 ∷ (coefficient_lines cs ++ rest)
    from_end =
        let k : at + 33 ≡ at + 22 + 11 = omega arith in
        ap (λ (j : ℕ). drop j text) k
        ∙ after text (at + 22) (column 11 (length cs)) (10 ∷ (coefficient_lines cs ++ rest)) 11 (column-length 11 (length cs)) from-count

    from-lines : drop (at + 34) text ≡ coefficient_lines cs ++ rest
    from-lines =
        let k : at + 34 ≡ at + 33 + 1 = omega arith in
        ap (λ (j : ℕ). drop j text) k ∙ (end-placed text (at + 33) (coefficient_lines cs ++ rest) from_end).1

    first-line : FirstLine text at p n (length cs)
    first-line =
        let few = U.few_coefficients in
        record {
          p_is = unsigned-placed text at 11 p rest-n (omega arith) (omega (arith, U.p_small)) U.p_small from-p;
          n_is = unsigned-placed text (at + 11) 11 n rest-count (omega arith) (omega (arith, U.n_small)) U.n_small from-n;
          count_is = unsigned-placed text (at + 22) 11 (length cs) (10 ∷ (coefficient_lines cs ++ rest)) (omega arith) (omega arith)
              (omega arith) from-count;
          ends = (end-placed text (at + 33) (coefficient_lines cs ++ rest) from_end).0;
        }

    lines : LinesRead text (at + 34) cs rest
    lines = lines-read text cs (at + 34) rest U.in_range from-lines

    pub input-reads-at : problem_at text at ≡ Ok (problem p n cs (at + 34 + 21 * length cs))
    input-reads-at =
        let some-are : length cs ≡ 0 → ⊥ = λ (e : length cs ≡ 0). omega (arith, U.some_coefficient) in
        sym (problem-read text at p n (length cs) first-line some-are U.few_coefficients)
        ∙ rw (lines.passed, lines.values)

    pub input-left : drop (at + 34 + 21 * length cs) text ≡ rest
    input-left = lines.left

-- the whole text
pub input_is_read : (p n : ℕ) (cs : List ℤ) → Readable p n cs → problem_of (input_text p n cs) ≡ Ok (problem p n cs (34 + 21 * length cs))
input_is_read p n cs U =
    let text = input_text p n cs in
    let e : drop 0 text ≡ text ++ [] = sym (append-nil text) in
    let r : problem_at text 0 ≡ Ok (problem p n cs (34 + 21 * length cs)) = input-reads-at text 0 p n cs [] U e in
    let l : length (drop (34 + 21 * length cs) text) ≡ 0 = ap length (input-left text 0 p n cs [] U e) in
    let k = length-drop (34 + 21 * length cs) text in
    sym (whole-given text (problem p n cs (34 + 21 * length cs)) r (omega arith))
