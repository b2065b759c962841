-- The problem at the front of a text, where it is read: how long it is, and that it is the same whatever follows.
use mathlib.Core.Path.{◌≡◌, refl, sym, ap, ◌∙◌}
use mathlib.Core.List.{List, [], ◌∷◌, ◌++◌}
use Prim.Native.Nat.{ℕ, ◌+◌, ◌-◌, ◌*◌, ◌≤◌, ◌<◌}
use native.Mathlib.Omega.{arith}
use lib.IntN.{pos}
use lib.ListN.{length, length-append, take, drop, replicate}
use lib.Seq.{take_at, length-take-le}
use Rattle.std.specs.Prelude.{Ok}
use Rattle.refusal.specs.Rules.{tried}
use Rattle.refusal.proofs.Rules.{value_passes}
use Rattle.text.specs.declared.Problem.{Problem}
use Rattle.text.specs.Form.{count_of, end_at, coefficients_at, row_of, ends_text, verdict_at, told_at, problem_at, problem_of}
use Rattle.text.specs.Input.{input_text}
use Rattle.text.proofs.Rows.{coefficients_length}
use Rattle.text.proofs.FirstLine.{told_end}
use Rattle.text.proofs.Accepted.{given_at_is_input}
use Rattle.text.proofs.Longest.{input_length}
use Rattle.text.proofs.Enough.{count_same, told_same}

-- a row holds the coefficients that were read
told-count : (text : List ℕ) (P : Problem) → told_at text 0 ≡ P → count_of text 0 ≡ P.count
unfolding told_at
told-count text P e = ap (λ (Q : Problem). Q.count) e

told-long : (text : List ℕ) (P : Problem) → told_at text 0 ≡ P → P.count ≤ length P.coefficients
unfolding told_at
told-long text P e =
    let cs = coefficients_at text 34 (count_of text 0) in
    let long : length P.coefficients ≡ length (row_of cs) = ap (λ (Q : Problem). length Q.coefficients) (sym e) in
    omega (
      arith,
      long,
      length-append cs (replicate (65 - length cs) (pos 0)),
      coefficients_length text 34 (count_of text 0),
      told-count text P e,
    )

pub row_long : (text : List ℕ) (P : Problem) → problem_of text ≡ Ok P → P.count ≤ length P.coefficients
unfolding problem_of
row_long text P given =
    told-long text P
    (sym (value_passes (tried (verdict_at text 0 ∷ ends_text text (end_at text 0) ∷ [])) (told_at text 0) P given).1)

-- "one line of p, n and the coefficient count c, …, then c lines", all of them in the text
pub record Told (P : Problem) (w : List ℕ) : Type 0 where
  pub end_is : P.end ≡ 34 + 21 * P.count
  pub some_coefficient : 0 < P.count
  pub few_coefficients : P.count ≤ 65
  pub inside : P.end ≤ length w
  pub row_long : P.count ≤ length P.coefficients

module _ (w : List ℕ) (P : Problem) (given : problem_at w 0 ≡ Ok P) where
  told-is : told_at w 0 ≡ P
  unfolding problem_at
  told-is = sym (value_passes (verdict_at w 0) (told_at w 0) P given).1

  end-is : P.end ≡ 34 + 21 * P.count
  unfolding end_at
  end-is = sym (told_end w 0 P told-is) ∙ ap (λ (k : ℕ). 0 + 34 + 21 * k) (told-count w P told-is)

  pub given-told : Told P w
  given-told =
      let f = take P.count P.coefficients in
      let (whole, R) = given_at_is_input w 0 P given in
      let long-row = told-long w P told-is in
      let k : length f ≡ P.count = length-take-le P.count P.coefficients long-row in
      let long = ap length whole ∙ length-append (input_text P.p P.n f) (drop P.end w) in
      record {
        end_is = end-is;
        some_coefficient = omega (arith, R.some_coefficient, k);
        few_coefficients = omega (arith, R.few_coefficients, k);
        inside = omega (arith, long, input_length P.p P.n f, k, end-is);
        row_long = long-row;
      }

  -- the problem is the same whatever follows
  pub given-same : (t : List ℕ) → problem_at (w ++ t) 0 ≡ problem_at w 0
  given-same t =
      let m = length w in
      let prefix : take m (w ++ t) ≡ w = take_at w t m refl in
      let line : 34 ≤ m = omega (arith, given-told.end_is, given-told.inside) in
      let c : count_of (w ++ t) 0 ≡ P.count =
      sym (count_same m (w ++ t) line) ∙ ap (λ (v : List ℕ). count_of v 0) prefix ∙ told-count w P told-is in
      sym (told_same m (w ++ t) line (omega (arith, c, given-told.end_is, given-told.inside)))
      ∙ ap (λ (v : List ℕ). problem_at v 0) prefix
