-- "The longest has 1,399 bytes."
use mathlib.Core.Path.{◌≡◌, refl, ap, ◌∙◌}
use mathlib.Core.List.{List, [], ◌∷◌, ◌++◌}
use Prim.Native.Nat.{ℕ, ◌+◌, ◌*◌, ◌≤◌}
use native.Mathlib.Omega.{arith}
use lib.IntN.{ℤ}
use lib.ListN.{length, length-append, take}
use Rattle.std.specs.Prelude.{Ok}
use Rattle.columns.specs.Column.{column, signed_column}
use Rattle.columns.proofs.Length.{column-length, signed-length}
use Rattle.text.specs.declared.Problem.{Problem}
use Rattle.text.specs.Form.{problem_of}
use Rattle.text.specs.Input.{coefficient_lines, input_text}
use Rattle.text.proofs.Accepted.{given_is_input}

lines_length : (cs : List ℤ) → length (coefficient_lines cs) ≡ 21 * length cs
unfolding coefficient_lines
lines_length [] = refl
lines_length (z ∷ cs) =
    omega (arith, length-append (signed_column 20 z) (10 ∷ coefficient_lines cs), signed-length 20 z, lines_length cs)

pub input_length : (p n : ℕ) (cs : List ℤ) → length (input_text p n cs) ≡ 34 + 21 * length cs
unfolding input_text
input_length p n cs =
    let lines : List ℕ = 10 ∷ coefficient_lines cs in
    let c = column 11 (length cs) in
    omega (
      arith,
      length-append (column 11 p) (column 11 n ++ (c ++ lines)),
      length-append (column 11 n) (c ++ lines),
      length-append c lines,
      column-length 11 p,
      column-length 11 n,
      column-length 11 (length cs),
      lines_length cs,
    )

-- no text that is read is longer
pub longest : (text : List ℕ) (P : Problem) → problem_of text ≡ Ok P → length text ≤ 1399
longest text P e =
    let (whole, R) = given_is_input text P e in
    omega (arith, ap length whole, input_length P.p P.n (take P.count P.coefficients), R.few_coefficients)

-- and those of 65 coefficients have as many
pub longest_reached : (p n : ℕ) (cs : List ℤ) → length cs ≡ 65 → length (input_text p n cs) ≡ 1399
longest_reached p n cs e = input_length p n cs ∙ ap (λ (k : ℕ). 34 + 21 * k) e
