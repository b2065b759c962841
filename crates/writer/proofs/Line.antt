-- Lines of columns, laid column by column.
use mathlib.Core.Path.{◌≡◌, sym, ap, ap₂, ◌∙◌}
use mathlib.Core.List.{List, [], ◌∷◌, ◌++◌}
use Prim.Native.Nat.{ℕ, ◌+◌, ◌≤◌, ◌<◌}
use native.Mathlib.Omega.{arith}
use lib.IntN.{ℤ}
use lib.ListN.{length, drop, set, length-append}
use Rattle.refusal.specs.declared.Refusal.{Refusal}
use Rattle.refusal.specs.Number.{number_of, place_of}
use Rattle.columns.specs.Column.{column, signed_column, line_end}
use Rattle.writer.specs.inner.Place.{laid}
use Rattle.writer.specs.Output.{line, refusal_line}
use Rattle.columns.proofs.Length.{column-length, signed-length}
use Rattle.writer.proofs.Laid.{laid-length, laid_next, laid_byte, laid_zero}

-- one column more
more : (e col : List ℕ) (k : ℕ) → length e ≡ k → length col ≡ 11 → length (e ++ col) ≡ k + 11
more e col k n w = length-append e col ∙ ap₂ (λ (y z : ℕ). y + z) n w

-- l with e laid at `at` became l', of k bytes
module _ (at k : ℕ) (e l l' : List ℕ) (n : length e ≡ k) (p : l' ≡ laid at e l) where
  next-column : (l'' col : List ℕ) → at + k ≤ length l → l'' ≡ laid (at + k) col l' → l'' ≡ laid at (e ++ col) l
  next-column l'' col h q = q ∙ ap (laid (at + k) col) p ∙ laid_next at e l col (at + k) (ap (λ (y : ℕ). at + y) (sym n)) h

  next-end : at + k < length l → set l' (at + k) line_end ≡ laid at (e ++ (line_end ∷ [])) l
  next-end h =
      let same : length l' ≡ length l = ap length p ∙ laid-length at e l (omega arith) in
      laid_byte (at + k) line_end l' (omega arith)
      ∙ ap (laid (at + k) (line_end ∷ [])) p
      ∙ laid_next at e l (line_end ∷ []) (at + k) (ap (λ (y : ℕ). at + y) (sym n)) (omega arith)

-- four columns and the line's end

module _ (a : ℤ) (b c d : ℕ) where
  abbrev e₁ : List ℕ
  e₁ = signed_column 11 a

  abbrev e₂ : List ℕ
  e₂ = e₁ ++ column 11 b

  abbrev e₃ : List ℕ
  e₃ = e₂ ++ column 11 c

  n₁ : length e₁ ≡ 11
  n₁ = signed-length 11 a

  n₂ : length e₂ ≡ 22
  n₂ = more e₁ (column 11 b) 11 n₁ (column-length 11 b)

  n₃ : length e₃ ≡ 33
  n₃ = more e₂ (column 11 c) 22 n₂ (column-length 11 c)

  n₄ : length (e₃ ++ column 11 d) ≡ 44
  n₄ = more e₃ (column 11 d) 33 n₃ (column-length 11 d)

  pub line-laid : (at : ℕ) (l l₁ l₂ l₃ l₄ : List ℕ) → at + 45 ≤ length l
      → l₁ ≡ laid at (signed_column 11 a) l
      → l₂ ≡ laid (at + 11) (column 11 b) l₁
      → l₃ ≡ laid (at + 22) (column 11 c) l₂
      → l₄ ≡ laid (at + 33) (column 11 d) l₃
      → set l₄ (at + 44) line_end ≡ laid at (line a b c d) l
  unfolding line
  line-laid at l l₁ l₂ l₃ l₄ h p₁ p₂ p₃ p₄ =
      let q₂ : l₂ ≡ laid at e₂ l = next-column at 11 e₁ l l₁ n₁ p₁ l₂ (column 11 b) (omega arith) p₂ in
      let q₃ : l₃ ≡ laid at e₃ l = next-column at 22 e₂ l l₂ n₂ q₂ l₃ (column 11 c) (omega arith) p₃ in
      let q₄ : l₄ ≡ laid at (e₃ ++ column 11 d) l = next-column at 33 e₃ l l₃ n₃ q₃ l₄ (column 11 d) (omega arith) p₄ in
      next-end at 44 (e₃ ++ column 11 d) l l₄ n₄ q₄ (omega arith)

  pub line-length : length (line a b c d) ≡ 45
  unfolding line
  line-length = length-append (e₃ ++ column 11 d) (line_end ∷ []) ∙ ap (λ (y : ℕ). y + 1) n₄

-- the line of a refusal: two columns and the end
pub refusal_laid : (r : Refusal) (l l₁ l₂ : List ℕ) → 23 ≤ length l
    → l₁ ≡ laid 0 (column 11 (number_of r)) l
    → l₂ ≡ laid 11 (column 11 (place_of r)) l₁
    → set l₂ 22 line_end ≡ refusal_line r ++ drop (length (refusal_line r)) l
unfolding refusal_line
refusal_laid r l l₁ l₂ h p₁ p₂ =
    let e = column 11 (number_of r) in
    let f = column 11 (place_of r) in
    let n : length e ≡ 11 = column-length 11 (number_of r) in
    let q : l₂ ≡ laid 0 (e ++ f) l = next-column 0 11 e l l₁ n p₁ l₂ f (omega arith) p₂ in
    next-end 0 22 (e ++ f) l l₂ (more e f 11 n (column-length 11 (place_of r))) q (omega arith) ∙ laid_zero (refusal_line r) l

pub refusal_length : (r : Refusal) → length (refusal_line r) ≡ 23
unfolding refusal_line
refusal_length r =
    let e = column 11 (number_of r) in
    let f = column 11 (place_of r) in
    let n = more e f 11 (column-length 11 (number_of r)) (column-length 11 (place_of r)) in
    length-append (e ++ f) (line_end ∷ []) ∙ ap (λ (y : ℕ). y + 1) n
