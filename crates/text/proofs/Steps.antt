-- One byte more of a column, by the kind of the byte.
use mathlib.Core.Path.{◌≡◌, ap, ◌∙◌}
use mathlib.Core.List.{List, [], ◌∷◌, ◌++◌, foldl-append}
use Prim.Native.Nat.{ℕ, ◌+◌, ◌-◌, ◌≤◌, ◌<◌}
use native.Mathlib.Omega.{arith}
use native.Mathlib.Decide.{dec_le, ℕ_discrete}
use Rattle.std.specs.Prelude.{Some, None}
use borrow.Author.Tests.{eq-eqb, ne_eqb, le-leb, lt-leb}
use Rattle.text.specs.declared.column.Part.{Part}
use Rattle.text.specs.declared.column.Part.TheVariants.{Blanks}
use Rattle.text.specs.Reading.{after_blank, after_minus, after_digit, step, step_on, scan}

pub step-blank : (p : Part) (b : ℕ) → b ≡ 32 → step p b ≡ after_blank p
unfolding step
step-blank p b e = rw (eq-eqb b 32 e)

pub step-minus : (p : Part) (b : ℕ) → b ≡ 45 → step p b ≡ after_minus p
unfolding step
step-minus p b e = rw (ne_eqb b 32 (λ f. omega arith), eq-eqb b 45 e)

pub step_digit : (p : Part) (b : ℕ) → 48 ≤ b → b ≤ 57 → step p b ≡ after_digit p (b - 48)
unfolding step
step_digit p b l h = rw (ne_eqb b 32 (λ f. omega arith), ne_eqb b 45 (λ f. omega arith), le-leb 48 b l, le-leb b 57 h)

pub step_low : (p : Part) (b : ℕ) → (b ≡ 32 → ⊥) → (b ≡ 45 → ⊥) → b < 48 → step p b ≡ None
unfolding step
step_low p b e f l = rw (ne_eqb b 32 e, ne_eqb b 45 f, lt-leb 48 b l)

pub step_high : (p : Part) (b : ℕ) → 57 < b → step p b ≡ None
unfolding step
step_high p b h =
    rw (ne_eqb b 32 (λ f. omega arith), ne_eqb b 45 (λ f. omega arith), le-leb 48 b (omega arith), lt-leb b 57 h)

-- "a blank, a minus, a digit or a fault"
pub data Kind (b : ℕ) : Type 0 where
  a_blank : b ≡ 32 → Kind b
  a_minus : b ≡ 45 → Kind b
  a_digit : (d : ℕ) → d ≤ 9 → b ≡ d + 48 → Kind b
  a_fault : ((p : Part) → step p b ≡ None) → Kind b

pub kind : (b : ℕ) → Kind b
kind b = go (ℕ_discrete b 32) (ℕ_discrete b 45) (dec_le 48 b) (dec_le b 57)
  where
    go : Dec (b ≡ 32) → Dec (b ≡ 45) → Dec (48 ≤ b) → Dec (b ≤ 57) → Kind b
    go (yes e) f l h = a_blank e
    go (no e) (yes f) l h = a_minus f
    go (no e) (no f) (yes l) (yes h) = a_digit (b - 48) (omega arith) (omega arith)
    go (no e) (no f) (no l) h = a_fault (λ p. step_low p b e f (omega arith))
    go (no e) (no f) (yes l) (no h) = a_fault (λ p. step_high p b (omega arith))

-- the byte of the digit d
pub step_of_digit : (p : Part) (b d : ℕ) → d ≤ 9 → b ≡ d + 48 → step p b ≡ after_digit p d
step_of_digit p b d h e =
    let q : b - 48 ≡ d = omega arith in
    step_digit p b (omega arith) (omega arith) ∙ ap (after_digit p) q

-- a column with one byte more
pub scan_next : (bytes : List ℕ) (b : ℕ) → scan (bytes ++ b ∷ []) ≡ step_on (scan bytes) b
unfolding scan
scan_next bytes b = foldl-append step_on (Some Blanks) bytes (b ∷ [])
