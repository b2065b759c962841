-- Columns written from the right, byte by byte.
use mathlib.Core.Path.{◌≡◌, refl, sym, ap, ◌∙◌}
use mathlib.Core.Bool.{true, false}
use mathlib.Core.List.{List, [], ◌∷◌, ◌++◌, append_assoc}
use Prim.Native.Nat.{ℕ, zero, suc, ◌+◌, ◌-◌, ◌*◌, ◌/◌, ◌%◌, ◌≤◌, ◌<◌}
use native.Mathlib.Numerals.{add-one}
use native.Mathlib.Decide.{dec_le, ℕ_discrete}
use native.Mathlib.Omega.{arith}
use borrow.Author.Tests.{eq-eqb, ne_eqb, le-ltb}
use lib.Signed.{lt_z}
use lib.IntN.{ℤ, pos, negsuc, nat_abs}
use lib.ListN.{length, drop, set, replicate, length-set, replicate-append-replicate}
use lib.Seq.{drop-cons, get_or-set_same, drop-set-lt}
use Rattle.columns.specs.Column.{column, signed_column, sign, minus_column, blank, minus, digit_byte}
use Rattle.columns.proofs.Digits.{column_short, column_long, minus_short, minus_long}
use Rattle.writer.specs.inner.Place.{left_of, left_byte, number_of}

-- The bytes left of a digit

pub byte_lead : (s y : ℕ) → y ≡ 0 → s ≡ left_byte s y
unfolding left_byte
byte_lead s y e = rw (eq-eqb y 0 e, left_byte)

pub byte_digit : (s y : ℕ) → (y ≡ 0 → ⊥) → digit_byte (y % 10) ≡ left_byte s y
unfolding left_byte
byte_digit s y h = rw (ne_eqb y 0 h, left_byte)

no_digit : (s w y : ℕ) → y ≡ 0 → left_of s (suc w) y ≡ replicate w blank ++ s ∷ []
unfolding left_of
no_digit s w y e = rw (eq-eqb y 0 e, left_of)

some_digit : (s w y : ℕ) → (y ≡ 0 → ⊥) → left_of s (suc w) y ≡ left_of s w (y / 10) ++ digit_byte (y % 10) ∷ []
unfolding left_of
some_digit s w y h = rw (ne_eqb y 0 h, left_of)

left_blank : (w : ℕ) → left_of blank w 0 ≡ replicate w blank
unfolding left_of
left_blank zero = refl
left_blank (suc w) = no_digit blank w 0 refl ∙ replicate-append-replicate w 1 blank ∙ ap (λ (k : ℕ). replicate k blank) (add-one w)

left_minus : (w : ℕ) → left_of minus w 0 ≡ sign w
unfolding left_of sign
left_minus zero = refl
left_minus (suc w) = no_digit minus w 0 refl

-- a number that has a digit left
number_left : (s w y : ℕ) → (y ≡ 0 → ⊥) → number_of s w y ≡ left_of s w y
unfolding number_of left_of
number_left s zero y h = refl
number_left s (suc w) y h = sym (some_digit s w y h)

-- Columns by their last digit: F is a column with the sign s, B its bytes left of a single digit

module _ (s : ℕ) (F : ℕ → ℕ → List ℕ) (B : ℕ → List ℕ) (none : (x : ℕ) → F 0 x ≡ [])
    (short : (w d : ℕ) → d ≤ 9 → F (suc w) d ≡ B w ++ (d + 48) ∷ [])
    (long : (w x d : ℕ) → d ≤ 9 → 0 < x → F (suc w) (x * 10 + d) ≡ F w x ++ (d + 48) ∷ []) (lead : (w : ℕ) → left_of s w 0 ≡ B w) where
  by_digits : (w x : ℕ) → F w x ≡ number_of s w x
  unfolding number_of
  by_digits zero x = none x
  by_digits (suc w) x = go (by_digits w (x / 10)) (dec_le x 9)
    where
      go : F w (x / 10) ≡ number_of s w (x / 10) → Dec (x ≤ 9) → F (suc w) x ≡ left_of s w (x / 10) ++ digit_byte (x % 10) ∷ []
      go ih (yes h) =
          let left : x / 10 ≡ 0 = omega arith in
          let digit : x % 10 ≡ x = omega arith in
          short w x h ∙ rw (left, lead w, digit)
      go ih (no h) =
          let split : x ≡ x / 10 * 10 + x % 10 = omega arith in
          ap (F (suc w)) split
          ∙ long w (x / 10) (x % 10) (omega arith) (omega arith)
          ∙ ap (λ (l : List ℕ). l ++ digit_byte (x % 10) ∷ []) (ih ∙ number_left s w (x / 10) (λ z. omega arith))

pub number-column : (w x : ℕ) → number_of blank w x ≡ column w x
unfolding column
number-column w x = sym (by_digits blank column (λ k. replicate k blank) (λ y. refl) column_short column_long left_blank w x)

pub number-minus : (w x : ℕ) → number_of minus w x ≡ minus_column w x
unfolding minus_column
number-minus w x = sym (by_digits minus minus_column sign (λ y. refl) minus_short minus_long left_minus w x)

-- a signed number: the digits of its size, with a minus before them where it is below 0
pub signed-number : (w : ℕ) (z : ℤ) (s : ℕ) → (lt_z z (pos 0) ≡ true → s ≡ minus) → (lt_z z (pos 0) ≡ false → s ≡ blank)
    → number_of s w (nat_abs z) ≡ signed_column w z
unfolding signed_column
signed-number w (pos k) s below above = rw (above (le-ltb k 0 (omega arith))) (number-column w k)
signed-number w (negsuc k) s below above = rw (below refl) (number-minus w (suc k))

-- Writing them

-- a byte put at the right end of what is still to be written
put_last : (e p : List ℕ) (j v : ℕ) → j < length p → e ++ drop j (set p j v) ≡ (e ++ (v ∷ [])) ++ drop (suc j) p
put_last e p j v h =
    let q : drop j (set p j v) ≡ v ∷ drop (suc j) p =
    drop-cons (set p j v) j 0 (rw length-set h) ∙ rw (get_or-set_same p j v 0, drop-set-lt (suc j) p j v (omega arith)) in
    rw q (sym (append_assoc e (v ∷ []) (drop (suc j) p)))

-- what is left of a digit is its last byte and the rest, with blanks left of the sign
left_step : (s w y lead : ℕ) → (y ≡ 0 → lead ≡ blank) → ((y ≡ 0 → ⊥) → lead ≡ s)
    → left_of s (suc w) y ≡ left_of lead w (y / 10) ++ (left_byte s y ∷ [])
left_step s w y lead on off = go (ℕ_discrete y 0)
  where
    go : Dec (y ≡ 0) → left_of s (suc w) y ≡ left_of lead w (y / 10) ++ (left_byte s y ∷ [])
    go (yes e) =
        let rest : y / 10 ≡ 0 = omega arith in
        no_digit s w y e ∙ rw (on e, rest, left_blank w, ← byte_lead s y e)
    go (no h) = some_digit s w y h ∙ rw (off h, ← byte_digit s y h)

module _ (p : List ℕ) (i : ℕ) (some : 0 < i) (fits : i ≤ length p) where
  before : i ≡ suc (i - 1)
  before = omega arith

  -- one byte more of what is left
  pub put-left-byte : (s y lead : ℕ) → (y ≡ 0 → lead ≡ blank) → ((y ≡ 0 → ⊥) → lead ≡ s)
      → left_of lead (i - 1) (y / 10) ++ drop (i - 1) (set p (i - 1) (left_byte s y)) ≡ left_of s i y ++ drop i p
  put-left-byte s y lead on off =
      put_last (left_of lead (i - 1) (y / 10)) p (i - 1) (left_byte s y) (omega arith)
      ∙ ap (λ (e : List ℕ). e ++ drop (suc (i - 1)) p) (sym (left_step s (i - 1) y lead on off))
      ∙ ap (λ (n : ℕ). left_of s n y ++ drop n p) (sym before)

  -- the last digit
  pub put-last-digit : (s x : ℕ)
      → left_of s (i - 1) (x / 10) ++ drop (i - 1) (set p (i - 1) (digit_byte (x % 10))) ≡ number_of s i x ++ drop i p
  unfolding number_of
  put-last-digit s x =
      put_last (left_of s (i - 1) (x / 10)) p (i - 1) (digit_byte (x % 10)) (omega arith)
      ∙ ap (λ (n : ℕ). number_of s n x ++ drop n p) (sym before)

-- left of the first place there is nothing
pub left_nothing : (s y i : ℕ) (p : List ℕ) → i ≡ 0 → p ≡ left_of s i y ++ drop i p
unfolding left_of
left_nothing s y i p e = rw e
