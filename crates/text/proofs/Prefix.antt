-- The first m bytes of a text hold the same columns, line ends and coefficient lines, as far as these end by m.
use mathlib.Core.Path.{◌≡◌, refl, sym, ap, ap₂, ◌∙◌}
use mathlib.Core.Bool.{Bool, not}
use mathlib.Core.List.{List, [], ◌∷◌}
use Rattle.std.specs.Prelude.{Option, unwrap_or}
use Prim.Native.Nat.{ℕ, zero, suc, ◌+◌, ◌*◌, ◌≤◌, ◌<◌}
use native.Mathlib.Omega.{arith}
use native.Mathlib.Decide.{dec_le, dec_lt}
use borrow.Author.Tests.{le-leb, lt-leb, lt-ltb, le-ltb}
use lib.Dec.{eqb, leb, ltb}
use lib.IntN.{ℤ, pos}
use lib.ListN.{length, length-take, take, drop}
use lib.Seq.{get_or-take, take-take}
use Rattle.refusal.specs.declared.Refusal.TheVariants.{Form}
use Rattle.refusal.specs.Rules.{Verdict, rule}
use Rattle.text.specs.Reading.{unsigned_of, signed_of}
use Rattle.text.specs.Text.{column_at, unsigned_value, signed_value}
use Rattle.text.specs.Form.{has_value, ends_line, ends_text, coefficient_rules, coefficients_at}

-- a part of a list that ends by m
part_same : (at m w : ℕ) (l : List ℕ) → at + w ≤ m → take w (drop at (take m l)) ≡ take w (drop at l)
part_same zero m w l h = take-take w m l (omega arith)
part_same (suc at) zero w l h = absurd (omega arith)
part_same (suc at) (suc m) w [] h = refl
part_same (suc at) (suc m) w (x ∷ l) h = part_same at m w l (omega arith)

module _ (m : ℕ) (text : List ℕ) where
  within_same : (k : ℕ) → k ≤ m → leb k (length (take m text)) ≡ leb k (length text)
  within_same k h = go (dec_le k (length text))
    where
      go : Dec (k ≤ length text) → leb k (length (take m text)) ≡ leb k (length text)
      go (yes u) = le-leb k (length (take m text)) (omega (arith, length-take m text)) ∙ sym (le-leb k (length text) u)
      go (no u) = lt-leb k (length (take m text)) (omega (arith, length-take m text)) ∙ sym (lt-leb k (length text) (omega arith))

  column-same : (at w : ℕ) → at + w ≤ m → column_at (take m text) at w ≡ column_at text at w
  unfolding column_at
  column-same at w h = rw (within_same (at + w) h, part_same at m w text h)

  pub unsigned-same : (at w : ℕ) → at + w ≤ m → unsigned_value (take m text) at w ≡ unsigned_value text at w
  unfolding unsigned_value
  unsigned-same at w h = ap unsigned_of (column-same at w h)

  signed_same : (at w : ℕ) → at + w ≤ m → signed_value (take m text) at w ≡ signed_value text at w
  unfolding signed_value
  signed_same at w h = ap signed_of (column-same at w h)

  pub line-end-same : (place : ℕ) → place < m → ends_line (take m text) place ≡ ends_line text place
  line-end-same place h = ap (λ (b : ℕ). rule (not (eqb b 10)) (Form place)) (get_or-take m text place 0 h)

  -- the text ends by a place before m where its first m bytes do
  pub end_same : (place : ℕ) → place < m → ends_text (take m text) place ≡ ends_text text place
  end_same place h = ap (λ (b : Bool). rule b (Form place)) (go (dec_lt place (length text)))
    where
      go : Dec (place < length text) → ltb place (length (take m text)) ≡ ltb place (length text)
      go (yes u) = lt-ltb place (length (take m text)) (omega (arith, length-take m text)) ∙ sym (lt-ltb place (length text) u)
      go (no u) = le-ltb place (length (take m text)) (omega (arith, length-take m text)) ∙ sym (le-ltb place (length text) (omega arith))

  -- c lines of coefficients
  pub lines_same : (c at : ℕ) → at + 21 * c ≤ m → coefficient_rules (take m text) at c ≡ coefficient_rules text at c
  unfolding coefficient_rules
  lines_same zero at h = refl
  lines_same (suc c) at h =
      let v = ap (λ (o : Option ℤ). has_value o at) (signed_same at 20 (omega arith)) in
      let e = line-end-same (at + 20) (omega arith) in
      ap₂ (λ (a : Verdict) (l : List Verdict). a ∷ l) v
      (ap₂ (λ (a : Verdict) (l : List Verdict). a ∷ l) e (lines_same c (at + 21) (omega arith)))

  pub coefficients-same : (c at : ℕ) → at + 21 * c ≤ m → coefficients_at (take m text) at c ≡ coefficients_at text at c
  unfolding coefficients_at
  coefficients-same zero at h = refl
  coefficients-same (suc c) at h =
      ap₂ (λ (z : ℤ) (l : List ℤ). z ∷ l) (ap (λ (o : Option ℤ). unwrap_or o (pos 0)) (signed_same at 20 (omega arith)))
      (coefficients-same c (at + 21) (omega arith))
