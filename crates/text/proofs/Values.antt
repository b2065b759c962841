-- The values of a column from what is kept of it in 64 bits.
use mathlib.Core.Path.{◌≡◌, refl, ap, ◌∙◌}
use mathlib.Core.Bool.{Bool, true, false}
use mathlib.Core.List.{List}
use Rattle.std.specs.Prelude.{Option, Some, None}
use Prim.Native.Nat.{ℕ, zero, suc, ◌+◌, ◌≤◌, ◌<◌}
use native.Mathlib.Omega.{arith}
use borrow.Author.Tests.{le-leb, lt-leb, leb-true, leb-false}
use lib.Dec.{leb}
use lib.IntN.{ℤ, pos, neg_ℤ}
use lib.ListN.{length, take, drop}
use mir.Syntax.{w64}
use mir.Val.{SFits, to_z, of_z}
use mir.ValLaws.{to_z-of_z}
use Rattle.text.specs.declared.column.Part.{Part}
use Rattle.text.specs.declared.column.Part.TheVariants.{Blanks, Minus, Number}
use Rattle.text.specs.Reading.{scan, unsigned_of, signed_of}
use Rattle.text.specs.inner.Capped.{capped}
use Rattle.text.specs.Text.{column_at, with_place, unsigned_value, unsigned_at, signed_value, signed_at}

-- what is kept of a column has its value
pub capped_unsigned : (o : Option Part) → unsigned_of (capped o) ≡ unsigned_of o
capped_unsigned None = refl
capped_unsigned (Some Blanks) = refl
capped_unsigned (Some Minus) = refl
capped_unsigned (Some (Number m x)) = go m (leb x 18446744073709551615) refl
  where
    go : (m t : Bool) → leb x 18446744073709551615 ≡ t → unsigned_of (capped (Some (Number m x))) ≡ unsigned_of (Some (Number m x))
    go m true q = rw q
    go true false q = rw q
    go false false q =
        let h : 18446744073709551615 < x = leb-false x 18446744073709551615 q in
        rw (q, lt-leb x 4294967295 (omega arith))

pub capped_signed : (o : Option Part) → signed_of (capped o) ≡ signed_of o
capped_signed None = refl
capped_signed (Some Blanks) = refl
capped_signed (Some Minus) = refl
capped_signed (Some (Number m x)) = go m (leb x 18446744073709551615) refl
  where
    go : (m t : Bool) → leb x 18446744073709551615 ≡ t → signed_of (capped (Some (Number m x))) ≡ signed_of (Some (Number m x))
    go m true q = rw q
    go true false q =
        let h : 18446744073709551615 < x = leb-false x 18446744073709551615 q in
        rw (q, lt-leb x 9223372036854775808 (omega arith))
    go false false q =
        let h : 18446744073709551615 < x = leb-false x 18446744073709551615 q in
        rw (q, lt-leb x 9223372036854775807 (omega arith))

-- the value of a number, and that nothing else has one
pub unsigned_value_lem : (o : Option Part) (m : Bool) (x : ℕ) → o ≡ Some (Number m x) → m ≡ false → x ≤ 4294967295 → unsigned_of o ≡ Some x
unsigned_value_lem o m x e f h = rw (e, f, le-leb x 4294967295 h)

abbrev pub Others : Option Part → Type 0
Others o = (m : Bool) (x : ℕ) → o ≡ Some (Number m x) → ⊥

pub no_unsigned : (o : Option Part) → Others o → unsigned_of o ≡ None
no_unsigned None h = refl
no_unsigned (Some Blanks) h = refl
no_unsigned (Some Minus) h = refl
no_unsigned (Some (Number m x)) h = absurd (h m x refl)

pub no_signed : (o : Option Part) → Others o → signed_of o ≡ None
no_signed None h = refl
no_signed (Some Blanks) h = refl
no_signed (Some Minus) h = refl
no_signed (Some (Number m x)) h = absurd (h m x refl)

-- a signed value is what its 64 bits say

negative_fits : (x : ℕ) → x ≤ 9223372036854775808 → SFits w64 (neg_ℤ (pos x))
negative_fits zero h = record { sfits = omega arith }
negative_fits (suc k) h = record { sfits = omega arith }

signed_fits : (o : Option Part) (z : ℤ) → signed_of o ≡ Some z → SFits w64 z
signed_fits (Some Blanks) z e = let o : ◌≡◌ {A = ℕ} 0 1 = cc in absurd (omega arith)
signed_fits (Some Minus) z e = let o : ◌≡◌ {A = ℕ} 0 1 = cc in absurd (omega arith)
signed_fits (Some (Number true x)) z e = go (leb x 9223372036854775808) refl
  where
    go : (t : Bool) → leb x 9223372036854775808 ≡ t → SFits w64 z
    go true q =
        let f : Some (neg_ℤ (pos x)) ≡ Some z = rw q at e in
        let g : z ≡ neg_ℤ (pos x) = cc in
        rw g (negative_fits x (leb-true x 9223372036854775808 q))
    go false q =
        let f : None ≡ Some z = rw q at e in
        let o : ◌≡◌ {A = ℕ} 0 1 = cc in
        absurd (omega arith)
signed_fits (Some (Number false x)) z e = go (leb x 9223372036854775807) refl
  where
    go : (t : Bool) → leb x 9223372036854775807 ≡ t → SFits w64 z
    go true q =
        let f : Some (pos x) ≡ Some z = rw q at e in
        let g : z ≡ pos x = cc in
        let h : x ≤ 9223372036854775807 = leb-true x 9223372036854775807 q in
        rw g (record { sfits = omega arith })
    go false q =
        let f : None ≡ Some z = rw q at e in
        let o : ◌≡◌ {A = ℕ} 0 1 = cc in
        absurd (omega arith)
signed_fits None z e = let o : ◌≡◌ {A = ℕ} 0 1 = cc in absurd (omega arith)

pub kept : (o : Option Part) (z : ℤ) → signed_of o ≡ Some z → to_z w64 (of_z w64 z) ≡ z
kept o z e = to_z-of_z w64 z (signed_fits o z e)

pub kept_signed : (text : List ℕ) (at w : ℕ) (z : ℤ) → signed_value text at w ≡ Some z → to_z w64 (of_z w64 z) ≡ z
unfolding signed_value
kept_signed text at w z e = kept (column_at text at w) z e

-- a column of the text

pub column_whole : (text : List ℕ) (at w : ℕ) → at + w ≤ length text → column_at text at w ≡ scan (take w (drop at text))
unfolding column_at
column_whole text at w h = rw (le-leb (at + w) (length text) h)

pub column_incomplete : (text : List ℕ) (at w : ℕ) → length text < at + w → column_at text at w ≡ None
unfolding column_at
column_incomplete text at w h = rw (lt-leb (at + w) (length text) h)

-- what the cursor gives, by the column that the code read

pub unsigned_read : (text : List ℕ) (at w : ℕ) (r : Option Part) → r ≡ capped (column_at text at w)
    → with_place (unsigned_of r) (at + w) ≡ unsigned_at text at w
unfolding unsigned_value
unsigned_read text at w r e = ap (λ (o : Option ℕ). with_place o (at + w)) (ap unsigned_of e ∙ capped_unsigned (column_at text at w))

pub signed_read : (text : List ℕ) (at w : ℕ) (r : Option Part) → r ≡ capped (column_at text at w)
    → with_place (signed_of r) (at + w) ≡ signed_at text at w
unfolding signed_value
signed_read text at w r e = ap (λ (o : Option ℤ). with_place o (at + w)) (ap signed_of e ∙ capped_signed (column_at text at w))
