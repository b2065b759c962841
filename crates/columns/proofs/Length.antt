-- A column of width w has w bytes.
use mathlib.Core.Path.{◌≡◌, refl}
use mathlib.Core.Bool.{Bool, true, false}
use Prim.Native.Nat.{ℕ, zero, suc, ◌/◌}
use native.Mathlib.Numerals.{add-one}
use lib.Dec.{ltb}
use lib.IntN.{ℤ, pos, negsuc}
use lib.ListN.{length, length-append, length-replicate}
use Rattle.columns.specs.Column.{blank, column, sign, minus_column, signed_column}

pub column-length : (w x : ℕ) → length (column w x) ≡ w
unfolding column
column-length zero x = refl
column-length (suc w) x = go (column-length w (x / 10)) (ltb x 10) refl
  where
    go : length (column w (x / 10)) ≡ w → (b : Bool) → ltb x 10 ≡ b → length (column (suc w) x) ≡ suc w
    go ih true e = rw (e, length-append, length-replicate w blank) (add-one w)
    go ih false e = rw (e, length-append, ih) (add-one w)

sign-length : (w : ℕ) → length (sign w) ≡ w
unfolding sign
sign-length zero = refl
sign-length (suc w) = rw (length-append, length-replicate w blank) (add-one w)

minus-length : (w x : ℕ) → length (minus_column w x) ≡ w
unfolding minus_column
minus-length zero x = refl
minus-length (suc w) x = go (minus-length w (x / 10)) (ltb x 10) refl
  where
    go : length (minus_column w (x / 10)) ≡ w → (b : Bool) → ltb x 10 ≡ b → length (minus_column (suc w) x) ≡ suc w
    go ih true e = rw (e, length-append, sign-length w) (add-one w)
    go ih false e = rw (e, length-append, ih) (add-one w)

pub signed-length : (w : ℕ) (z : ℤ) → length (signed_column w z) ≡ w
unfolding signed_column
signed-length w (pos x) = column-length w x
signed-length w (negsuc k) = minus-length w (suc k)
