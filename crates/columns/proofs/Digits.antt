-- A column by the last digit of its number.
use mathlib.Core.Path.{◌≡◌, ap, ap₂}
use mathlib.Core.List.{[], ◌∷◌, ◌++◌}
use Prim.Native.Nat.{ℕ, suc, ◌+◌, ◌*◌, ◌/◌, ◌%◌, ◌≤◌, ◌<◌}
use native.Mathlib.Omega.{arith}
use borrow.Author.Tests.{lt-ltb, le-ltb}
use lib.ListN.{replicate}
use Rattle.columns.specs.Column.{blank, column, sign, minus_column}

pub column_short : (w d : ℕ) → d ≤ 9 → column (suc w) d ≡ replicate w blank ++ (d + 48) ∷ []
unfolding column
column_short w d h =
    let e : d % 10 ≡ d = omega arith in
    rw (lt-ltb d 10 (omega arith), column) (ap (λ (x : ℕ). replicate w blank ++ (x + 48) ∷ []) e)

pub column_long : (w x d : ℕ) → d ≤ 9 → 0 < x → column (suc w) (x * 10 + d) ≡ column w x ++ (d + 48) ∷ []
unfolding column
column_long w x d h l =
    let e : (x * 10 + d) % 10 ≡ d = omega arith in
    let f : (x * 10 + d) / 10 ≡ x = omega arith in
    rw (le-ltb (x * 10 + d) 10 (omega arith), column) (ap₂ (λ (y z : ℕ). column w y ++ (z + 48) ∷ []) f e)

pub minus_short : (w d : ℕ) → d ≤ 9 → minus_column (suc w) d ≡ sign w ++ (d + 48) ∷ []
unfolding minus_column
minus_short w d h =
    let e : d % 10 ≡ d = omega arith in
    rw (lt-ltb d 10 (omega arith), minus_column) (ap (λ (x : ℕ). sign w ++ (x + 48) ∷ []) e)

pub minus_long : (w x d : ℕ) → d ≤ 9 → 0 < x → minus_column (suc w) (x * 10 + d) ≡ minus_column w x ++ (d + 48) ∷ []
unfolding minus_column
minus_long w x d h l =
    let e : (x * 10 + d) % 10 ≡ d = omega arith in
    let f : (x * 10 + d) / 10 ≡ x = omega arith in
    rw (le-ltb (x * 10 + d) 10 (omega arith), minus_column) (ap₂ (λ (y z : ℕ). minus_column w y ++ (z + 48) ∷ []) f e)
