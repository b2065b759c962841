-- The reader and the writer's columns: a column reads as a number exactly if it is the column that the writer puts for that number.
use mathlib.Core.Path.{◌≡◌, refl, sym, ap, ◌∙◌}
use mathlib.Core.Bool.{Bool, true, false}
use mathlib.Core.List.{List, [], ◌∷◌, ◌++◌}
use Rattle.std.specs.Prelude.{Option, Some, None}
use Prim.Native.Nat.{ℕ, zero, suc, ◌+◌, ◌*◌, ◌/◌, ◌%◌, ◌^◌, ◌≤◌, ◌<◌}
use native.Mathlib.Nat.{pow-suc}
use native.Mathlib.Decide.{dec_le}
use native.Mathlib.Omega.{arith}
use borrow.Author.Tests.{ne_eqb, le-leb, leb-true}
use lib.Dec.{leb}
use lib.IntN.{ℤ, pos, negsuc, neg_ℤ}
use lib.ListN.{length, replicate}
use Rattle.columns.specs.Column.{blank, minus, column, sign, minus_column, signed_column, FitsColumn}
use Rattle.text.specs.declared.column.Part.{Part}
use Rattle.text.specs.declared.column.Part.TheVariants.{Blanks, Minus, Number}
use Rattle.text.specs.Reading.{after_digit, step_on, scan, unsigned_of, signed_of}
use Rattle.text.proofs.Steps.{step-blank, step-minus, step_of_digit, scan_next}
use Rattle.columns.proofs.Digits.{column_short, column_long, minus_short, minus_long}
use Rattle.text.proofs.Holds.{replicate_next, Holds, scan_holds}

-- What the writer's columns make

scan-blanks : (w : ℕ) → scan (replicate w blank) ≡ Some Blanks
unfolding scan
scan-blanks zero = refl
scan-blanks (suc w) =
    ap scan (sym (replicate_next w blank)) ∙ scan_next (replicate w blank) blank ∙ ap (λ (o : Option Part). step_on o blank) (scan-blanks w)
    ∙ step-blank Blanks blank refl

scan-sign : (w : ℕ) → 0 < w → scan (sign w) ≡ Some Minus
unfolding sign
scan-sign zero h = absurd (omega arith)
scan-sign (suc w) h =
    scan_next (replicate w blank) minus ∙ ap (λ (o : Option Part). step_on o minus) (scan-blanks w) ∙ step-minus Blanks minus refl

-- one digit more
scan_digit : (l : List ℕ) (p : Part) (d : ℕ) → d ≤ 9 → scan l ≡ Some p → scan (l ++ (d + 48) ∷ []) ≡ after_digit p d
scan_digit l p d h e = scan_next l (d + 48) ∙ ap (λ (o : Option Part). step_on o (d + 48)) e ∙ step_of_digit p (d + 48) d h refl

number_digit : (m : Bool) (y d : ℕ) → 0 < y → after_digit (Number m y) d ≡ Some (Number m (y * 10 + d))
number_digit m y d h = rw (ne_eqb y 0 (λ e. omega arith))

width : (w : ℕ) → 1 < 10 ^ w → 0 < w
width zero u = absurd (omega arith)
width (suc w) u = omega arith

scan-column : (w x : ℕ) → 0 < w → x < 10 ^ w → scan (column w x) ≡ Some (Number false x)
scan-column zero x l h = absurd (omega arith)
scan-column (suc w) x l h = go (scan-column w (x / 10)) (dec_le x 9)
  where
    go : (0 < w → x / 10 < 10 ^ w → scan (column w (x / 10)) ≡ Some (Number false (x / 10))) → Dec (x ≤ 9)
        → scan (column (suc w) x) ≡ Some (Number false x)
    go ih (yes s) = ap scan (column_short w x s) ∙ scan_digit (replicate w blank) Blanks x s (scan-blanks w)
    go ih (no s) =
        let y = x / 10 in
        let d = x % 10 in
        let k : x ≡ y * 10 + d = omega arith in
        let e : 10 ^ suc w ≡ 10 ^ w * 10 = pow-suc 10 w in
        let small : y < 10 ^ w = omega arith in
        let more : 0 < y = omega arith in
        let wide : 0 < w = width w (omega arith) in
        ap (λ (z : ℕ). scan (column (suc w) z)) k ∙ ap scan (column_long w y d (omega arith) more)
        ∙ scan_digit (column w y) (Number false y) d (omega arith) (ih wide small)
        ∙ number_digit false y d more ∙ ap (λ (z : ℕ). Some (Number false z)) (sym k)

scan-minus : (w x : ℕ) → 0 < x → x * 10 < 10 ^ w → scan (minus_column w x) ≡ Some (Number true x)
scan-minus zero x l h = absurd (omega arith)
scan-minus (suc w) x l h = go (scan-minus w (x / 10)) (dec_le x 9)
  where
    go : (0 < x / 10 → x / 10 * 10 < 10 ^ w → scan (minus_column w (x / 10)) ≡ Some (Number true (x / 10))) → Dec (x ≤ 9)
        → scan (minus_column (suc w) x) ≡ Some (Number true x)
    go ih (yes s) =
        let e : 10 ^ suc w ≡ 10 ^ w * 10 = pow-suc 10 w in
        let wide : 0 < w = width w (omega arith) in
        ap scan (minus_short w x s) ∙ scan_digit (sign w) Minus x s (scan-sign w wide) ∙ rw (ne_eqb x 0 (λ q. omega arith))
    go ih (no s) =
        let y = x / 10 in
        let d = x % 10 in
        let k : x ≡ y * 10 + d = omega arith in
        let e : 10 ^ suc w ≡ 10 ^ w * 10 = pow-suc 10 w in
        let small : y * 10 < 10 ^ w = omega arith in
        let more : 0 < y = omega arith in
        ap (λ (z : ℕ). scan (minus_column (suc w) z)) k ∙ ap scan (minus_long w y d (omega arith) more)
        ∙ scan_digit (minus_column w y) (Number true y) d (omega arith) (ih more small)
        ∙ number_digit true y d more ∙ ap (λ (z : ℕ). Some (Number true z)) (sym k)

-- What fits 64 bits

abbrev pub InRange : ℤ → Type 0
InRange (pos x) = x ≤ 9223372036854775807
InRange (negsuc k) = suc k ≤ 9223372036854775808

-- The writer's column of a number reads as that number.

pub unsigned_reads_column : (w x : ℕ) → 0 < w → x < 10 ^ w → x ≤ 4294967295 → unsigned_of (scan (column w x)) ≡ Some x
unsigned_reads_column w x l h r = ap unsigned_of (scan-column w x l h) ∙ rw (le-leb x 4294967295 r)

pub signed_reads_column : (w : ℕ) (z : ℤ) → FitsColumn w z → InRange z → signed_of (scan (signed_column w z)) ≡ Some z
unfolding signed_column
signed_reads_column w (pos x) f r = ap signed_of (scan-column w x f.0 f.1) ∙ rw (le-leb x 9223372036854775807 r)
signed_reads_column w (negsuc k) f r = ap signed_of (scan-minus w (suc k) (omega arith) f) ∙ rw (le-leb (suc k) 9223372036854775808 r)

-- A column that reads as a number is the writer's column of it.

unsigned_holds : (o : Option Part) (w : ℕ) (l : List ℕ) (x : ℕ) → Holds o w l → unsigned_of o ≡ Some x → (l ≡ column w x) × (x ≤ 4294967295)
unsigned_holds (Some Blanks) w l x h e = let z : ◌≡◌ {A = ℕ} 0 1 = cc in absurd (omega arith)
unsigned_holds (Some Minus) w l x h e = let z : ◌≡◌ {A = ℕ} 0 1 = cc in absurd (omega arith)
unsigned_holds (Some (Number true y)) w l x h e = let z : ◌≡◌ {A = ℕ} 0 1 = cc in absurd (omega arith)
unsigned_holds (Some (Number false y)) w l x h e = go (leb y 4294967295) refl
  where
    go : (t : Bool) → leb y 4294967295 ≡ t → (l ≡ column w x) × (x ≤ 4294967295)
    go true q =
        let f : Some y ≡ Some x = rw q at e in
        let g : y ≡ x = cc in
        (h ∙ ap (column w) g, omega (arith, leb-true y 4294967295 q))
    go false q =
        let f : None ≡ Some x = rw q at e in
        let z : ◌≡◌ {A = ℕ} 0 1 = cc in
        absurd (omega arith)
unsigned_holds None w l x h e = let z : ◌≡◌ {A = ℕ} 0 1 = cc in absurd (omega arith)

pub unsigned_is_column : (bytes : List ℕ) (x : ℕ) → unsigned_of (scan bytes) ≡ Some x
    → (bytes ≡ column (length bytes) x) × (x ≤ 4294967295)
unsigned_is_column bytes x e = unsigned_holds (scan bytes) (length bytes) bytes x (scan_holds bytes) e

-- the number −y, for a y above 0
negative_column : (w y : ℕ) (l : List ℕ) (z : ℤ) → 0 < y → y ≤ 9223372036854775808 → l ≡ minus_column w y → z ≡ neg_ℤ (pos y)
    → (l ≡ signed_column w z) × InRange z
unfolding signed_column
negative_column w zero l z p r h e = absurd (omega arith)
negative_column w (suc k) l z p r h e = rw e (h, r)

natural-column : (w y : ℕ) (l : List ℕ) (z : ℤ) → y ≤ 9223372036854775807 → l ≡ column w y → z ≡ pos y
    → (l ≡ signed_column w z) × InRange z
unfolding signed_column
natural-column w y l z r h e = rw e (h, r)

signed_holds : (o : Option Part) (w : ℕ) (l : List ℕ) (z : ℤ) → Holds o w l → signed_of o ≡ Some z → (l ≡ signed_column w z) × InRange z
signed_holds (Some Blanks) w l z h e = let o : ◌≡◌ {A = ℕ} 0 1 = cc in absurd (omega arith)
signed_holds (Some Minus) w l z h e = let o : ◌≡◌ {A = ℕ} 0 1 = cc in absurd (omega arith)
signed_holds (Some (Number true y)) w l z h e = go (leb y 9223372036854775808) refl
  where
    go : (t : Bool) → leb y 9223372036854775808 ≡ t → (l ≡ signed_column w z) × InRange z
    go true q =
        let f : Some (neg_ℤ (pos y)) ≡ Some z = rw q at e in
        negative_column w y l z h.0 (leb-true y 9223372036854775808 q) h.1 (cc)
    go false q =
        let f : None ≡ Some z = rw q at e in
        let o : ◌≡◌ {A = ℕ} 0 1 = cc in
        absurd (omega arith)
signed_holds (Some (Number false y)) w l z h e = go (leb y 9223372036854775807) refl
  where
    go : (t : Bool) → leb y 9223372036854775807 ≡ t → (l ≡ signed_column w z) × InRange z
    go true q =
        let f : Some (pos y) ≡ Some z = rw q at e in
        natural-column w y l z (leb-true y 9223372036854775807 q) h (cc)
    go false q =
        let f : None ≡ Some z = rw q at e in
        let o : ◌≡◌ {A = ℕ} 0 1 = cc in
        absurd (omega arith)
signed_holds None w l z h e = let o : ◌≡◌ {A = ℕ} 0 1 = cc in absurd (omega arith)

pub signed_is_column : (bytes : List ℕ) (z : ℤ) → signed_of (scan bytes) ≡ Some z → (bytes ≡ signed_column (length bytes) z) × InRange z
signed_is_column bytes z e = signed_holds (scan bytes) (length bytes) bytes z (scan_holds bytes) e
