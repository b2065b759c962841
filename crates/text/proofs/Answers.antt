-- What the cursor's answers say of the text.
use mathlib.Core.Path.{◌≡◌, refl, sym, ap, ◌∙◌}
use mathlib.Core.Bool.{Bool, true, false}
use mathlib.Core.List.{List}
use Rattle.std.specs.Prelude.{Option, Some, None, Result, Err, IsErrAnd}
use Rattle.std.specs.Option.{ok_or}
use Rattle.std.proofs.lemmas.Result.{err_from_is_err_and}
use Rattle.refusal.specs.declared.Refusal.{Refusal}
use Prim.Native.Nat.{ℕ, ◌+◌}
use native.Mathlib.Omega.{arith}
use borrow.Author.Tests.{eqb-true, eq-eqb}
use lib.Dec.{eqb}
use lib.IntN.{ℤ}
use lib.ListN.{get_or}
use Rattle.std.proofs.lemmas.Option.{some_pair_parts}
use Rattle.text.specs.declared.Cursor.{Cursor}
use Rattle.text.specs.Text.{with_place, unsigned_value, unsigned_at, signed_value, signed_at, line_end_at}

-- Columns

placed-value : {A : Type 0} (o : Option A) (after : ℕ) (x : A) (c : Cursor) → Some (x, c) ≡ with_place o after
    → (o ≡ Some x) × (c.at ≡ after)
placed-value (Some y) after x c e =
    let (f, g) = some_pair_parts x y c (record { at = after }) e in
    (ap Some (sym f), ap (λ (k : Cursor). k.at) g)
placed-value None after x c e = let z : ◌≡◌ {A = ℕ} 0 1 = cc in absurd (omega arith)

placed_fault : {A : Type 0} (o : Option A) (after : ℕ) → None ≡ with_place o after → o ≡ None
placed_fault (Some y) after e = let z : ◌≡◌ {A = ℕ} 0 1 = cc in absurd (omega arith)
placed_fault None after e = refl

pub unsigned-value-means : (text : List ℕ) (at w x : ℕ) (c : Cursor) (r : Option (ℕ × Cursor)) → r ≡ unsigned_at text at w → r ≡ Some (x, c)
    → (unsigned_value text at w ≡ Some x) × (c.at ≡ at + w)
unsigned-value-means text at w x c r e f = placed-value (unsigned_value text at w) (at + w) x c (sym f ∙ e)

pub unsigned-fault-means : (text : List ℕ) (at w : ℕ) (r : Option (ℕ × Cursor)) → r ≡ unsigned_at text at w → r ≡ None
    → unsigned_value text at w ≡ None
unsigned-fault-means text at w r e f = placed_fault (unsigned_value text at w) (at + w) (sym f ∙ e)

pub signed-value-means : (text : List ℕ) (at w : ℕ) (x : ℤ) (c : Cursor) (r : Option (ℤ × Cursor)) → r ≡ signed_at text at w
    → r ≡ Some (x, c)
    → (signed_value text at w ≡ Some x) × (c.at ≡ at + w)
signed-value-means text at w x c r e f = placed-value (signed_value text at w) (at + w) x c (sym f ∙ e)

pub signed-fault-means : (text : List ℕ) (at w : ℕ) (r : Option (ℤ × Cursor)) → r ≡ signed_at text at w → r ≡ None
    → signed_value text at w ≡ None
signed-fault-means text at w r e f = placed_fault (signed_value text at w) (at + w) (sym f ∙ e)

-- Line ends

pub line-end-means : (text : List ℕ) (at : ℕ) (c : Cursor) (r : Option Cursor) → r ≡ line_end_at text at → r ≡ Some c
    → (get_or text at 0 ≡ 10) × (c.at ≡ at + 1)
line-end-means text at c r e f = go (eqb (get_or text at 0) 10) refl
  where
    go : (t : Bool) → eqb (get_or text at 0) 10 ≡ t → (get_or text at 0 ≡ 10) × (c.at ≡ at + 1)
    go true q =
        let g : ◌≡◌ {A = Option Cursor} (Some c) (Some (record { at = at + 1 })) = rw q at (sym f ∙ e) in
        let h : c ≡ record { at = at + 1 } = cc in
        (eqb-true (get_or text at 0) 10 q, ap (λ (k : Cursor). k.at) h)
    go false q =
        let g : ◌≡◌ {A = Option Cursor} (Some c) None = rw q at (sym f ∙ e) in
        let z : ◌≡◌ {A = ℕ} 0 1 = cc in
        absurd (omega arith)

pub line-end-missing-means : (text : List ℕ) (at : ℕ) (r : Option Cursor) → r ≡ line_end_at text at → r ≡ None → get_or text at 0 ≡ 10 → ⊥
line-end-missing-means text at r e f h =
    let g : ◌≡◌ {A = Option Cursor} None (Some (record { at = at + 1 })) = rw (eq-eqb (get_or text at 0) 10 h) at (sym f ∙ e) in
    let z : ◌≡◌ {A = ℕ} 0 1 = cc in
    omega arith

-- What a `?` hands on

pub passed_on : {B : Type 0} (result : Result B Refusal) (r : Refusal) → IsErrAnd result (λ t. t ≡ r) → result ≡ Err r
passed_on result r out =
    let p = err_from_is_err_and result out in
    p.1 ∙ ap Err p.2

-- the refusal for a column or a line end that is not there
pub handed_on : {A B : Type 0} (result : Result B Refusal) (o : Option A) (r s : Refusal) → IsErrAnd result (λ t. t ≡ r)
    → Err r ≡ ok_or o s → o ≡ None
    → result ≡ Err s
handed_on {A = A} result o r s out e none =
    let f : ◌≡◌ {A = Result A Refusal} (Err r) (Err s) = e ∙ ap (λ (x : Option A). ok_or x s) none in
    let same : r ≡ s = cc in
    passed_on result r out ∙ ap Err same
