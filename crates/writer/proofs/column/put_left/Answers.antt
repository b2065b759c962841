-- `writer::column::put_left` meets its contract.
use mathlib.Core.Path.{◌≡◌, ap, ◌∙◌}
use mathlib.Core.List.{List, ◌++◌}
use Prim.Native.Nat.{ℕ, ◌-◌, ◌/◌}
use native.Mathlib.Omega.{arith}
use lib.ListN.{drop, set}
use Rattle.columns.specs.Column.{blank}
use Rattle.writer.specs.inner.Place.{left_of}
use Rattle.writer.proofs.Columns.{put-left-byte, left_nothing}
use Rattle.writer.proofs.column.put_left.Goals as goal
use Rattle.writer.proofs.column.put_left.Goals.{then-rest-eq0, else-rest-eq0}

pub loop-i-preserved : goal.loop-i-preserved
loop-i-preserved c =
    let part = c.loop-i.part in
    let i = c.loop-i.i in
    let rest = c.loop-i.rest in
    let byte : set part (i - 1) c.left_byte.result ≡ set part (i - 1) _ = ap (set part (i - 1)) c.left_byte.ensures in
    let blank-after : rest ≡ 0 → c.if-rest-eq0.lead ≡ blank =
    λ e. elim c.if-rest-eq0.branch [ then-rest-eq0 w ↦ w.lead-is | else-rest-eq0 w ↦ absurd (w.if-rest-eq0.false e) ] in
    let sign-after : (rest ≡ 0 → ⊥) → c.if-rest-eq0.lead ≡ c.loop-i.lead =
    λ h. elim c.if-rest-eq0.branch [ then-rest-eq0 w ↦ absurd (h w.if-rest-eq0.true) | else-rest-eq0 w ↦ w.lead-is ] in
    ap (λ (l : List ℕ). left_of c.if-rest-eq0.lead (i - 1) (rest / 10) ++ drop (i - 1) l) byte
    ∙ put-left-byte part i (omega arith) (omega (arith, c.requires)) c.loop-i.lead rest c.if-rest-eq0.lead
    blank-after sign-after
    ∙ c.loop-i.invariant

pub returns : goal.returns
returns c =
    let e : c.loop-i.i ≡ 0 = omega arith in
    left_nothing c.loop-i.lead c.loop-i.rest c.loop-i.i c.loop-i.part e ∙ c.loop-i.invariant
