-- `text::read_coefficients` meets its contract.
use mathlib.Core.Path.{◌≡◌, ◌∙◌}
use Prim.Native.Nat.{◌+◌, ◌<◌}
use native.Mathlib.Omega.{arith}
use lib.ListN.{get_or}
use Rattle.refusal.specs.declared.Refusal.TheVariants.{Form}
use Rattle.refusal.specs.Rules.{tried}
use Rattle.text.specs.Form.{coefficient_rules}
use Rattle.text.proofs.Values.{kept_signed}
use Rattle.text.proofs.Answers.{signed-value-means, signed-fault-means, line-end-means, line-end-missing-means, handed_on}
use Rattle.text.proofs.Rows.{reading_start, reading-next, reading-column-fault, reading-end-fault, slots_length, reading-done}
use Rattle.text.proofs.Rows.{refused_by}
use Rattle.text.proofs.read_coefficients.Goals as goal

pub loop-slot-init : goal.loop-slot-init
loop-slot-init c = reading_start c.args.text.now c.args.start.at c.args.count c.requires

pub returns-in_err-x : goal.returns-in_err-x
returns-in_err-x c =
    let a = c.args in
    let l = c.loop-slot in
    let out = c.in_err-x in
    let h : l.slot-index < a.count = omega (arith, slots_length a.count c.requires, c.loop-slot-test.true) in
    handed_on c.from_residual.result c.signed.result out.field-0.0 (Form l.cursor.at) c.from_residual.ensures.1 out.ensures.value
    out.ensures.ok_part
    ∙ refused_by (tried (coefficient_rules a.text.now a.start.at a.count)) (Form l.cursor.at) _
    (reading-column-fault a.text.now a.start.at l.cursor.at a.count l.slot-index l.slot-items l.invariant h
    (signed-fault-means a.text.now l.cursor.at 20 c.signed.result c.signed.ensures out.ensures.ok_part))

pub returns-in_err-cursor : goal.returns-in_err-cursor
returns-in_err-cursor c =
    let a = c.args in
    let l = c.loop-slot in
    let g = c.in_ok-x in
    let out = c.in_err-cursor in
    let h : l.slot-index < a.count = omega (arith, slots_length a.count c.requires, c.loop-slot-test.true) in
    let v = signed-value-means a.text.now l.cursor.at 20 g.x g.end c.signed.result c.signed.ensures g.ensures.ok_part in
    handed_on c.from_residual-in_err-cursor.result c.line_end.result out.field-0.0 (Form g.end.at) c.from_residual-in_err-cursor.ensures.1
    out.ensures.value out.ensures.ok_part
    ∙ refused_by (tried (coefficient_rules a.text.now a.start.at a.count)) (Form g.end.at) _
    (reading-end-fault a.text.now a.start.at l.cursor.at a.count l.slot-index l.slot-items l.invariant g.x g.end.at h v.0 v.1
    (line-end-missing-means a.text.now g.end.at c.line_end.result c.line_end.ensures out.ensures.ok_part))

pub loop-slot-preserved : goal.loop-slot-preserved
loop-slot-preserved c =
    let a = c.args in
    let l = c.loop-slot in
    let g = c.in_ok-x in
    let m = c.in_ok-cursor in
    let h : l.slot-index < a.count = omega (arith, slots_length a.count c.requires, c.loop-slot-test.true) in
    let v = signed-value-means a.text.now l.cursor.at 20 g.x g.end c.signed.result c.signed.ensures g.ensures.ok_part in
    let e = line-end-means a.text.now g.end.at m.cursor c.line_end.result c.line_end.ensures m.ensures.ok_part in
    let f : get_or a.text.now (l.cursor.at + 20) 0 ≡ 10 = rw v.1 at e.0 in
    let n : m.cursor.at ≡ l.cursor.at + 21 = omega (arith, v.1, e.1) in
    rw (kept_signed a.text.now l.cursor.at 20 g.x v.0)
    (reading-next a.text.now a.start.at l.cursor.at a.count l.slot-index l.slot-items l.invariant g.x m.cursor.at h v.0 f n)

pub returns : goal.returns
returns c =
    let a = c.args in
    let l = c.loop-slot in
    let e : l.slot-index ≡ a.count = omega (arith, slots_length a.count c.requires, c.loop-slot-test.false, l.invariant.within) in
    reading-done a.text.now a.start.at l.cursor.at a.count l.slot-index l.slot-items l.invariant e
