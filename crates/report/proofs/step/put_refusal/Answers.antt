-- `report::step::put_refusal` meets its contract.
use Rattle.std.specs.Prelude.{Result, is_ok}
use mathlib.Core.Path.{ap}
use Prim.Native.Nat.{ℕ, ◌≤◌}
use borrow.Author.Rules.{rules}
use lib.ListN.{length}
use Rattle.refusal.specs.declared.Refusal.{Refusal}
use Rattle.writer.specs.Output.{refusal_line}
use Rattle.report.proofs.Written.{line-counted, refusal-counted, refusal-line, refusal-bytes}
use Rattle.report.proofs.step.put_refusal.Goals as goal

pub unwrap-requires : goal.unwrap-requires
unwrap-requires c =
    let a = c.args in
    let long : 23 ≤ length a.line.now = search rules in
    let s = c.write_refusal.ensures in
    ap (λ (r : Result ℕ Refusal). is_ok r) (refusal-counted a.refusal a.line.now c.write_refusal.new.text long _ s.answer s.text)

pub returns : goal.returns
returns c =
    let a = c.args in
    let old = a.line.now in
    let now = c.write_refusal.new.text in
    let long : 23 ≤ length old = search rules in
    let s = c.write_refusal.ensures in
    let bytes = refusal-bytes a.refusal old now long _ s.answer s.text _ c.unwrap.ensures in
    let line = refusal-line a.refusal old now long _ s.answer s.text in
    record { answer = bytes; line = line; counts = line-counted (refusal_line a.refusal) old now _ bytes line }
