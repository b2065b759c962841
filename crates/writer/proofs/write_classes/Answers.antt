-- `writer::write_classes` meets its contract.
use mathlib.Core.Path.{sym, ap, ◌∙◌}
use Prim.Native.Nat.{◌+◌, ◌*◌}
use lib.ListN.{length}
use Rattle.std.proofs.lemmas.Result.{err_from_is_err_and}
use Rattle.refusal.specs.Rules.{Verdict, filled, value_or}
use Rattle.classes.specs.Rule7.{classes_of}
use Rattle.classes.proofs.MarkedChecks.{marked-accepted}
use Rattle.writer.specs.Output.{output_text}
use Rattle.writer.specs.Written.{writer_verdict}
use Rattle.writer.proofs.Answers.{refused-answer, refused-text}
use Rattle.writer.proofs.Checked.{verdict-12, verdict-refuses, written-answer}
use Rattle.writer.proofs.write_classes.Goals as goal

pub write_checked-requires : goal.write_checked-requires
write_checked-requires c =
    let a = c.args in
    let C = marked-accepted a.p a.n a.residues.now a.levels.now a.marks.now _
    (sym c.check_marked_list.ensures ∙ c.in_ok-check_marked_list.was) in
    rw C.modulus.power at C

pub returns : goal.returns
returns c =
    let a = c.args in
    let residues = a.residues.now in
    let bytes = length a.text.now in
    let new = output_text a.p a.n (classes_of residues a.levels.now) a.marks.now in
    let C = marked-accepted a.p a.n residues a.levels.now a.marks.now _
    (sym c.check_marked_list.ensures ∙ c.in_ok-check_marked_list.was) in
    let v = verdict-12 a.p a.n residues a.levels.now a.marks.now bytes C in record {
      answer = c.write_checked.ensures.answer
          ∙ ap (λ (w : Verdict). value_or w (45 * (length residues + 1))) v
          ∙ written-answer a.p a.n residues a.levels.now a.marks.now bytes;
      text = c.write_checked.ensures.text ∙ ap (λ (w : Verdict). filled w new a.text.now) v;
    }

pub returns-in_err-check_marked_list : goal.returns-in_err-check_marked_list
returns-in_err-check_marked_list c =
    let a = c.args in
    let r = c.in_err-check_marked_list.field-0.0 in
    let residues = a.residues.now in
    let bytes = length a.text.now in
    let new = output_text a.p a.n (classes_of residues a.levels.now) a.marks.now in
    let w = writer_verdict a.p a.n residues a.levels.now a.marks.now bytes in
    let v = verdict-refuses a.p a.n residues a.levels.now a.marks.now r bytes
    (sym c.check_marked_list.ensures ∙ c.in_err-check_marked_list.was) in
    let p = err_from_is_err_and c.from_residual.result c.from_residual.ensures.1 in record {
      answer = rw (p.1, p.2) (refused-answer w r (45 * (length residues + 1)) v
          ∙ written-answer a.p a.n residues a.levels.now a.marks.now bytes);
      text = refused-text w r new a.text.now v;
    }
