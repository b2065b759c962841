-- `text::read_problem_at` meets its contract.
use mathlib.Core.Path.{◌∙◌}
use Rattle.refusal.specs.declared.Refusal.TheVariants.{Form, NoCoefficient, TooManyCoefficients}
use Rattle.text.proofs.Answers.{passed_on, handed_on}
use Rattle.text.proofs.FirstLine.{p-refused, p-read, n-refused, n-read, count-refused, count-read, end_refused, line_read}
use Rattle.text.proofs.FirstLine.{problem-refused-at, verdict-2, verdict-3, rest_refused, rest_read}
use Rattle.text.proofs.read_problem_at.Goals as goal

pub returns-in_err-p : goal.returns-in_err-p
returns-in_err-p c =
    let t = c.args.text.now in
    let at = c.args.at in
    let out = c.in_err-p in
    handed_on c.from_residual.result c.unsigned.result out.field-0.0 (Form at) c.from_residual.ensures.1 out.ensures.value
    out.ensures.ok_part
    ∙ p-refused t at c.unsigned.result c.unsigned.ensures out.ensures.ok_part

pub returns-in_err-n : goal.returns-in_err-n
returns-in_err-n c =
    let t = c.args.text.now in
    let at = c.args.at in
    let a = c.in_ok-p in
    let out = c.in_err-n in
    let A = p-read t at a.p a.second c.unsigned.result c.unsigned.ensures a.ensures.ok_part in
    handed_on c.from_residual-in_err-n.result c.unsigned-2.result out.field-0.0 (Form a.second.at) c.from_residual-in_err-n.ensures.1
    out.ensures.value out.ensures.ok_part
    ∙ n-refused t at a.p a.second.at A c.unsigned-2.result c.unsigned-2.ensures out.ensures.ok_part

pub returns-in_err-count : goal.returns-in_err-count
returns-in_err-count c =
    let t = c.args.text.now in
    let at = c.args.at in
    let a = c.in_ok-p in
    let b = c.in_ok-n in
    let out = c.in_err-count in
    let A = p-read t at a.p a.second c.unsigned.result c.unsigned.ensures a.ensures.ok_part in
    let B = n-read t at a.p a.second.at A b.n b.third c.unsigned-2.result c.unsigned-2.ensures b.ensures.ok_part in
    handed_on c.from_residual-in_err-count.result c.unsigned-3.result out.field-0.0 (Form b.third.at)
    c.from_residual-in_err-count.ensures.1 out.ensures.value out.ensures.ok_part
    ∙ count-refused t at a.p b.n b.third.at B c.unsigned-3.result c.unsigned-3.ensures out.ensures.ok_part

pub returns-in_err-next : goal.returns-in_err-next
returns-in_err-next c =
    let t = c.args.text.now in
    let at = c.args.at in
    let a = c.in_ok-p in
    let b = c.in_ok-n in
    let d = c.in_ok-count in
    let out = c.in_err-next in
    let A = p-read t at a.p a.second c.unsigned.result c.unsigned.ensures a.ensures.ok_part in
    let B = n-read t at a.p a.second.at A b.n b.third c.unsigned-2.result c.unsigned-2.ensures b.ensures.ok_part in
    let C = count-read t at a.p b.n b.third.at B d.count d.end c.unsigned-3.result c.unsigned-3.ensures d.ensures.ok_part in
    handed_on c.from_residual-in_err-next.result c.line_end.result out.field-0.0 (Form d.end.at) c.from_residual-in_err-next.ensures.1
    out.ensures.value out.ensures.ok_part
    ∙ end_refused t at a.p b.n d.count d.end.at C c.line_end.result c.line_end.ensures out.ensures.ok_part

pub returns-then-count-eq0 : goal.returns-then-count-eq0
returns-then-count-eq0 c =
    let t = c.args.text.now in
    let at = c.args.at in
    let a = c.in_ok-p in
    let b = c.in_ok-n in
    let d = c.in_ok-count in
    let e = c.in_ok-next in
    let A = p-read t at a.p a.second c.unsigned.result c.unsigned.ensures a.ensures.ok_part in
    let B = n-read t at a.p a.second.at A b.n b.third c.unsigned-2.result c.unsigned-2.ensures b.ensures.ok_part in
    let C = count-read t at a.p b.n b.third.at B d.count d.end c.unsigned-3.result c.unsigned-3.ensures d.ensures.ok_part in
    let L = line_read t at a.p b.n d.count d.end.at C e.next c.line_end.result c.line_end.ensures e.ensures.ok_part in
    problem-refused-at t at NoCoefficient (verdict-2 t at a.p b.n d.count L.0 c.if-count-eq0.true)

pub returns-then-count-gt65 : goal.returns-then-count-gt65
returns-then-count-gt65 c =
    let t = c.args.text.now in
    let at = c.args.at in
    let a = c.in_ok-p in
    let b = c.in_ok-n in
    let d = c.in_ok-count in
    let e = c.in_ok-next in
    let A = p-read t at a.p a.second c.unsigned.result c.unsigned.ensures a.ensures.ok_part in
    let B = n-read t at a.p a.second.at A b.n b.third c.unsigned-2.result c.unsigned-2.ensures b.ensures.ok_part in
    let C = count-read t at a.p b.n b.third.at B d.count d.end c.unsigned-3.result c.unsigned-3.ensures d.ensures.ok_part in
    let L = line_read t at a.p b.n d.count d.end.at C e.next c.line_end.result c.line_end.ensures e.ensures.ok_part in
    problem-refused-at t at TooManyCoefficients (verdict-3 t at a.p b.n d.count L.0 c.if-count-eq0.false c.if-count-gt65.true)

pub returns-in_err-coefficients : goal.returns-in_err-coefficients
returns-in_err-coefficients c =
    let t = c.args.text.now in
    let at = c.args.at in
    let a = c.in_ok-p in
    let b = c.in_ok-n in
    let d = c.in_ok-count in
    let e = c.in_ok-next in
    let r = c.in_err-coefficients.field-0.0 in
    let A = p-read t at a.p a.second c.unsigned.result c.unsigned.ensures a.ensures.ok_part in
    let B = n-read t at a.p a.second.at A b.n b.third c.unsigned-2.result c.unsigned-2.ensures b.ensures.ok_part in
    let C = count-read t at a.p b.n b.third.at B d.count d.end c.unsigned-3.result c.unsigned-3.ensures d.ensures.ok_part in
    let L = line_read t at a.p b.n d.count d.end.at C e.next c.line_end.result c.line_end.ensures e.ensures.ok_part in
    passed_on c.from_residual-in_err-coefficients.result r c.from_residual-in_err-coefficients.ensures.1
    ∙ rest_refused t at a.p b.n d.count L.0 e.next.at L.1 c.if-count-eq0.false c.if-count-gt65.false c.read_coefficients.result
    c.read_coefficients.ensures r c.in_err-coefficients.was

pub returns : goal.returns
returns c =
    let t = c.args.text.now in
    let at = c.args.at in
    let a = c.in_ok-p in
    let b = c.in_ok-n in
    let d = c.in_ok-count in
    let e = c.in_ok-next in
    let f = c.in_ok-coefficients in
    let A = p-read t at a.p a.second c.unsigned.result c.unsigned.ensures a.ensures.ok_part in
    let B = n-read t at a.p a.second.at A b.n b.third c.unsigned-2.result c.unsigned-2.ensures b.ensures.ok_part in
    let C = count-read t at a.p b.n b.third.at B d.count d.end c.unsigned-3.result c.unsigned-3.ensures d.ensures.ok_part in
    let L = line_read t at a.p b.n d.count d.end.at C e.next c.line_end.result c.line_end.ensures e.ensures.ok_part in
    rest_read t at a.p b.n d.count L.0 e.next.at L.1 c.if-count-eq0.false c.if-count-gt65.false c.read_coefficients.result
    c.read_coefficients.ensures f.coefficients f.last f.was
