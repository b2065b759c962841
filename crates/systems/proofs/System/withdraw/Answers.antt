-- `systems::System::withdraw` meets its contract.
use Rattle.std.proofs.Common.{◌≡◌, ℕ, ◌<◌, set, false, Result, Err, Option, Some, None, List, is_some, sym, ap, ◌∙◌, arith}
use Rattle.std.specs.Option.{ok_or}
use Rattle.std.specs.Result.{result_ok}
use Rattle.std.proofs.lemmas.Result.{err_from_is_err_and}
use Rattle.systems.specs.declared.Held.{Held}
use Rattle.systems.specs.Model.{is_held, without}
use Rattle.systems.specs.State.{slots, blank}
use Rattle.systems.proofs.Tags.{kept}
use Rattle.refusal.specs.declared.Refusal.{Refusal}
use Rattle.refusal.specs.declared.Refusal.TheVariants.{Tag}
use Rattle.systems.proofs.Changing.{count_is, tag-held, tag_sought, withdraw-refused, left_is, cut-all-is, withdraw-done}
use Rattle.systems.proofs.System.withdraw.Goals as goal

-- a call gives one refusal
refusal_is : {r : Result ℕ Refusal} {x y : Refusal} → r ≡ Err x → r ≡ Err y → x ≡ y
refusal_is e f = cc

pub returns-in_err-at : goal.returns-in_err-at
returns-in_err-at c M H =
    let a = c.args in
    let n = count_is H a.tag c.min-count.result c.min-count.ensures in
    let none : c.index_of.result ≡ None = c.ok_or.ensures.ok_part ∙ ap result_ok c.in_err-at.was in
    let free : is_held a.tag M.held ≡ false =
    sym (tag-held H a.tag c.min-count.result n c.index_of.result c.index_of.ensures) ∙ ap is_some none in
    let p = err_from_is_err_and c.from_residual.result c.from_residual.ensures.1 in
    let tag : c.from_residual.result ≡ Err Tag =
    p.1 ∙ ap Err (p.2 ∙ refusal_is c.in_err-at.was (c.ok_or.ensures.value ∙ ap (λ (o : Option ℕ). ok_or o Tag) none)) in
    rw tag (withdraw-refused H a.tag free)

pub returns : goal.returns
returns c M H =
    let a = c.args in
    let n = count_is H a.tag c.min-count.result c.min-count.ensures in
    let at = c.in_ok-at.at in
    let there : c.index_of.result ≡ Some at = c.ok_or.ensures.ok_part ∙ ap result_ok c.in_ok-at.was in
    let S = tag_sought H a.tag c.min-count.result n c.index_of.result c.index_of.ensures at there in
    let inside : at < 16 = omega (arith, S.inside, H.few) in
    let left : set c.close_gap.new.held 15 blank ≡ slots 16 blank (kept M.p M.n a.tag (without a.tag M.held)) =
    ap (λ (l : List Held). set l 15 blank) c.close_gap.ensures ∙ left_is H a.tag at S _ in
    withdraw-done H a.tag n S.is_there left (cut-all-is H a.tag at S c.min-count.result n left c.cut_by_all-self.ensures)
