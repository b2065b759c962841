-- `systems::System::add` meets its contract.
use Rattle.std.proofs.Common.{◌≡◌, ◌≤◌, length, sym, ◌∙◌, arith}
use borrow.Author.Tests.{eqb-true, eqb-false}
use Rattle.systems.specs.Model.{congruence, Model, is_held}
use Rattle.systems.specs.State.{held_of, Holds}
use Rattle.systems.proofs.Changing.{count_is, tag-held, add-refused, add_none, add-many, add-held, add-full}
use Rattle.systems.proofs.Changing.{solved-is, cut-is, add_done}
use Rattle.systems.proofs.System.add.Goals as goal
use Rattle.systems.proofs.System.add.Goals.{After-is_some}

pub returns-then-is_empty : goal.returns-then-is_empty
returns-then-is_empty c M H =
    let a = c.args in
    let f = a.coefficients.now in
    add-refused H a.tag f _ (add_none H a.tag f (eqb-true (length f) 0 (sym c.is_empty.ensures ∙ c.if-is_empty.true)))

pub returns-then-coefficients-gt65 : goal.returns-then-coefficients-gt65
returns-then-coefficients-gt65 c M H =
    let a = c.args in
    let f = a.coefficients.now in
    add-refused H a.tag f _ (add-many H a.tag f c.if-coefficients-gt65.true)

-- once the tag is looked for
module _ (c : After-is_some) (M : Model) (H : Holds c.args.self.now M) where
  some : length c.args.coefficients.now ≡ 0 → ⊥
  some = eqb-false (length c.args.coefficients.now) 0 (sym c.is_empty.ensures ∙ c.if-is_empty.false)

  few : length c.args.coefficients.now ≤ 65
  few = c.if-coefficients-gt65.false

  number : c.min-count.result ≡ length M.held
  number = count_is H c.args.tag c.min-count.result c.min-count.ensures

  held_is : is_held c.args.tag M.held ≡ c.is_some.result
  held_is = sym (c.is_some.ensures ∙ tag-held H c.args.tag c.min-count.result number c.index_of.result c.index_of.ensures)

pub returns-then-is_some : goal.returns-then-is_some
returns-then-is_some c M H =
    let d = (goal.at.returns-then-is_some c).After-is_some in
    let f = c.args.coefficients.now in
    add-refused H c.args.tag f _ (add-held H c.args.tag f (some d M H) (few d M H) (held_is d M H ∙ c.if-is_some.true))

pub returns-then-full : goal.returns-then-full
returns-then-full c M H =
    let d = (goal.at.returns-then-full c).After-is_some in
    let f = c.args.coefficients.now in
    add-refused H c.args.tag f _
    (add-full H c.args.tag f (some d M H) (few d M H) (held_is d M H ∙ c.if-is_some.false) (sym (number d M H) ∙ c.if-full.true))

pub returns : goal.returns
returns c M H =
    let a = c.args in
    let f = a.coefficients.now in
    let d = (goal.at.returns c).After-is_some in
    let n = number d M H in
    let found = solved-is H a.tag f (some d M H) (few d M H) c.solved.ensures in
    let polynomial : c.unwrap_or-polynomial.result ≡ held_of M.p M.n (congruence a.tag f) = rw found at c.unwrap_or-polynomial.ensures in
    add_done H a.tag f (some d M H) (few d M H) n (held_is d M H ∙ c.if-is_some.false) c.if-full.false polynomial
    (cut-is H a.tag f (some d M H) (few d M H) (omega (arith, n, H.few, c.if-full.false)) polynomial c.cut_by-self.ensures)
