-- `stepping::step_through` meets its contract, from the contracts of the solver and of next alone.
use mathlib.Core.Path.{◌≡◌, sym, ap, ◌∙◌}
use mathlib.Core.List.{List}
use Prim.Native.Nat.{ℕ}
use lib.IntN.{ℤ}
use lib.Seq.{length-take-le}
use Rattle.std.specs.Prelude.{Result, Ok}
use Rattle.refusal.specs.declared.Refusal.{Refusal}
use Rattle.solver.specs.declared.Found.{Found}
use Rattle.solver.specs.Solve.{Lists, lists, solved_of, lists_after}
use Rattle.stepping.specs.Call.{Input, Accepted, lists_left}
use Rattle.solver.proofs.Answered.{refused-verdict}
use Rattle.stepping.proofs.Accept.{residues-long, levels-long}
use Rattle.stepping.proofs.Demand.{list-usable, answers-left}
use Rattle.stepping.proofs.step_through.Goals as goal

-- The call of the solver

abbrev input : List ℤ → ℕ → ℕ → List ℤ → List ℕ → List ℕ → Input
input f p n residues levels marks = record { f = f; p = p; n = n; given = lists residues levels marks }

module _ (x : Input) (residues : List ℤ) (levels marks : List ℕ)
    (left : lists residues levels marks ≡ lists_after x.f x.p x.n x.given) where
  residues_are : residues ≡ (lists_left x).residues
  unfolding lists_left
  residues_are = ap (λ (l : Lists). l.residues) left

  levels_are : levels ≡ (lists_left x).levels
  unfolding lists_left
  levels_are = ap (λ (l : Lists). l.levels) left

-- what it found
accepted : (x : Input) (answer : Result Found Refusal) (f : Found) → answer ≡ solved_of x.f x.p x.n x.given → answer ≡ Ok f
    → Accepted x f.classes f.roots
accepted x answer f e is = record { live = f.live; answer = sym e ∙ is }

pub slice_bounds-ask-end : goal.slice_bounds-ask-end
slice_bounds-ask-end c =
    let a = c.args in
    let x = input a.coefficients.now a.p a.n a.residues.now a.levels.now a.marks.now in
    let A = accepted x _ _ c.solve.ensures.answer c.in_ok-found.was in
    rw (residues_are x _ _ _ c.solve.ensures.lists) (residues-long x A)

pub slice_bounds-ask-end-2 : goal.slice_bounds-ask-end-2
slice_bounds-ask-end-2 c =
    let a = c.args in
    let x = input a.coefficients.now a.p a.n a.residues.now a.levels.now a.marks.now in
    let A = accepted x _ _ c.solve.ensures.answer c.in_ok-found.was in
    sym (length-take-le _ _ (rw (residues_are x _ _ _ c.solve.ensures.lists) (residues-long x A)))

pub slice_bounds-ask-end-3 : goal.slice_bounds-ask-end-3
slice_bounds-ask-end-3 c =
    let a = c.args in
    let x = input a.coefficients.now a.p a.n a.residues.now a.levels.now a.marks.now in
    let A = accepted x _ _ c.solve.ensures.answer c.in_ok-found.was in
    rw (levels_are x _ _ _ c.solve.ensures.lists) (levels-long x A)

pub slice_bounds-ask-end-4 : goal.slice_bounds-ask-end-4
slice_bounds-ask-end-4 c =
    let a = c.args in
    let x = input a.coefficients.now a.p a.n a.residues.now a.levels.now a.marks.now in
    let A = accepted x _ _ c.solve.ensures.answer c.in_ok-found.was in
    sym (length-take-le _ _ (rw (levels_are x _ _ _ c.solve.ensures.lists) (levels-long x A)))

pub ask-requires : goal.ask-requires
ask-requires c =
    let a = c.args in
    let x = input a.coefficients.now a.p a.n a.residues.now a.levels.now a.marks.now in
    let A = accepted x _ _ c.solve.ensures.answer c.in_ok-found.was in
    let left = c.solve.ensures.lists in
    list-usable x A _ _ (residues_are x _ _ _ left) (levels_are x _ _ _ left)

pub returns-clause-answers : goal.returns-clause-answers
returns-clause-answers c =
    let a = c.args in
    let x = input a.coefficients.now a.p a.n a.residues.now a.levels.now a.marks.now in
    let A = accepted x _ _ c.solve.ensures.answer c.in_ok-found.was in
    let left = c.solve.ensures.lists in
    answers-left x A _ _ (residues_are x _ _ _ left) (levels_are x _ _ _ left) a.start a.answers.now _ c.ask.ensures

pub returns-in_err-found-clause-answers : goal.returns-in_err-found-clause-answers
returns-in_err-found-clause-answers c =
    let a = c.args in
    let given = lists a.residues.now a.levels.now a.marks.now in
    rw (refused-verdict a.coefficients.now _ _ given _ (sym c.solve.ensures.answer ∙ c.in_err-found.was))
