-- `program::print_problem` meets its contract.
use Rattle.std.specs.Prelude.{Ok}
use mathlib.Core.Path.{◌≡◌, refl, sym, ap, ◌∙◌}
use mathlib.Core.List.{List}
use Prim.Native.Nat.{ℕ, ◌≤◌, ◌<◌}
use native.Mathlib.Omega.{arith}
use borrow.Author.Rules.{rules}
use lib.IntN.{ℤ, pos}
use lib.ListN.{length, take, replicate}
use lib.Seq.{length-take-le}
use Rattle.theory.specs.SignedClass.{residues_of, levels_of}
use Rattle.refusal.specs.Rules.{passes}
use Rattle.solver.specs.declared.Found.{Found}
use Rattle.solver.specs.Solve.{Lists, lists, lists_after, solution, solved_of, marks_of}
use Rattle.solver.proofs.Answered.{found_number, found-residues, found-levels, found-marks}
use Rattle.solver.proofs.Few.{Slots64}
use Rattle.program.specs.Printed.{judged}
use Rattle.program.proofs.Solved.{judged-passes, refused, number-few, block-answer, block-text}
use Rattle.program.proofs.Solved.{refusal-answer, refusal-text}
use Rattle.program.proofs.print_problem.Goals as goal

-- the lists as the solver gets them
abbrev given : Lists
given = lists (replicate 64 (pos 0)) (replicate 64 0) (replicate 64 0)

slots : Slots64 given
slots = record { residues = refl; levels = refl; marks = refl }

-- where the solver found the list
module _ (f : List ℤ) (p n : ℕ) (sized : (0 < length f) × (length f ≤ 65)) (F : Found) (is : solved_of f p n given ≡ Ok F) where
  abbrev k : ℕ
  k = F.classes

  passed : judged p n ≡ passes
  passed = judged-passes f p n sized.0 sized.1 given slots F is

  few : F.classes ≤ 64
  few = omega (arith, found_number f p n given is, number-few f p n sized.0 sized.1 passed)

  -- the first slots of a list of 64 are as many
  counted : {A : Type 0} (l : List A) → 64 ≤ length l → F.classes ≡ length (take F.classes l)
  counted l h = sym (length-take-le k l (omega (arith, few)))

  -- the lists as the solver left them
  module _ (residues : List ℤ) (levels marks : List ℕ) (filled_so : lists residues levels marks ≡ lists_after f p n given) where
    residues_are : take F.classes residues ≡ residues_of (solution f p n)
    residues_are = ap (λ (l : Lists). take k l.residues) filled_so ∙ found-residues f p n given is

    levels_are : take F.classes levels ≡ levels_of (solution f p n)
    levels_are = ap (λ (l : Lists). take k l.levels) filled_so ∙ found-levels f p n given is

    marks-are : take F.classes marks ≡ marks_of f p n
    marks-are = ap (λ (l : Lists). take k l.marks) filled_so ∙ found-marks f p n given is

pub slice_bounds-residues-end : goal.slice_bounds-residues-end
slice_bounds-residues-end c =
    let h = few c.args.coefficients.now c.args.p c.args.n c.requires _ (sym c.in-Ok.ensures.answer) in
    search rules

pub slice_bounds-levels-end : goal.slice_bounds-levels-end
slice_bounds-levels-end c =
    let h = few c.args.coefficients.now c.args.p c.args.n c.requires _ (sym c.in-Ok.ensures.answer) in
    search rules

pub slice_bounds-marks-end : goal.slice_bounds-marks-end
slice_bounds-marks-end c =
    let h = few c.args.coefficients.now c.args.p c.args.n c.requires _ (sym c.in-Ok.ensures.answer) in
    search rules

pub slice_bounds-write_classes-end : goal.slice_bounds-write_classes-end
slice_bounds-write_classes-end c =
    counted c.args.coefficients.now c.args.p c.args.n c.requires _ (sym c.in-Ok.ensures.answer) c.solve.new.residues (search rules)

pub slice_bounds-write_classes-end-in-Ok : goal.slice_bounds-write_classes-end-in-Ok
slice_bounds-write_classes-end-in-Ok c =
    counted c.args.coefficients.now c.args.p c.args.n c.requires _ (sym c.in-Ok.ensures.answer) c.solve.new.levels (search rules)

pub slice_bounds-write_classes-end-in-Ok-2 : goal.slice_bounds-write_classes-end-in-Ok-2
slice_bounds-write_classes-end-in-Ok-2 c =
    counted c.args.coefficients.now c.args.p c.args.n c.requires _ (sym c.in-Ok.ensures.answer) c.solve.new.marks (search rules)

pub returns-in-Ok : goal.returns-in-Ok
returns-in-Ok c =
    let a = c.args in
    let now = c.solve.new in
    let l = c.in-Ok.ensures.lists in
    let is = sym c.in-Ok.ensures.answer in
    let v = passed a.coefficients.now a.p a.n c.requires _ is in
    let r = residues_are a.coefficients.now a.p a.n c.requires _ is now.residues now.levels now.marks l in
    let t = levels_are a.coefficients.now a.p a.n c.requires _ is now.residues now.levels now.marks l in
    let m = marks-are a.coefficients.now a.p a.n c.requires _ is now.residues now.levels now.marks l in record {
      answer = block-answer a.coefficients.now a.p a.n c.requires.0 c.requires.1 v _ _ _ r t m _ _ c.write_classes.ensures.answer;
      out = block-text a.coefficients.now a.p a.n c.requires.0 c.requires.1 v _ _ _ r t m a.out.now _ c.write_classes.ensures.text;
    }

pub returns-in-Err : goal.returns-in-Err
returns-in-Err c =
    let r = c.in-Err.refusal in
    let a = c.args in
    let line = refused a.coefficients.now a.p a.n c.requires.0 c.requires.1 _ slots r (sym c.in-Err.ensures.answer) in record {
      answer = c.write_refusal.ensures.answer ∙ refusal-answer r _ _ line;
      out = c.write_refusal.ensures.text ∙ refusal-text r _ _ line _;
    }
