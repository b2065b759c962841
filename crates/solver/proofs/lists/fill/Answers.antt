-- `solver::lists::fill` meets its contract.
use mathlib.Core.Path.{◌≡◌, sym, ap, ◌∙◌, fun_ext}
use mathlib.Core.Bool.{Bool}
use mathlib.Core.List.{List, ◌++◌, map}
use Prim.Native.Nat.{ℕ, ◌^◌}
use native.Mathlib.Omega.{arith}
use lib.ListN.{length, length-map, take, drop}
use lib.Seq.{length-take-le, take_at}
use Rattle.theory.specs.Polynomial.{derivative}
use Rattle.theory.specs.Degree.{primitive}
use Rattle.theory.specs.Mark.{mark_of}
use Rattle.theory.specs.ClassList.{member_total}
use Rattle.theory.specs.SignedClass.{SignedClass, natural, levels_of}
use Rattle.theory.specs.SignedList.{signed_list}
use Rattle.theory.proofs.Numbers.Prime.{prime_pos}
use Rattle.numbers.specs.inner.Usable.{Usable}
use Rattle.numbers.specs.Saturated.{saturated}
use Rattle.numbers.proofs.Totals.{total_is}
use Rattle.refusal.specs.Rules.{passes, filled}
use Rattle.solver.specs.Solve.{lists}
use Rattle.solver.specs.declared.entry.Entry.{Entry}
use Rattle.solver.specs.inner.Entry.{entry, class_of}
use Rattle.solver.specs.inner.Marks.{mark_from}
use Rattle.solver.proofs.Entries.{written}
use Rattle.solver.proofs.Marks.{mark_is}
use Rattle.solver.proofs.lists.fill.Goals as goal

-- The call
module _ (w : List ℕ) (codes : List Entry) (p n : ℕ) (U : Usable p n (p ^ n)) where
  -- the marks from the derivative are those over all members
  marks-are : mark_from p (derivative (primitive p w)) ≡ (λ (c : SignedClass). mark_of w p n (natural p c))
  marks-are = fun_ext (λ c. mark_is w p n (prime_pos U.prime) U.precise c)

  -- of the list of a set
  module _ (S : ℕ → Bool) (listed : codes ≡ map entry (signed_list S p n)) where
    -- what is written of each class
    stands : {A : Type 0} (h : SignedClass → A) (old : List A)
        → map h (map class_of codes) ++ drop (length codes) old ≡ filled passes (map h (signed_list S p n)) old
    stands h old = written h (signed_list S p n) codes old listed

    levels-long : length codes ≡ length (levels_of (signed_list S p n))
    levels-long =
        ap length listed
        ∙ length-map (signed_list S p n) entry
        ∙ sym (length-map (signed_list S p n) (λ (e : SignedClass). e.level))

    marks-stand : (marks old : List ℕ)
        → marks ≡ map (mark_from p (derivative (primitive p w))) (map class_of codes) ++ drop (length codes) old
        → marks ≡ filled passes (map (λ (e : SignedClass). mark_of w p n (natural p e)) (signed_list S p n)) old
    marks-stand marks old e = rw (← marks-are) (e ∙ stands _ old)

    -- once the levels are written
    module _ (levels old : List ℕ) (e : levels ≡ levels_of (map class_of codes) ++ drop (length codes) old) where
      levels-stand : levels ≡ filled passes (levels_of (signed_list S p n)) old
      levels-stand = e ∙ stands (λ (c : SignedClass). c.level) old

      levels_are : take (length codes) levels ≡ levels_of (signed_list S p n)
      levels_are =
          let L = levels_of (signed_list S p n) in
          ap (take (length codes)) levels-stand ∙ take_at L (drop (length L) old) (length codes) (sym levels-long)

pub slice_bounds-member_total-end-2 : goal.slice_bounds-member_total-end-2
slice_bounds-member_total-end-2 c =
    sym (length-take-le (length c.args.entries.now) c.write_levels.new.levels (omega (arith, c.write_levels.auto.levels, c.requires.3)))

pub returns : goal.returns
returns c =
    let w = c.args.f.now in
    let codes = c.args.entries.now in
    let p = c.args.p in
    let n = c.args.n in
    let U : Usable p n (p ^ n) = c.requires.0.modulus in
    record {
      roots = (λ S listed. c.member_total.ensures
          ∙ ap (λ (l : List ℕ). saturated (member_total p n l))
          (levels_are w codes p n U S listed c.write_levels.new.levels c.args.levels.now c.write_levels.ensures)
          ∙ total_is S U);
      lists = (λ S listed i.
          lists
          ((c.write_residues.ensures ∙ stands w codes p n U S listed (λ (e : SignedClass). e.residue) c.args.residues.now) i)
          (levels-stand w codes p n U S listed c.write_levels.new.levels c.args.levels.now c.write_levels.ensures i)
          (marks-stand w codes p n U S listed c.write_marks.new.marks c.args.marks.now c.write_marks.ensures i));
    }
