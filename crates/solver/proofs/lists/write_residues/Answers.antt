-- `solver::lists::write_residues` meets its contract.
use mathlib.Core.Path.{◌≡◌, sym, ap, ◌∙◌}
use mathlib.Core.List.{List, ◌++◌, map}
use Prim.Native.Nat.{ℕ}
use native.Mathlib.Omega.{arith}
use lib.IntN.{ℤ, pos}
use borrow.Author.Rules.{rules}
use mir.Syntax.{w32}
use mir.Val.{to_z, of_z}
use lib.ListN.{length, get_or, take, drop, set}
use lib.Seq.{take-length}
use Rattle.theory.specs.SignedClass.{SignedClass}
use Rattle.theory.proofs.Lists.Fill.{written_next}
use Rattle.theory.proofs.Lists.Map.{map-map}
use Rattle.solver.specs.inner.Entry.{class_of}
use Rattle.solver.proofs.Entries.{none}
use Rattle.solver.proofs.lists.write_residues.Invariants.{residue_at}
use Rattle.solver.proofs.lists.write_residues.Goals as goal

pub loop-i-preserved : goal.loop-i-preserved
loop-i-preserved c =
    let i = c.loop-i.i in
    let old = c.args.residues.now in
    let z = (get_or c.args.entries.now i none).residue in
    let v = to_z w32 (of_z w32 z) in
    let kept : v ≡ z = search rules in
    ap (λ (l : List ℤ). set l i v) c.loop-i.invariant
    ∙ written_next residue_at c.args.entries.now i none (omega arith) old (pos 0) v (omega arith) kept

pub returns : goal.returns
returns c =
    let entries = c.args.entries.now in
    let all : c.loop-i.i ≡ length entries = omega arith in
    c.loop-i.invariant
    ∙ ap (λ (k : ℕ). map residue_at (take k entries) ++ drop k c.args.residues.now) all
    ∙ ap (λ (l : List ℤ). l ++ drop (length entries) c.args.residues.now)
    (ap (map residue_at) (take-length entries) ∙ sym (map-map (λ (k : SignedClass). k.residue) class_of entries))
