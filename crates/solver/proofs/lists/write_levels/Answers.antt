-- `solver::lists::write_levels` meets its contract.
use mathlib.Core.Path.{◌≡◌, refl, sym, ap, ◌∙◌}
use mathlib.Core.List.{List, ◌++◌, map}
use Prim.Native.Nat.{ℕ}
use native.Mathlib.Omega.{arith}
use lib.ListN.{length, get_or, take, drop, set}
use lib.Seq.{take-length}
use Rattle.theory.specs.SignedClass.{SignedClass}
use Rattle.theory.proofs.Lists.Fill.{written_next}
use Rattle.theory.proofs.Lists.Map.{map-map}
use Rattle.solver.specs.inner.Entry.{class_of}
use Rattle.solver.proofs.Entries.{none}
use Rattle.solver.proofs.lists.write_levels.Invariants.{level_at}
use Rattle.solver.proofs.lists.write_levels.Goals as goal

pub loop-i-preserved : goal.loop-i-preserved
loop-i-preserved c =
    let i = c.loop-i.i in
    let old = c.args.levels.now in
    let v = (get_or c.args.entries.now i none).level in
    ap (λ (l : List ℕ). set l i v) c.loop-i.invariant
    ∙ written_next level_at c.args.entries.now i none (omega arith) old 0 v (omega arith) refl

pub returns : goal.returns
returns c =
    let entries = c.args.entries.now in
    let all : c.loop-i.i ≡ length entries = omega arith in
    c.loop-i.invariant
    ∙ ap (λ (k : ℕ). map level_at (take k entries) ++ drop k c.args.levels.now) all
    ∙ ap (λ (l : List ℕ). l ++ drop (length entries) c.args.levels.now)
    (ap (map level_at) (take-length entries) ∙ sym (map-map (λ (k : SignedClass). k.level) class_of entries))
