-- `classes::overlap::index_of` meets its contract. The search reads a as a word.
use mathlib.Core.Path.{◌≡◌, sym, ◌∙◌}
use native.Mathlib.Omega.{arith}
use lib.IntN.{pos}
use mathlib.Core.Bool.{true, false}
use Prim.Native.Nat.{◌<◌, ◌%◌}
use Rattle.theory.proofs.Tests.{contradiction}
use lib.ListN.{get_or}
use mir.Syntax.{w32}
use mir.ValLaws.{to_z-of_z}
use Rattle.std.proofs.Common.{Equal}
use Rattle.std.specs.Cmp.{int_ranked}
use Rattle.classes.proofs.Looking.{searched_absent, index_absent, index_absent_level, index_other, index_here}
use Rattle.classes.proofs.overlap.index_of.Goals as goal

pub returns-then-not-present-from : goal.returns-then-not-present-from
returns-then-not-present-from c =
    let a = c.args in
    index_absent_level a.residues.now a.levels.now _ (omega arith) (omega arith) a.a a.t (λ k h e.
    let there : get_or a.present.now (get_or a.levels.now k 0 % 32) false ≡ true = c.requires.2.tells k (omega arith) in
    let not_there : get_or a.present.now (a.t % 32) false ≡ false = rw (← c.from.ensures) c.if-not-present-from.true in
    contradiction (rw e at there) not_there)

pub returns-in_default : goal.returns-in_default
returns-in_default c =
    let a = c.args in
    index_absent a.residues.now a.levels.now _ (omega arith) (omega arith) a.a a.t
    (λ k h e. searched_absent a.residues.now c.requires.1 _ _ c.in_default.ensures.position k h (e ∙ sym (to_z-of_z w32 a.a c.ranges.a)))

pub returns-then-levels-j : goal.returns-then-levels-j
returns-then-levels-j c =
    let a = c.args in
    let found : get_or a.residues.now c.in-Ok.j (pos 0) ≡ a.a =
    int_ranked _ _ Equal (sym (c.in-Ok.ensures.ok (pos 0))) ∙ to_z-of_z w32 a.a c.ranges.a in (
      c.in-Ok.ensures.bound,
      index_here a.residues.now a.levels.now _ (omega arith) (omega arith) a.a a.t c.requires.1 _ c.in-Ok.ensures.bound found
          c.if-levels-j.true,
    )

pub returns-else-levels-j : goal.returns-else-levels-j
returns-else-levels-j c =
    let a = c.args in
    let found : get_or a.residues.now c.in-Ok.j (pos 0) ≡ a.a =
    int_ranked _ _ Equal (sym (c.in-Ok.ensures.ok (pos 0))) ∙ to_z-of_z w32 a.a c.ranges.a in
    index_other a.residues.now a.levels.now _ (omega arith) (omega arith) a.a a.t c.requires.1 _ c.in-Ok.ensures.bound found
    c.if-levels-j.false
