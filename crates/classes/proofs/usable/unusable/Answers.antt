-- `classes::usable::unusable` meets its contract.
use mathlib.Core.Path.{◌≡◌, sym, ap₂, ◌∙◌}
use Prim.Native.Nat.{ℕ, ◌-◌, ◌^◌, ◌≤◌}
use native.Mathlib.Omega.{arith}
use borrow.Author.Rules.{rules}
use borrow.Author.Tests.{not-true, not-false, ltb-false, le-ltb}
use lib.IntN.{ℤ, pos}
use lib.ListN.{get_or}
use lib.Signed.{le_z}
use mir.Syntax.{w32}
use mir.Val.{Fits, SFits, to_z, of_z}
use mir.ValLaws.{to_z-of_z}
use Rattle.theory.specs.Centered.{is_centered}
use Rattle.numbers.specs.Saturated.{saturated}
use Rattle.numbers.proofs.Saturated.{level_power, saturated_power}
use Rattle.classes.proofs.Usables.{level-fault, residue-fault, first-usable, order-decides}
use Rattle.classes.proofs.usable.unusable.Goals as goal
use Rattle.classes.proofs.usable.unusable.Goals.{then-n-t, else-n-t}

-- the power of a level up to n, and whether the residue is in its range
module _ {p n t level m : ℕ} (two : 2 ≤ p) (low : t ≤ n) (within : p ^ n ≤ 4294967295) (given : m ≡ saturated (p ^ t))
    (is : t ≡ level) where
  power_is : m ≡ p ^ level
  power_is = rw (← is) (saturated_power (omega arith) low within given)

  power_fits : Fits w32 m
  power_fits = record { fits = omega (arith, power_is, is, level_power {p = p} {n = n} {t = level} (omega arith) (omega arith) within) }

  centered-is : (z : ℤ) → SFits w32 z → is_centered m (to_z w32 (of_z w32 z)) ≡ is_centered (p ^ level) z
  centered-is z f = ap₂ is_centered power_is (to_z-of_z w32 z f)

pub overflow_cast-power : goal.overflow_cast-power
overflow_cast-power c = power_fits c.requires.2 c.if-n-t.false c.requires.3 c.power.ensures c.from-t.ensures

pub returns-then-not-is_centered : goal.returns-then-not-is_centered
returns-then-not-is_centered c =
    let a = c.args in
    let z = get_or a.residues.now a.i (pos 0) in
    c.if-not-is_centered.true
    ∙ sym (elim c.if-n-t.branch [
      | then-n-t w ↦ level-fault a.p a.n a.residues.now a.levels.now a.i c.requires.0 c.requires.1 (omega arith)
      | else-n-t w ↦
          residue-fault a.p a.n a.residues.now a.levels.now a.i c.requires.0 c.requires.1
          (sym (centered-is c.requires.2 w.if-n-t.false c.requires.3 w.power.ensures c.from-t.ensures z (search rules))
          ∙ sym w.is_centered.ensures ∙ not-true w.is_centered.result (sym w.value-is ∙ c.if-not-is_centered.true))
    ])

pub returns-then-i-gt0 : goal.returns-then-i-gt0
returns-then-i-gt0 c =
    let a = c.args in
    let z = get_or a.residues.now a.i (pos 0) in
    let before = get_or a.residues.now (a.i - 1) (pos 0) in
    let fits : SFits w32 z = search rules in
    let before-fits : SFits w32 before = search rules in
    elim c.if-n-t.branch [
      | then-n-t w ↦ absurd (omega (arith, ltb-false a.n c.from-t.result (sym w.value-is ∙ c.if-not-is_centered.false)))
      | else-n-t w ↦
          ap₂ le_z (to_z-of_z w32 z fits) (to_z-of_z w32 before before-fits)
          ∙ sym (order-decides a.p a.n a.residues.now a.levels.now a.i c.requires.0 c.requires.1 (omega arith)
          (sym (centered-is c.requires.2 w.if-n-t.false c.requires.3 w.power.ensures c.from-t.ensures z fits)
          ∙ sym w.is_centered.ensures ∙ not-false w.is_centered.result (sym w.value-is ∙ c.if-not-is_centered.false))
          c.if-i-gt0.true)
    ]

pub returns-else-i-gt0 : goal.returns-else-i-gt0
returns-else-i-gt0 c =
    let a = c.args in
    let z = get_or a.residues.now a.i (pos 0) in
    let fits : SFits w32 z = search rules in
    elim c.if-n-t.branch [
      | then-n-t w ↦ absurd (omega (arith, ltb-false a.n c.from-t.result (sym w.value-is ∙ c.if-not-is_centered.false)))
      | else-n-t w ↦
          le-ltb 0 a.i c.if-i-gt0.false
          ∙ sym (first-usable a.p a.n a.residues.now a.levels.now a.i c.requires.0 c.requires.1 (omega arith)
          (sym (centered-is c.requires.2 w.if-n-t.false c.requires.3 w.power.ensures c.from-t.ensures z fits)
          ∙ sym w.is_centered.ensures ∙ not-false w.is_centered.result (sym w.value-is ∙ c.if-not-is_centered.false))
          (omega arith))
    ]
