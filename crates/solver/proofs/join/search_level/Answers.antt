-- `solver::join::search_level` meets its contract. The invariant: q is p^t, and the class of level t around the residue of x adds up.
use mathlib.Core.Path.{◌≡◌, sym, ap, ◌∙◌}
use mathlib.Core.Bool.{true, false}
use mathlib.Core.List.{List, map}
use Prim.Native.Nat.{ℕ, ◌+◌, ◌-◌, ◌/◌, ◌^◌, ◌≤◌, ◌<◌}
use native.Mathlib.Omega.{arith}
use borrow.Author.Rules.{rules}
use borrow.Author.Tests.{eq-eqb, ne_eqb}
use lib.IntN.{ℤ}
use mir.Syntax.{w32, w64}
use mir.Val.{SFits, to_z, of_z}
use Rattle.theory.specs.Polynomial.{reduce}
use Rattle.theory.specs.SignedClass.{SignedClass}
use Rattle.theory.specs.inner.Join.{inside_total, adds_up, joined_level, FilledDown}
use Rattle.theory.proofs.Tests.{contradiction, not_holding}
use Rattle.theory.proofs.Least.{least_is}
use Rattle.theory.proofs.Numbers.Power.{pow_before}
use Rattle.numbers.specs.Saturated.{saturated}
use Rattle.numbers.proofs.Saturated.{saturated_power}
use Rattle.numbers.proofs.Words.{wide_read}
use Rattle.solver.specs.declared.entry.Entry.{Entry}
use Rattle.solver.specs.inner.Entry.{class_of}
use Rattle.solver.proofs.join.search_level.Goals as goal

module _ (codes : List Entry) (p n : ℕ) (x : Entry) (t : ℕ) where
  abbrev L : List SignedClass
  L = map class_of codes

  abbrev z : ℤ
  z = (class_of x).residue

  module _ (filled : FilledDown p n L (class_of x)) (low : t ≤ x.level) where
    t-fits : t ≤ n
    t-fits = omega (arith, filled.level_fits)

    -- t is the level, where no class of a lower level adds up
    level-is : adds_up p n L z t ≡ true → ((s : ℕ) → s < t → adds_up p n L z s ≡ false) → t ≡ joined_level p n L z
    unfolding joined_level
    level-is here h =
        sym (least_is (adds_up p n L z) n 0 t (omega arith) (omega (arith, t-fits)) (λ s l b. h s b) (λ b. here))

    -- and none does where the next does not
    none-lower : adds_up p n L z (t - 1) ≡ false → (s : ℕ) → s < t → adds_up p n L z s ≡ false
    none-lower e s h =
        not_holding (adds_up p n L z s) (λ w. contradiction (filled.down s (t - 1) (omega arith) (omega arith) w) e)

  -- the test at level t − 1
  module _ (two : 2 ≤ p) (fits : p ^ n ≤ 4294967295) (le : t ≤ n) (q a k m : ℕ) (y : ℤ)
      (larger : q / p ≡ p ^ (t - 1)) (reads : y ≡ z) (a-is : a ≡ reduce (q / p) y) (k-is : k ≡ inside_total p n a (t - 1) L) (m-is : m ≡ saturated (p ^ (n - (t - 1)))) where
    abbrev total : ℕ
    total = inside_total p n (reduce (p ^ (t - 1)) z) (t - 1) L

    total-is : k ≡ total
    total-is =
        k-is
        ∙ ap (λ (a : ℕ). inside_total p n a (t - 1) L)
        (a-is ∙ ap (reduce (q / p)) reads ∙ ap (λ (m : ℕ). reduce m z) larger)

    power_is : m ≡ p ^ (n - (t - 1))
    power_is = saturated_power (omega arith) (omega arith) fits m-is

    adds : k ≡ m → adds_up p n L z (t - 1) ≡ true
    unfolding adds_up
    adds e = eq-eqb total (p ^ (n - (t - 1))) (sym total-is ∙ e ∙ power_is)

    adds-not : (k ≡ m → ⊥) → adds_up p n L z (t - 1) ≡ false
    unfolding adds_up
    adds-not h = ne_eqb total (p ^ (n - (t - 1))) (λ e. h (total-is ∙ e ∙ sym power_is))

pub loop-t-init : goal.loop-t-init
loop-t-init c =
    let filled = c.requires.3 in (
      saturated_power (omega (arith, c.requires.0)) filled.level_fits c.requires.1 c.power-q.ensures,
      filled.own,
    )

pub inside_total-requires : goal.inside_total-requires
inside_total-requires c = (
  c.requires.0,
  c.requires.1,
  pow_before c.args.p c.loop-t.t (omega (arith, c.requires.0)) c.loop-t-test.true c.loop-t.invariant.0,
  c.requires.2,
)

pub overflow_sub-n : goal.overflow_sub-n
overflow_sub-n c = omega (arith, c.requires.3.level_fits)

pub returns-then-inside_total-power : goal.returns-then-inside_total-power
returns-then-inside_total-power c =
    let a = c.args in
    let t = c.loop-t.t in
    let v = c.loop-t.invariant in
    let low : c.loop-t.t ≤ a.x.level = omega arith in
    let fits : SFits w32 a.x.residue = search rules in
    let larger = pow_before a.p t (omega (arith, c.requires.0)) c.loop-t-test.true v.0 in
    let le = t-fits a.entries.now a.p a.n a.x t c.requires.3 low in
    let not = adds-not a.entries.now a.p a.n a.x t c.requires.0 c.requires.1 le c.loop-t.q c.reduce-a.result c.inside_total.result c.power.result (to_z w64 (of_z w64 (to_z w32 (of_z w32 a.x.residue)))) larger (wide_read a.x.residue fits) c.reduce-a.ensures c.inside_total.ensures c.power.ensures
    c.if-inside_total-power.true in
    let next : t - 1 + 1 ≡ t = omega (arith, c.loop-t-test.true) in
    next ∙ level-is a.entries.now a.p a.n a.x t c.requires.3 low v.1 (none-lower a.entries.now a.p a.n a.x t c.requires.3 low not)

pub loop-t-preserved : goal.loop-t-preserved
loop-t-preserved c =
    let a = c.args in
    let t = c.loop-t.t in
    let v = c.loop-t.invariant in
    let low : c.loop-t.t ≤ a.x.level = omega arith in
    let fits : SFits w32 a.x.residue = search rules in
    let larger = pow_before a.p t (omega (arith, c.requires.0)) c.loop-t-test.true v.0 in
    let le = t-fits a.entries.now a.p a.n a.x t c.requires.3 low in (
      larger,
      adds a.entries.now a.p a.n a.x t c.requires.0 c.requires.1 le c.loop-t.q c.reduce-a.result c.inside_total.result c.power.result (to_z w64 (of_z w64 (to_z w32 (of_z w32 a.x.residue)))) larger (wide_read a.x.residue fits) c.reduce-a.ensures c.inside_total.ensures c.power.ensures
          c.if-inside_total-power.false,
    )

pub returns : goal.returns
returns c =
    let a = c.args in
    let v = c.loop-t.invariant in
    let low : c.loop-t.t ≤ a.x.level = omega arith in
    let none : c.loop-t.t ≡ 0 = omega (arith, c.loop-t-test.false) in
    sym none ∙ level-is a.entries.now a.p a.n a.x c.loop-t.t c.requires.3 low v.1 (λ s h. absurd (omega arith))
