-- `solver::join::join` meets its contract. The invariant: the first i classes joined are written, and they are k.
use mathlib.Core.Path.{◌≡◌, sym, ap, ap₂, ◌∙◌}
use mathlib.Core.Bool.{Bool}
use mathlib.Core.List.{List, map}
use Prim.Native.Nat.{ℕ, ◌^◌, ◌≤◌, ◌<◌}
use native.Mathlib.Omega.{arith}
use borrow.Author.Rules.{rules}
use lib.IntN.{ℤ}
use lib.ListN.{length, length-map, get_or}
use mir.Syntax.{w32}
use mir.Val.{SFits}
use mir.ValLaws.{to_z-of_z}
use Rattle.theory.specs.Centered.{is_centered}
use Rattle.theory.specs.SignedClass.{SignedClass}
use Rattle.theory.specs.inner.Join.{joined_level, is_first}
use Rattle.theory.proofs.Lists.Index.{in_at}
use Rattle.theory.proofs.Lists.Map.{map_in}
use Rattle.theory.proofs.Numbers.Power.{exponent_lt}
use Rattle.theory.proofs.Signed.AddsUp.{joined_level-le}
use Rattle.numbers.specs.Saturated.{saturated}
use Rattle.numbers.proofs.Saturated.{level_power, saturated_power}
use Rattle.solver.specs.declared.entry.Entry.{Entry}
use Rattle.solver.specs.inner.Entry.{class_of}
use Rattle.solver.proofs.Joining.{joining-none, joining-on, joining-off, joining-all}
use Rattle.solver.proofs.Entries.{none}
use Rattle.solver.proofs.join.join.Goals.{then-is_centered, else-is_centered}
use Rattle.solver.proofs.join.join.Goals as goal

-- entry i and its level once joined
module _ (codes : List Entry) (p n i t : ℕ) (two : 2 ≤ p) (fits : p ^ n ≤ 4294967295) where
  abbrev L : List SignedClass
  L = map class_of codes

  abbrev x : Entry
  x = get_or codes i none

  abbrev z : ℤ
  z = (class_of x).residue

  module _ (level-is : t ≡ joined_level p n L z) where
    hp : 0 < p
    hp = omega arith

    level-le : t ≤ n
    level-le = omega (arith, joined_level-le p n L z)

    level-small : t < 32
    level-small = omega (arith, level-le, exponent_lt p n 32 two (omega arith))

    module _ {q : ℕ} (e : q ≡ saturated (p ^ t)) where
      power_is : q ≡ p ^ t
      power_is = saturated_power hp level-le fits e

      power_fits : q ≤ 4294967295
      power_fits = omega (arith, power_is, level_power hp level-le fits)

      -- whether its residue is the joined class's
      first-is : {b : Bool} {y : ℤ} → b ≡ is_centered q y → y ≡ z → b ≡ is_first p n L (class_of x)
      unfolding is_first
      first-is k r = k ∙ ap₂ is_centered (power_is ∙ ap (λ (s : ℕ). p ^ s) level-is) r

pub joined_level-t-requires : goal.joined_level-t-requires
joined_level-t-requires c =
    let codes = c.args.entries.now in
    let i = c.loop-x.x-index in
    let x = get_or codes i none in
    let listed = map_in class_of codes x (in_at codes i none c.loop-x-test.true) in (
      c.requires.0,
      c.requires.1,
      c.requires.2,
      c.requires.5.filled (class_of x) listed,
      (λ few. c.requires.4.stays (omega (arith, length-map codes class_of)) (class_of x) listed),
    )

pub overflow_cast-power : goal.overflow_cast-power
overflow_cast-power c =
    let a = c.args in
    let le = power_fits a.entries.now a.p a.n c.loop-x.x-index c.joined_level-t.result c.requires.0 c.requires.1 c.joined_level-t.ensures c.power.ensures in
    record { fits = omega arith }

pub loop-x-preserved : goal.loop-x-preserved
loop-x-preserved c =
    let a = c.args in
    let codes = a.entries.now in
    let i = c.loop-x.x-index in
    let j = c.loop-x.invariant in
    let h = c.loop-x-test.true in
    let room : c.loop-x.k < length c.loop-x.out = omega (arith, j.long, j.number, c.requires.3) in
    let level-is = c.joined_level-t.ensures in
    let f : SFits w32 (get_or codes i none).residue = search rules in
    let first =
    first-is codes a.p a.n i c.joined_level-t.result c.requires.0 c.requires.1 level-is c.power.ensures c.is_centered.ensures
    (to_z-of_z w32 (get_or codes i none).residue f) in
    elim c.if-is_centered.branch [
      | then-is_centered w ↦ rw (w.out-is, w.k-is, level-is, to_z-of_z w32 (get_or codes i none).residue f) (joining-on a.p a.n codes j h room (sym first ∙ w.if-is_centered.true))
      | else-is_centered w ↦ rw (w.out-is, w.k-is) (joining-off a.p a.n codes j h (sym first ∙ w.if-is_centered.false))
    ]

pub returns : goal.returns
returns c =
    let s = c.args in
    let all : c.loop-x.x-index ≡ length s.entries.now = omega arith in
    (omega (arith, c.loop-x.invariant.number), joining-all s.p s.n s.entries.now c.loop-x.invariant all)

pub loop-x-init : goal.loop-x-init
loop-x-init c = joining-none _ _ _ _

pub bounds-out-k : goal.bounds-out-k
bounds-out-k c = omega (arith, c.loop-x.invariant.long, c.loop-x.invariant.number, c.requires.3, c.loop-x-test.true)

pub shape_of-out : goal.shape_of-out
shape_of-out c = c.loop-x.invariant.long

pub overflow_cast-out : goal.overflow_cast-out
overflow_cast-out c =
    let a = c.args in
    record {
      fits = omega (
        arith,
        level-small a.entries.now a.p a.n c.loop-x.x-index c.joined_level-t.result c.requires.0 c.requires.1 c.joined_level-t.ensures,
      );
    }
