-- `rootmap::fill::set_class` meets its contract.
use mathlib.Core.Path.{◌≡◌, ap₂, ◌∙◌}
use mathlib.Core.Bool.{◌&&◌}
use Prim.Native.Nat.{ℕ, ◌^◌, ◌≤◌}
use native.Mathlib.Omega.{arith}
use lib.Dec.{ltb}
use lib.IntN.{ℤ}
use mir.Syntax.{w32, w64}
use mir.Val.{SFits, to_z, of_z}
use mir.ValLaws.{to_z-of_z}
use Rattle.theory.specs.Polynomial.{reduce}
use Rattle.theory.specs.Class.{is_member}
use Rattle.theory.specs.SignedClass.{signed_class, natural}
use Rattle.theory.proofs.Numbers.Power.{pow_pos}
use Rattle.theory.proofs.Numbers.Reduction.{reduce-lt}
use Rattle.numbers.specs.Saturated.{saturated}
use Rattle.numbers.proofs.Saturated.{saturated-within}
use Rattle.numbers.proofs.Words.{wide_fits, wide_read}
use Rattle.rootmap.proofs.Adding.{added_same}
use Rattle.rootmap.proofs.Steps.{member_below}
use Rattle.rootmap.proofs.fill.set_class.Goals as goal

-- the power and the residue as the functions give them
module _ (p t m : ℕ) (within : p ^ t ≤ 4294967295) (given : m ≡ saturated (p ^ t)) where
  power_is : m ≡ p ^ t
  power_is = given ∙ saturated-within (p ^ t) (omega arith)

  reduced-is : (z : ℤ) (r : ℕ) → SFits w32 z → r ≡ reduce m (to_z w64 (of_z w64 (to_z w32 (of_z w32 z)))) → r ≡ reduce (p ^ t) z
  reduced-is z r f e = e ∙ ap₂ reduce power_is (wide_read z f)

pub overflow_cast-a : goal.overflow_cast-a
overflow_cast-a c = rw (to_z-of_z w32 c.args.a c.ranges.a) (wide_fits c.args.a c.ranges.a)

pub set_members-requires : goal.set_members-requires
set_members-requires c =
    let a = c.args in
    let P = power_is a.p a.t c.power-q.result c.requires.1 c.power-q.ensures in
    let R = reduced-is a.p a.t c.power-q.result c.requires.1 c.power-q.ensures a.a c.reduce-r.result c.ranges.a c.reduce-r.ensures in
    rw (P, R) (reduce-lt (a.p ^ a.t) (pow_pos a.p c.requires.0 a.t) a.a, c.requires.1, c.requires.2, c.requires.3)

pub returns : goal.returns
unfolding is_member natural
returns c =
    let a = c.args in
    let P = power_is a.p a.t c.power-q.result c.requires.1 c.power-q.ensures in
    let R = reduced-is a.p a.t c.power-q.result c.requires.1 c.power-q.ensures a.a c.reduce-r.result c.ranges.a c.reduce-r.ensures in
    added_same (member_below c.reduce-r.result c.power-q.result a.m)
    (λ x. ltb x a.m && is_member a.p (natural a.p (signed_class a.a a.t)) x) a.map.now
    c.set_members.new.map c.set_members.ensures
    (λ x. ap₂ (λ (y z : ℕ). member_below y z a.m x) R P)
