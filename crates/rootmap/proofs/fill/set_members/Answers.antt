-- `rootmap::fill::set_members` meets its contract. The invariant: the bits of the members below r are added.
use mathlib.Core.Path.{refl, ◌∙◌}
use Prim.Native.Nat.{◌+◌, ◌<◌}
use native.Mathlib.Nat.{mod-eq_of_lt, add-mod_right}
use native.Mathlib.Omega.{arith}
use lib.Dec.{eqb}
use Rattle.rootmap.proofs.Adding.{added_none, added_same, added_both}
use Rattle.rootmap.proofs.Steps.{member_below, members-first, members_next, members-last}
use Rattle.rootmap.proofs.fill.set_members.Goals as goal

pub loop-r-init : goal.loop-r-init
loop-r-init c =
    let a = c.args in
    let small = c.requires.0 in (
      mod-eq_of_lt (small),
      omega arith,
      refl,
      added_none (member_below a.a a.q a.a) a.map.now (λ s. members-first a.a a.q s (small)),
    )

pub loop-r-preserved : goal.loop-r-preserved
loop-r-preserved c =
    let a = c.args in
    let r = c.loop-r.r in
    let pos : 0 < a.q = omega arith in (
      add-mod_right r a.q ∙ c.loop-r.invariant.0,
      omega arith,
      c.set_bit.auto.map ∙ c.loop-r.invariant.2,
      added_both (member_below a.a a.q r) (λ s. eqb s r) (member_below a.a a.q (r + a.q)) a.map.now c.loop-r.map
          c.set_bit.new.map c.loop-r.invariant.3 c.set_bit.ensures (λ s. members_next a.a a.q r s pos c.loop-r.invariant.0),
    )

pub returns : goal.returns
returns c =
    let a = c.args in
    let r = c.loop-r.r in
    added_same (member_below a.a a.q r) (member_below a.a a.q a.m) a.map.now c.loop-r.map c.loop-r.invariant.3
    (λ s. members-last a.a a.q a.m r s c.loop-r.invariant.0 (omega arith) c.loop-r.invariant.1)

pub returns-2 : goal.returns-2
returns-2 c =
    let a = c.args in
    let r = c.loop-r.r in
    let pos : 0 < a.q = omega arith in
    let next = add-mod_right r a.q ∙ c.loop-r.invariant.0 in
    added_same (member_below a.a a.q (r + a.q)) (member_below a.a a.q a.m) a.map.now c.set_bit.new.map
    (added_both (member_below a.a a.q r) (λ s. eqb s r) (member_below a.a a.q (r + a.q)) a.map.now c.loop-r.map c.set_bit.new.map
    c.loop-r.invariant.3 c.set_bit.ensures (λ s. members_next a.a a.q r s pos c.loop-r.invariant.0))
    (λ s. members-last a.a a.q a.m (r + a.q) s next (omega arith) (omega arith))
