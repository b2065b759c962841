-- Nodes of the tree of digits: their numbers are within 32 bits, and the node below one at a digit is one.
use mathlib.Core.Path.{◌≡◌, sym, ap, ◌∙◌}
use Prim.Native.Nat.{ℕ, suc, ◌+◌, ◌-◌, ◌*◌, ◌^◌, ◌≤◌, ◌<◌}
use native.Mathlib.Nat.{mul-le-mul_left, pow-le-pow_right, pow-suc}
use native.Mathlib.Omega.{arith}
use Rattle.theory.specs.Class.{Class, class}
use Rattle.theory.specs.Centered.{centered}
use Rattle.theory.specs.SignedClass.{signed_class, signed}
use Rattle.theory.specs.inner.Tree.{deeper}
use Rattle.theory.proofs.Numbers.Power.{exponent_lt}
use Rattle.theory.proofs.Classes.Equal.{class_equal}
use Rattle.solver.specs.declared.tree.Node.{Node}
use Rattle.solver.specs.inner.Recursion.{IsNode, child_at, within}

module _ {p : ℕ} {x : Node} (N : IsNode p x) where
  pos : 0 < p
  pos = omega (arith, N.base)

  pub level-lt : x.level + x.left < 32
  level-lt = exponent_lt p (x.level + x.left) 32 N.base (omega (arith, N.fits))

  pub power_le : x.power ≤ 4294967295
  power_le =
      omega (arith, N.power_is, N.fits, pow-le-pow_right {n = p} pos {i = x.level} {j = x.level + x.left} (omega arith))

  -- and so are its members below
  pub members-fit : p ^ x.left ≤ 4294967295
  members-fit = omega (arith, N.fits, pow-le-pow_right {n = p} pos {i = x.left} {j = x.level + x.left} (omega arith))

  -- so its class has a code
  pub class-fits : (x.residue < x.power) × (x.power ≤ 4294967295) × (x.level < 256)
  class-fits = (N.residue_fits, power_le, omega (arith, level-lt))

  pub child-node : {c : ℕ} → 0 < x.left → c < p → IsNode p (child_at x p c)
  child-node {c} deep c_lt =
      let one : x.level + 1 ≡ suc x.level = omega arith in
      let same : x.level + 1 + (x.left - 1) ≡ x.level + x.left = omega arith in
      record {
        base = N.base;
        power_is = ap (λ (q : ℕ). q * p) N.power_is ∙ sym (pow-suc p x.level) ∙ ap (λ (t : ℕ). p ^ t) (sym one);
        residue_fits = omega (arith, N.residue_fits, mul-le-mul_left x.power c_lt);
        fits = rw same N.fits;
      }

-- a class below the digit c, seen from the node
pub within_child : (x : Node) (p c : ℕ) (e : Class) → within (child_at x p c) e ≡ within x (deeper p c e)
unfolding within deeper
within_child x p c e = class_equal (omega arith) (omega arith)

-- the node's class itself
pub own_class : (x : Node) (p : ℕ) → x.power ≡ p ^ x.level
    → signed p (within x (class 0 0)) ≡ signed_class (centered x.power x.residue) x.level
unfolding signed within
own_class x p e =
    let level : x.level + 0 ≡ x.level = omega arith in
    let residue : x.residue + x.power * 0 ≡ x.residue = omega arith in
    rw (level, residue, e)
