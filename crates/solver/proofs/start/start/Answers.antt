-- `solver::start::start` meets its contract.
use mathlib.Core.Path.{◌≡◌, sym, ap, ◌∙◌, subst}
use mathlib.Core.List.{List}
use Prim.Native.Nat.{ℕ, ◌≤◌}
use native.Mathlib.Omega.{arith}
use lib.IntN.{ℤ}
use lib.ListN.{length, take, replicate}
use lib.Seq.{length-take-le}
use mir.Syntax.{w32}
use mir.ValLaws.{to_z-of_z}
use Rattle.theory.specs.Class.{Class, IsClass}
use Rattle.theory.specs.Polynomial.{zeros}
use Rattle.theory.specs.SignedClass.{signed_class, natural}
use Rattle.theory.specs.Taylor.{shifted}
use Rattle.theory.proofs.Lists.Fill.{replicate_taken}
use Rattle.theory.proofs.Numbers.Prime.{prime_pos}
use Rattle.theory.proofs.Signed.Classes.{natural-class}
use Rattle.solver.specs.declared.tree.PrimePower.{PrimePower}
use Rattle.solver.specs.declared.tree.Node.{Node}
use Rattle.solver.specs.inner.Table.{Residues}
use Rattle.solver.specs.inner.Recursion.{IsPrimePower, AtNode, Done}
use Rattle.solver.specs.inner.Start.{node_at, shifted_length}
use Rattle.solver.proofs.Child.{modulus_pos}
use Rattle.solver.proofs.Node.{class-fits}
use Rattle.solver.proofs.Starting.{length_some, length_most, class-node, start-at, start-most, start-added}
use Rattle.solver.proofs.start.start.Goals as goal
use Rattle.solver.proofs.start.start.Goals.{After-shifted_length-len}

-- the table that the coefficients go into
abbrev blank : List ℕ
blank = replicate 65 0

-- The class and its node, with the number of coefficients there
module _ (c : After-shifted_length-len) where
  abbrev f : List ℕ
  f = c.args.f.now

  abbrev M : PrimePower
  M = c.args.over

  abbrev d : Class
  d = natural M.p (signed_class c.args.residue c.args.level)

  abbrev x : Node
  x = node_at M.p M.exponent d

  abbrev len : ℕ
  len = c.shifted_length-len.result

  abbrev I : IsPrimePower M
  I = c.requires.0

  is_class : IsClass M.p M.exponent d
  is_class = natural-class M.p M.exponent (prime_pos I.prime) _ c.requires.3.level_fits

  node-is : c.node_at-node.result ≡ x
  node-is =
      c.node_at-node.ensures
      ∙ ap (λ (z : ℤ). node_at M.p M.exponent (natural M.p (signed_class z c.args.level)))
      (to_z-of_z w32 c.args.residue c.ranges.residue)

  len_is : len ≡ shifted_length (length f) M.exponent d.level
  len_is = c.shifted_length-len.ensures ∙ ap (λ (y : Node). shifted_length (length f) M.exponent y.level) node-is

  len-few : len ≤ 65
  len-few = omega (arith, len_is, length_most (length f) M.exponent d.level, c.requires.2)

  blank-long : length (take len blank) ≡ len
  blank-long = length-take-le len blank len-few

  -- Its polynomial
  module _ (g : List ℕ) (l : length g ≡ length (take len blank)) where
    long : length g ≡ len
    long = l ∙ blank-long

    capped : length g ≡ shifted_length (length f) M.exponent d.level
    capped = long ∙ len_is

  residues : (g : List ℕ) → Residues M.power g (shifted c.node_at-node.result.residue c.node_at-node.result.power f)
      → Residues M.power g (shifted x.residue x.power f)
  residues g = subst (λ (y : Node). Residues M.power g (shifted y.residue y.power f)) node-is

pub slice_bounds-table-end : goal.slice_bounds-table-end
slice_bounds-table-end c = len-few (goal.at.slice_bounds-table-end c).After-shifted_length-len

pub slice_bounds-g-end : goal.slice_bounds-g-end
slice_bounds-g-end c = sym (blank-long (goal.at.slice_bounds-g-end c).After-shifted_length-len)

pub shift-requires : goal.shift-requires
shift-requires c =
    let s = (goal.at.shift-requires c).After-shifted_length-len in
    let fits = class-fits (class-node (I s) (is_class s)) in
    let residue-is = ap (λ (y : Node). y.residue) (node-is s) in
    let power_is = ap (λ (y : Node). y.power) (node-is s) in
    let some = length_some (length (f s)) (M s).exponent (d s).level c.requires.1 (is_class s).level_fits in (
      omega (arith, blank-long s, len_is s, some),
      modulus_pos (I s),
      (I s).fits,
      omega (arith, residue-is, fits.0, fits.1),
      omega (arith, power_is, fits.1),
      replicate_taken 0 65 (len s),
    )

pub settle-settled-requires : goal.settle-settled-requires
settle-settled-requires c =
    let s = (goal.at.settle-settled-requires c).After-shifted_length-len in
    let g = c.shift.new.g in
    let l = c.shift.auto.g in
    let few = c.requires.2 in
    let r = residues s g c.shift.ensures in (
      subst (λ (y : Node). AtNode g (M s) y) (sym (node-is s))
          (start-at (I s) (is_class s) (f s) (capped s g l) r few),
      omega (arith, c.requires.4, start-most (I s) (is_class s) (f s) (capped s g l) r few),
    )

pub returns : goal.returns
returns c =
    let s = (goal.at.returns c).After-shifted_length-len in
    let g = c.shift.new.g in
    let l = c.shift.auto.g in
    let done =
    subst (λ (y : Node).
    Done (zeros g (M s).p (M s).exponent) (M s).p y c.args.k c.settle-settled.result c.args.out.now c.settle-settled.new.out)
    (node-is s) c.settle-settled.ensures.classes in
    start-added (I s) (is_class s) (f s) (capped s g l) (residues s g c.shift.ensures) done
