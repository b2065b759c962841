-- The polynomial f(c + p·y) modulo p^e of the class one level below, at the digit c: its zeros and live classes, its node, and the room for
-- its classes.
use mathlib.Core.Path.{◌≡◌, sym, ap, ◌∙◌}
use mathlib.Core.Bool.{Bool}
use mathlib.Core.List.{List}
use Prim.Native.Nat.{ℕ, suc, ◌^◌, ◌<◌, min}
use native.Mathlib.Nat.{dvd_refl}
use native.Mathlib.Omega.{arith}
use lib.ListN.{length}
use Rattle.theory.specs.Polynomial.{zeros}
use Rattle.theory.specs.Shortest.{count}
use Rattle.theory.specs.Live.{live_of}
use Rattle.theory.specs.inner.Tree.{branch}
use Rattle.theory.specs.Taylor.{taylor, shifted}
use Rattle.theory.proofs.Numbers.Power.{pow_pos, pow_dvd}
use Rattle.theory.proofs.Numbers.Prime.{prime_pos}
use Rattle.theory.proofs.Numbers.Congruence.{cong_down}
use Rattle.theory.proofs.Polynomials.Congruence.{SameModulo, zeros_same}
use Rattle.theory.proofs.Polynomials.Orders.{AtMostOrder}
use Rattle.theory.proofs.Polynomials.Zeros.{zeros-branch}
use Rattle.theory.proofs.Live.Carried.{live_same}
use Rattle.solver.specs.declared.tree.PrimePower.{PrimePower}
use Rattle.solver.specs.declared.tree.Node.{Node}
use Rattle.solver.specs.inner.Table.{Residues}
use Rattle.solver.specs.inner.Counts.{zeros_at}
use Rattle.solver.specs.inner.Recursion.{IsPrimePower, Primitive, AtNode, child_at, most_classes}
use Rattle.solver.proofs.Tables.{residues-below, residues_same}
use Rattle.solver.proofs.Shift.{shifted_beyond}
use Rattle.solver.proofs.Most.{most-order}
use Rattle.solver.proofs.Node.{child-node}

pub modulus_pos : {M : PrimePower} → IsPrimePower M → 0 < M.power
modulus_pos {M} I = rw I.power_is (pow_pos M.p (prime_pos I.prime) M.exponent)

module _ {f : List ℕ} {M : PrimePower} {x : Node} (P : Primitive f M x) (c : ℕ) {g : List ℕ}
    (long : length g ≡ min M.exponent (length f)) (r : Residues M.power g (shifted c M.p f)) where
  abbrev p : ℕ
  p = M.p

  abbrev e : ℕ
  e = M.exponent

  abbrev I : IsPrimePower M
  I = P.at.modulus

  same : SameModulo (p ^ e) g (shifted c p f)
  same = residues_same (rw I.power_is at r) (λ i h. shifted_beyond p e c p f (dvd_refl p) i (omega (arith, long)))

  pub child-zeros : zeros g M.p M.exponent ≡ branch (zeros f M.p M.exponent) M.p c
  child-zeros = zeros_same g (shifted c p f) p e same ∙ sym (zeros-branch f p e c)

  pub child-counts : (levels i : ℕ) → i < M.exponent → zeros_at g M.p levels i ≡ zeros_at (shifted c M.p f) M.p levels i
  unfolding zeros_at
  child-counts levels i h =
      ap (λ (S : ℕ → Bool). count S p levels) (zeros_same g (shifted c p f) p (suc i) (λ k. cong_down (pow_dvd p h) (same k)))

  pub child_live : (levels : ℕ) → live_of g M.p M.exponent levels ≡ live_of (shifted c M.p f) M.p M.exponent levels
  child_live levels = live_same p I.prime.two e levels g (shifted c p f) same

  pub child-at : c < M.p → AtNode g M (child_at x M.p c)
  child-at c_lt =
      record {
        modulus = I;
        node = child-node P.at.node P.deep c_lt;
        short = omega (arith, long, P.at.short);
        below = residues-below (modulus_pos I) r;
      }

  pub child-order : AtMostOrder M.p (most_classes M.p g) (taylor c f)
  child-order = most-order p I.prime e c f g P.precise (omega (arith, long)) same
