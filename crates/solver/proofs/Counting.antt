-- The number of live classes as the recursion makes it: 1 for a class, and what its children's polynomials give.
use mathlib.Core.Path.{◌≡◌, refl, sym, ap, ◌∙◌}
use mathlib.Core.Bool.{true}
use mathlib.Core.List.{List, []}
use Prim.Native.Nat.{ℕ, suc, ◌+◌, ◌-◌, ◌*◌, ◌^◌, ◌≤◌, ◌<◌}
use native.Mathlib.Omega.{arith}
use native.Mathlib.Nat.{mul-le-mul_right, mul-zero}
use lib.ListN.{length, get_or, take}
use Rattle.theory.specs.Taylor.{taylor, shifted}
use Rattle.theory.specs.Degree.{all_zero}
use Rattle.theory.specs.Live.{sum_over, live_of}
use Rattle.theory.specs.inner.Polynomial.{coef}
use Rattle.theory.proofs.Polynomials.Arithmetic.{coef-stretch}
use Rattle.theory.proofs.Polynomials.Taylor.{taylor_beyond}
use Rattle.theory.proofs.Polynomials.Highest.{all_zero-coef}
use Rattle.theory.proofs.Sums.{sum_over_next, sum_over_most}
use Rattle.theory.proofs.Live.Carried.{live-last, live-finished, live-scan}
use Rattle.theory.proofs.Live.Bound.{live-few}
use Rattle.solver.specs.declared.tree.PrimePower.{PrimePower}
use Rattle.solver.specs.declared.tree.Node.{Node}
use Rattle.solver.specs.inner.Table.{degree_modulo, zero_digits}
use Rattle.solver.specs.inner.Recursion.{AtNode, Primitive}
use Rattle.solver.proofs.Node.{level-lt}
use Rattle.solver.proofs.Zeros.{degree_modulo_lem}

-- A class that is settled at once

module _ {f : List ℕ} {M : PrimePower} {x : Node} (N : AtNode f M x) where
  pub counted-finished : all_zero f ≡ true → live_of f M.p M.exponent x.left ≡ 1
  counted-finished z = live-finished M.p N.modulus.prime.two M.exponent x.left f (all_zero-coef f z)

  pub counted-last : x.left ≡ 0 → live_of f M.p M.exponent x.left ≡ 1
  counted-last z = rw z (live-last M.p N.modulus.prime.two M.exponent f)

-- A class whose digits are scanned

-- the number below the digit c
abbrev pub below : List ℕ → PrimePower → Node → ℕ → ℕ
below f M x c = live_of (shifted c M.p f) M.p M.exponent (x.left - 1)

-- after these digits
abbrev pub counted : List ℕ → PrimePower → Node → List ℕ → ℕ
counted f M x digits = suc (sum_over (below f M x) digits)

-- after none
pub counted_none : (f : List ℕ) (M : PrimePower) (x : Node) → 1 ≡ counted f M x []
unfolding sum_over
counted_none f M x = refl

module _ {f : List ℕ} {M : PrimePower} {x : Node} (P : Primitive f M x) where
  pub counted_next : (digits : List ℕ) (i : ℕ) {live child : ℕ} → i < length digits → live ≡ counted f M x (take i digits)
      → child ≡ below f M x (get_or digits i 0) → live + child ≡ counted f M x (take (i + 1) digits)
  counted_next digits i h s t = omega (arith, s, t, sum_over_next (below f M x) digits i h)

  -- after all at which f vanishes, it is the number for f
  pub counted-all : counted f M x (zero_digits M.p f) ≡ live_of f M.p M.exponent x.left
  counted-all =
      let left : suc (x.left - 1) ≡ x.left = omega (arith, P.deep) in
      let lead = (degree_modulo_lem M.p f P.nonzero).lead in
      sym (live-scan M.p P.at.modulus.prime.two M.exponent (x.left - 1) f (degree_modulo M.p f) P.precise lead)
      ∙ ap (live_of f M.p M.exponent) left

  -- with at most 30 levels left and degree 64, 1 + 30·64
  pub below-few : (c : ℕ) → below f M x c ≤ 1921
  below-few c =
      omega (
        arith,
        live-few M.p P.at.modulus.prime M.exponent (x.left - 1) 64 (shifted c M.p f) short,
        level-lt P.at.node,
      )
    where
      short : (i : ℕ) → 64 < i → coef (shifted c M.p f) i ≡ 0
      short i h =
          coef-stretch M.p (taylor c f) i
          ∙ rw (taylor_beyond c f i (omega (arith, P.at.short))) (mul-zero (M.p ^ i))

  -- so the sum is far below the end of a word
  pub counted-few : (digits : List ℕ) → length digits ≤ 64 → counted f M x digits ≤ 1 + 64 * 1921
  counted-few digits h =
      omega (arith, sum_over_most (below f M x) 1921 digits below-few, mul-le-mul_right 1921 h)
