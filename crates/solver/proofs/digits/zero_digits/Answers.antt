-- `solver::digits::zero_digits` meets its contract.
use mathlib.Core.Path.{◌≡◌, sym, ap, ◌∙◌}
use mathlib.Core.List.{List, ◌++◌}
use mathlib.Core.Bool.{true}
use Prim.Native.Nat.{ℕ, ◌+◌, ◌-◌, ◌≤◌}
use native.Mathlib.Omega.{arith}
use lib.ListN.{length, take, drop, replicate, length-take}
use lib.Seq.{length_front, length-take-le}
use Rattle.theory.specs.inner.Polynomial.{Degree}
use Rattle.theory.proofs.Lists.Fill.{part_back}
use Rattle.theory.proofs.Numbers.Prime.{prime_pos}
use Rattle.theory.proofs.Polynomials.Congruence.{SameModulo, degree_same, vanishes_same}
use Rattle.solver.specs.inner.Table.{degree_modulo, nonzero_modulo, zero_digits, Residues}
use Rattle.solver.proofs.Tables.{residues-below, residues_same}
use Rattle.solver.proofs.Zeros.{degree_modulo_lem, degree_modulo-lt}
use Rattle.solver.proofs.digits.zero_digits.Goals as goal

-- the degree asks for n + 1 coefficients
module _ (p n : ℕ) (h : List ℕ) (some : nonzero_modulo p h ≡ true) (few : length h ≤ 65) (d : n ≡ degree_modulo p h) where
  known : Degree p h n
  known = rw d (degree_modulo_lem p h some)

  fits : n + 1 ≤ length h
  fits = omega (arith, d, degree_modulo-lt p h some)

  -- the residues r stand in the table
  module _ (r : List ℕ) (l : length r ≡ length (take (n + 1) (replicate {A = ℕ} 65 0))) where
    long : length r ≡ n + 1
    long = l ∙ length-take-le (n + 1) (replicate {A = ℕ} 65 0) (omega (arith, fits))

    back : take (n + 1) (r ++ drop (n + 1) (replicate 65 0)) ≡ r
    back = part_back (n + 1) (replicate 65 0) r (omega (arith, fits)) l

    same : Residues p r h → SameModulo p r h
    same w = residues_same w (λ i k. known.above i (omega (arith, long, k)))

pub by_degree-requires : goal.by_degree-requires
by_degree-requires c =
    let pre = c.requires in
    let d = c.degree-len.ensures in
    let l = long _ _ _ pre.3 pre.0 d _ c.reduce.auto.g in
    let e : length c.reduce.new.g - 1 ≡ c.degree-len.result = omega (arith, l) in
    rw (back _ _ _ pre.3 pre.0 d _ c.reduce.auto.g) (
      omega (arith, l),
      omega (arith, l, fits _ _ _ pre.3 pre.0 d, pre.0),
      pre.1,
      pre.2,
      residues-below (prime_pos pre.1) c.reduce.ensures,
      rw e (degree_same (same _ _ _ pre.3 pre.0 d _ c.reduce.auto.g c.reduce.ensures) (known _ _ _ pre.3 pre.0 d)),
      pre.4,
    )

pub returns : goal.returns
returns c =
    let pre = c.requires in
    let d = c.degree-len.ensures in
    let l = c.reduce.auto.g in
    let done = c.by_degree.ensures in (
      done.0,
      done.1 ∙ ap (zero_digits c.args.p) (back _ _ _ pre.3 pre.0 d _ l)
          ∙ rw (vanishes_same c.reduce.new.g c.args.h.now (same _ _ _ pre.3 pre.0 d _ l c.reduce.ensures)),
    )

pub overflow_add-len : goal.overflow_add-len
overflow_add-len c = omega (arith, fits _ _ _ c.requires.3 c.requires.0 c.degree-len.ensures)

pub slice_bounds-g-end : goal.slice_bounds-g-end
slice_bounds-g-end c = omega (arith, fits _ _ _ c.requires.3 c.requires.0 c.degree-len.ensures)

pub slice_bounds-reduce-end : goal.slice_bounds-reduce-end
slice_bounds-reduce-end c = sym (length-take-le _ _ (omega (arith, fits _ _ _ c.requires.3 c.requires.0 c.degree-len.ensures)))

pub reduce-requires : goal.reduce-requires
reduce-requires c =
    (prime_pos c.requires.1, simp length-take (omega (arith, fits _ _ _ c.requires.3 c.requires.0 c.degree-len.ensures)))

pub slice_bounds-g-end-2 : goal.slice_bounds-g-end-2
slice_bounds-g-end-2 c =
    let f = fits _ _ _ c.requires.3 c.requires.0 c.degree-len.ensures in
    omega (arith, f, length_front (replicate 65 0) c.reduce.new.g (c.degree-len.result + 1) c.reduce.auto.g)

pub slice_bounds-by_degree-end : goal.slice_bounds-by_degree-end
slice_bounds-by_degree-end c =
    let d = c.degree-len.ensures in
    let l = c.reduce.auto.g in
    sym (ap length (back _ _ _ c.requires.3 c.requires.0 d _ l) ∙ long _ _ _ c.requires.3 c.requires.0 d _ l)
