-- `solver::zero_counts::write_counts` meets its contract. The invariant: N_0, …, N_j are written, and `rest` is p^(n − j).
use mathlib.Core.Path.{◌≡◌, refl, sym, ap, ◌∙◌}
use mathlib.Core.List.{List}
use Prim.Native.Nat.{ℕ, suc, ◌+◌, ◌-◌, ◌/◌, ◌^◌, ◌<◌}
use native.Mathlib.Numerals.{add-one}
use native.Mathlib.Nat.{sub-zero}
use native.Mathlib.Omega.{arith}
use lib.ListN.{length, get_or, set, length-set}
use Rattle.theory.specs.inner.Overwritten.{Overwritten}
use Rattle.theory.proofs.Lists.Overwritten.{written_none, written-up, written_twice, written_again}
use Rattle.theory.proofs.Numbers.Power.{pow_pos, pow_before}
use Rattle.theory.proofs.Numbers.Prime.{prime_pos}
use Rattle.solver.specs.inner.Counts.{scaled}
use Rattle.solver.proofs.zero_counts.write_counts.Goals as goal

first : (p n : ℕ) (zeros l : List ℕ) → 0 < length l → Overwritten (scaled p n zeros) 0 1 l (set l 0 1)
first p n zeros l h = written-up (written_none (scaled p n zeros) 0 l) 0 1 h refl (omega arith) refl

next_power : (p n j rest : ℕ) → 0 < p → j < n → rest ≡ p ^ (n - j) → rest / p ≡ p ^ (n - (j + 1))
next_power p n j rest hp h e =
    let q : n - j - 1 ≡ n - (j + 1) = omega arith in
    pow_before p (n - j) hp (omega arith) e ∙ ap (λ (k : ℕ). p ^ k) q

scaled-next : (p n : ℕ) (zeros : List ℕ) (j : ℕ) {rest : ℕ} → rest ≡ p ^ (n - (j + 1)) → get_or zeros j 0 / rest ≡ scaled p n zeros (j + 1)
scaled-next p n zeros j e = rw (e, add-one j)

pub loop-j-init : goal.loop-j-init
loop-j-init c =
    let a = c.args in (
      c.requires.0.power ∙ ap (λ (k : ℕ). a.p ^ k) (sym (sub-zero a.n)),
      written_again (first a.p a.n a.zeros.now a.counts.now (omega (arith, c.requires.2))),
    )

pub nonzero_div-rest : goal.nonzero_div-rest
nonzero_div-rest c = prime_pos c.requires.0.prime

pub nonzero_div-counts : goal.nonzero_div-counts
nonzero_div-counts c =
    let U = c.requires.0 in
    rw (next_power c.args.p c.args.n c.loop-j.j c.loop-j.rest (prime_pos U.prime)
    c.loop-j-test.true c.loop-j.invariant.0) (pow_pos _ (prime_pos U.prime) _)

pub bounds-counts-j : goal.bounds-counts-j
bounds-counts-j c =
    omega (arith, c.loop-j-test.true, c.requires.2, c.loop-j.invariant.1.long, length-set c.args.counts.now 0 1)

pub loop-j-preserved : goal.loop-j-preserved
loop-j-preserved c =
    let j = c.loop-j.j in
    let e = next_power c.args.p c.args.n j c.loop-j.rest (prime_pos c.requires.0.prime) c.loop-j-test.true
    c.loop-j.invariant.0 in (
      e,
      written-up c.loop-j.invariant.1 (j + 1) _
          (omega (arith, c.loop-j-test.true, c.requires.2, length-set c.args.counts.now 0 1))
          (scaled-next c.args.p c.args.n c.args.zeros.now j e) (omega arith) refl,
    )

pub returns : goal.returns
returns c =
    let e : c.loop-j.j + 1 ≡ suc c.args.n = omega (arith, c.loop-j-test.false) in
    written_twice (first c.args.p c.args.n c.args.zeros.now c.args.counts.now (omega (arith, c.requires.2))) (omega arith)
    (rw e at c.loop-j.invariant.1)
