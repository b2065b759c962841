-- `numbers::least_divisor` meets its contract. The invariant: no number from 2 to d − 1 divides p.
use mathlib.Core.Path.{◌≡◌, refl, sym}
use Prim.Native.Nat.{ℕ, zero, suc, ◌+◌, ◌*◌, ◌%◌, ◌≤◌, ◌<◌}
use native.Mathlib.Nat.{mul-le-mul, dvd_of_mod-eq-zero, mod-eq-zero_of_dvd}
use native.Mathlib.Decide.{dec_le, ℕ_discrete}
use native.Mathlib.Omega.{arith}
use Rattle.theory.specs.Range.{least}
use Rattle.theory.specs.Prime.{least_divisor}
use Rattle.theory.proofs.Numbers.Prime.{least-divisor-is, least-divisor-root}
use Rattle.numbers.proofs.least_divisor.Invariants.{NoneBelow}
use Rattle.numbers.proofs.least_divisor.Goals as goal

-- a number whose square is below 2^32 is below 65,536
square-root : (d x : ℕ) → d * d ≤ x → x < 4294967296 → d < 65536
square-root d x h l = go (dec_le 65536 d)
  where
    go : Dec (65536 ≤ d) → d < 65536
    go (yes u) = absurd (omega (arith, mul-le-mul u u))
    go (no u) = omega arith

one_more : (p d : ℕ) → NoneBelow p d → (p % d ≡ 0 → ⊥) → NoneBelow p (d + 1)
one_more p d none ne e h l v = go (ℕ_discrete e d)
  where
    go : Dec (e ≡ d) → ⊥
    go (yes q) = ne (mod-eq-zero_of_dvd d (rw q at v))
    go (no q) = none e h (omega arith) v

small : (p : ℕ) → p < 2 → 2 ≡ least_divisor p
unfolding least_divisor least
small zero h = refl
small (suc zero) h = refl
small (suc (suc p)) h = absurd (omega arith)

pub returns-then-p-lt2 : goal.returns-then-p-lt2
returns-then-p-lt2 c = small c.args.p c.if-p-lt2.true

pub returns-then-x-d-eq0 : goal.returns-then-x-d-eq0
returns-then-x-d-eq0 c =
    let k = c.loop-d.invariant in
    sym (least-divisor-is c.args.p k.1 c.loop-d.d k.2
    (dvd_of_mod-eq-zero c.loop-d.d c.if-x-d-eq0.true) k.4)

pub loop-d-preserved : goal.loop-d-preserved
loop-d-preserved c =
    let k = c.loop-d.invariant in
    let d = c.loop-d.d in
    let p = c.args.p in
    let low : d < 65536 = square-root d p c.loop-d-test.true c.ranges.p.fits in
    (refl, k.1, omega arith, omega arith, one_more p d k.4 c.if-x-d-eq0.false)

pub returns : goal.returns
returns c =
    let k = c.loop-d.invariant in
    sym (least-divisor-root c.args.p k.1 c.loop-d.d c.loop-d-test.false k.4)
