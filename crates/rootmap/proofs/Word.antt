-- Numbers made of bits: cut, joined and counted, for any width.
use mathlib.Core.Path.{◌≡◌, refl, sym, ap, ◌∙◌}
use mathlib.Core.Bool.{Bool, true, false}
use Prim.Native.Nat.{ℕ, zero, suc, ◌+◌, ◌-◌, ◌*◌, ◌/◌, ◌%◌, ◌^◌, ◌≤◌, ◌<◌}
use native.Mathlib.Nat.{pow-zero, pow-succ', div-one, div-div-eq-div-mul, add-zero, zero-add, mul_assoc, mod-lt}
use native.Mathlib.Omega.{arith}
use borrow.Author.Tests.{eqb-true, eqb-false}
use lib.Count.{ones, ones_step}
use lib.Dec.{eqb}
use lib.ListN.{length}
use lib.Pow.{low}
use Rattle.theory.specs.Range.{passing}
use Rattle.theory.specs.RootMap.{bits_from}
use Rattle.theory.proofs.Passing.{passing_most}
use Rattle.theory.proofs.Range.{passing_on, passing_off}
use Rattle.theory.proofs.RootMap.{Bits, bits_lt}
use Rattle.rootmap.specs.inner.Word.{ones_of}

pub not_one : (x : ℕ) → x < 2 → eqb x 1 ≡ false → x ≡ 0
not_one x h e = go (eqb-false x 1 e)
  where
    go : (x ≡ 1 → ⊥) → x ≡ 0
    go n = omega arith

-- a number below 2^k is made of its k bits
pub number_of_bits : (b : ℕ → ℕ) (k x r : ℕ) → x < 2 ^ k → ((i : ℕ) → i < k → x / 2 ^ i % 2 ≡ b (r + i)) → x ≡ bits_from b k r
unfolding bits_from
number_of_bits b zero x r h e = omega (arith, pow-zero 2)
number_of_bits b (suc k) x r h e =
    let first : x % 2 ≡ b r =
    ap (λ (y : ℕ). y % 2) (sym (ap (λ (z : ℕ). x / z) (pow-zero 2) ∙ div-one x)) ∙ e 0 (omega arith) ∙ ap b (add-zero r) in
    let half : x / 2 < 2 ^ k = omega (arith, pow-succ' 2 k) in
    let rest : x / 2 ≡ bits_from b k (suc r) = number_of_bits b k (x / 2) (suc r) half later in
    omega arith
  where
    later : (i : ℕ) → i < k → x / 2 / 2 ^ i % 2 ≡ b (suc r + i)
    later i l =
        let next : r + suc i ≡ suc r + i = omega arith in
        ap (λ (y : ℕ). y % 2) (div-div-eq-div-mul x 2 (2 ^ i) ∙ ap (λ (z : ℕ). x / z) (sym (pow-succ' 2 i)))
        ∙ e (suc i) (omega arith)
        ∙ ap b next

pub bits_none : (b : ℕ → ℕ) (r : ℕ) → 0 ≡ bits_from b 0 r
unfolding bits_from
bits_none b r = refl

-- j bits, and k above them
pub bits_join : (b : ℕ → ℕ) (j k r : ℕ) → bits_from b k (r + j) * 2 ^ j + bits_from b j r ≡ bits_from b (j + k) r
unfolding bits_from
bits_join b zero k r =
    let same : r + 0 ≡ r = omega arith in
    rw (pow-zero 2, same, zero-add k) (omega arith)
bits_join b (suc j) k r =
    let next : r + suc j ≡ suc r + j = omega arith in
    let longer : suc j + k ≡ suc (j + k) = omega arith in
    rw (next, longer) (omega (
      arith,
      bits_join b j k (suc r),
      ap (λ (x : ℕ). bits_from b k (suc r + j) * x) (pow-succ' 2 j),
      sym (mul_assoc (bits_from b k (suc r + j)) 2 (2 ^ j)),
    ))

-- the lowest j of k bits
pub bits_low : (b : ℕ → ℕ) → Bits b → (j k r : ℕ) → j ≤ k → bits_from b k r % 2 ^ j ≡ bits_from b j r
bits_low b h j k r l =
    let all : j + (k - j) ≡ k = omega arith in
    ap (λ (x : ℕ). x % 2 ^ j) (sym (bits_join b j (k - j) r ∙ ap (λ (x : ℕ). bits_from b x r) all))
    ∙ low (bits_from b (k - j) (r + j)) j (bits_lt b h j r)

-- Ones

-- the ones of a number are those of the bits that it is made of
pub ones_of_bits : (b : ℕ → ℕ) → Bits b → (k r : ℕ) → ones (bits_from b k r) ≡ length (passing (λ s. eqb (b s) 1) k r)
unfolding bits_from passing ones
ones_of_bits b h zero r = refl
ones_of_bits b h (suc k) r = go (ones_of_bits b h k (suc r)) (eqb (b r) 1) refl
  where
    x : ℕ
    x = b r + 2 * bits_from b k (suc r)

    step : ones x ≡ b r + ones (bits_from b k (suc r))
    step =
        let first : x % 2 ≡ b r = omega (arith, h r) in
        let rest : x / 2 ≡ bits_from b k (suc r) = omega (arith, h r) in
        ones_step x ∙ rw (first, rest)

    go : ones (bits_from b k (suc r)) ≡ length (passing (λ s. eqb (b s) 1) k (suc r)) → (t : Bool) → eqb (b r) 1 ≡ t
        → ones x ≡ length (passing (λ s. eqb (b s) 1) (suc k) r)
    go ih true e = omega (arith, step, ih, eqb-true (b r) 1 e, ap length (passing_on (λ s. eqb (b s) 1) k r e))
    go ih false e = omega (arith, step, ih, not_one (b r) (h r) e, ap length (passing_off (λ s. eqb (b s) 1) k r e))

-- the machine's count of a word of k bits
pub word_count : (k x : ℕ) → x < 2 ^ k → ones x ≡ ones_of k x
unfolding ones_of
word_count k x h =
    ap ones (number_of_bits bits k x 0 h (λ i l. ap bits (sym (zero-add i))))
    ∙ ones_of_bits bits (λ j. mod-lt (x / 2 ^ j) (omega arith)) k 0
  where
    bits : ℕ → ℕ
    bits j = x / 2 ^ j % 2

-- no more ones than bits
pub ones_of_most : (k x : ℕ) → ones_of k x ≤ k
unfolding ones_of
ones_of_most k x = passing_most (λ j. eqb (x / 2 ^ j % 2) 1) k 0
