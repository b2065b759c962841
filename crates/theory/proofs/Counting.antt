-- How many numbers are in a set: digit by digit, and period by period.
use mathlib.Core.Path.{◌≡◌, refl, sym, ap, ap₂, ◌∙◌}
use mathlib.Core.Bool.{Bool, true, false}
use Prim.Native.Nat.{ℕ, zero, suc, ◌+◌, ◌*◌, ◌^◌}
use native.Mathlib.Nat.{zero-add, mul-zero, pow-zero, pow-succ'}
use native.Mathlib.Omega.{arith}
use lib.ListN.{length}
use Rattle.theory.specs.Range.{passing}
use Rattle.theory.specs.Shortest.{count}
use Rattle.theory.specs.Live.{sum_over}
use Rattle.theory.specs.inner.Tree.{branch}
use Rattle.theory.proofs.Range.{passing_none, passing_on, passing_off}
use Rattle.theory.proofs.Passing.{passing-sum, passing-all}
use Rattle.theory.proofs.Sums.{sum_from, sum_none, sum_both, sum_from_lem, sum_same, where_passes, passes_on, passes_off}
use Rattle.theory.proofs.Sums.{sum_over-passing}
use Rattle.theory.proofs.Sums.{length-sum}

-- how many of k numbers pass, as a sum
passing_total : (f : ℕ → Bool) (k i : ℕ) → length (passing f k i) ≡ sum_from (λ c. where_passes (f (c + i)) 1) 0 k
passing_total f k i =
    length-sum (passing f k i)
    ∙ sum_over-passing f (λ c. 1) k i
    ∙ ap (λ (x : ℕ). sum_from (λ c. where_passes (f c) 1) x k) (sym (zero-add i))
    ∙ sum_from_lem (λ c. where_passes (f c) 1) k 0 i

one_there : (f : ℕ → Bool) (i : ℕ) → where_passes (f i) 1 ≡ length (passing f 1 i)
unfolding passing where_passes
one_there f i = go (f i) refl
  where
    go : (b : Bool) → f i ≡ b → where_passes (f i) 1 ≡ length (passing f 1 i)
    go true e = rw (e, passing_on f 0 i e)
    go false e = rw (e, passing_off f 0 i e)

-- k numbers and one more
one_more : (f : ℕ → Bool) (k : ℕ) → length (passing f k 0) + length (passing f 1 k) ≡ length (passing f (suc k) 0)
one_more f k =
    let n : k + 1 ≡ suc k = omega arith in
    ap (λ (x : ℕ). length (passing f k 0) + length (passing f 1 x)) (sym (zero-add k))
    ∙ sym (passing-sum f k 1 0)
    ∙ ap (λ (x : ℕ). length (passing f x 0)) n

-- Digit by digit

-- the numbers below p·k, by their last digits
digits_total : (S : ℕ → Bool) (p k : ℕ) → length (passing S (p * k) 0) ≡ sum_from (λ c. length (passing (branch S p c) k 0)) 0 p
unfolding passing
digits_total S p zero = rw (mul-zero p) (sym (sum_none p 0))
digits_total S p (suc k) =
    let e : p * suc k ≡ p * k + p = omega arith in
    let last : length (passing S p (p * k)) ≡ sum_from (λ c. length (passing (branch S p c) 1 k)) 0 p =
    passing_total S p (p * k)
    ∙ sum_same (λ c. where_passes (S (c + p * k)) 1) (λ c. length (passing (branch S p c) 1 k)) p 0
    (λ c l b. one_there (branch S p c) k) in
    ap (λ (x : ℕ). length (passing S x 0)) e
    ∙ passing-sum S (p * k) p 0
    ∙ ap₂ (λ (x y : ℕ). x + y) (digits_total S p k) (ap (λ (x : ℕ). length (passing S p x)) (zero-add (p * k)) ∙ last)
    ∙ sym (sum_both (λ c. length (passing (branch S p c) k 0)) (λ c. length (passing (branch S p c) 1 k)) p 0)
    ∙ sum_same (λ c. length (passing (branch S p c) k 0) + length (passing (branch S p c) 1 k))
    (λ c. length (passing (branch S p c) (suc k) 0)) p 0 (λ c l b. one_more (branch S p c) k)

-- a set with no element
pub count_none : (S : ℕ → Bool) (p n : ℕ) → ((y : ℕ) → S y ≡ false) → count S p n ≡ 0
unfolding count
count_none S p n none = ap length (passing_none S (p ^ n) 0 (λ x l b. none x))

-- and one with every number
pub count-all : (S : ℕ → Bool) (p n : ℕ) → ((y : ℕ) → S y ≡ true) → count S p n ≡ p ^ n
unfolding count
count-all S p n all = passing-all S (p ^ n) 0 (λ x l b. all x)

-- below p^0 there is one number
pub count-one : (S : ℕ → Bool) (p : ℕ) → count S p 0 ≡ where_passes (S 0) 1
unfolding count
count-one S p = rw (pow-zero p) (sym (one_there S 0))

-- over the digits that pass a test, where the others hold nothing
pub count_digits : (S : ℕ → Bool) (p l : ℕ) (test : ℕ → Bool) → ((c : ℕ) → test c ≡ false → (y : ℕ) → branch S p c y ≡ false)
    → count S p (suc l) ≡ sum_over (λ c. count (branch S p c) p l) (passing test p 0)
unfolding count
count_digits S p l test none =
    ap (λ (x : ℕ). length (passing S x 0)) (pow-succ' p l)
    ∙ digits_total S p (p ^ l)
    ∙ sum_same (λ c. count (branch S p c) p l) (λ c. where_passes (test c) (count (branch S p c) p l)) p 0
    (λ c low high. each c (test c) refl)
    ∙ sym (sum_over-passing test (λ c. count (branch S p c) p l) p 0)
  where
    each : (c : ℕ) (b : Bool) → test c ≡ b → count (branch S p c) p l ≡ where_passes (test c) (count (branch S p c) p l)
    each c true e = rw e (sym (passes_on (count (branch S p c) p l)))
    each c false e = rw e (count_none (branch S p c) p l (none c e) ∙ sym (passes_off (count (branch S p c) p l)))

-- Period by period

-- k periods of m numbers
pub periods_total : (S : ℕ → Bool) (m : ℕ) → ((x k : ℕ) → S (x + m * k) ≡ S x) → (k : ℕ)
    → length (passing S (m * k) 0) ≡ k * length (passing S m 0)
unfolding passing
periods_total S m same zero = rw (mul-zero m) (omega arith)
periods_total S m same (suc k) =
    let e : m * suc k ≡ m * k + m = omega arith in
    let z : (x : ℕ) → x + 0 ≡ x = λ x. omega arith in
    let next : length (passing S m (m * k)) ≡ length (passing S m 0) =
    passing_total S m (m * k)
    ∙ sum_same (λ c. where_passes (S (c + m * k)) 1) (λ c. where_passes (S (c + 0)) 1) m 0
    (λ c l b. ap (λ (t : Bool). where_passes t 1) (same c k ∙ ap S (sym (z c))))
    ∙ sym (passing_total S m 0) in
    ap (λ (x : ℕ). length (passing S x 0)) e
    ∙ passing-sum S (m * k) m 0
    ∙ ap₂ (λ (x y : ℕ). x + y) (periods_total S m same k) (ap (λ (x : ℕ). length (passing S m x)) (zero-add (m * k)) ∙ next)
    ∙ omega arith
