-- The numbers of zeros modulo every power of p at a node: of a polynomial that is settled at once, of the quotient by a power of p, and
-- digit by digit.
use mathlib.Core.Path.{◌≡◌, refl, sym, ap, ap₂, ◌∙◌, fun_ext}
use mathlib.Core.Bool.{Bool, true, false}
use mathlib.Core.List.{List, []}
use Prim.Native.Nat.{ℕ, zero, suc, ◌+◌, ◌-◌, ◌/◌, ◌^◌, ◌≤◌, ◌<◌, ◌∣◌}
use native.Mathlib.Nat.{dvd-zero, dvd_trans, pow-zero, mod-eq-zero_of_dvd, mul-div_cancel_left}
use native.Mathlib.Omega.{arith}
use native.Mathlib.Decide.{ℕ_discrete}
use lib.ListN.{length, get_or, take}
use Rattle.theory.specs.Polynomial.{vanishes, zeros}
use Rattle.theory.specs.Degree.{least_valuation, primitive, all_zero}
use Rattle.theory.specs.Shortest.{count}
use Rattle.theory.specs.Taylor.{shifted}
use Rattle.theory.specs.Live.{sum_over}
use Rattle.theory.specs.inner.Tree.{branch}
use Rattle.theory.specs.inner.Polynomial.{coef}
use Rattle.theory.proofs.Lists.Overwritten.{written_same}
use Rattle.theory.proofs.Tests.{contradiction, not_holding}
use Rattle.theory.proofs.Numbers.Power.{pow_pos, pow_dvd}
use Rattle.theory.proofs.Numbers.Valuation.{valuation-dvd, le-valuation}
use Rattle.theory.proofs.Passing.{passing_most}
use Rattle.theory.proofs.Sums.{passes_on, passes_off, sum_over_next, sum_over_taken}
use Rattle.theory.proofs.Counting.{count-all, count-one, count_digits}
use Rattle.theory.proofs.Counts.{zeros_above}
use Rattle.theory.proofs.Polynomials.Arithmetic.{value_zero, dvd_value}
use Rattle.theory.proofs.Polynomials.Degree.{least-valuation-dvd}
use Rattle.theory.proofs.Polynomials.Zeros.{zero_dvd, dvd_zero_at, zeros-all, zeros-branch, no_zero_below, zeros-everything}
use Rattle.solver.specs.declared.tree.PrimePower.{PrimePower}
use Rattle.solver.specs.declared.tree.Node.{Node}
use Rattle.solver.specs.inner.Table.{lower_of, zero_digits}
use Rattle.solver.specs.inner.Counts.{zeros_at, Room, scaled}
use Rattle.solver.proofs.Lowest.{lower_zero, lower_min}
use Rattle.solver.proofs.Added.{Plus, plus-both}
use Rattle.solver.proofs.Settling.{Quotient}
use Rattle.solver.proofs.Zeros.{vanishes_on}

module _ (f : List ℕ) (p levels : ℕ) where
  -- where all coefficients are zero, everything is
  pub zeros-finished : all_zero f ≡ true → (i : ℕ) → zeros_at f p levels i ≡ p ^ levels
  unfolding zeros_at
  zeros-finished z i = count-all (zeros f p (suc i)) p levels (zeros-all f p (suc i) z)

  -- and so is it modulo the powers of p that divide all coefficients
  pub zeros-content : 2 ≤ p → (i : ℕ) → i < least_valuation p f → zeros_at f p levels i ≡ p ^ levels
  unfolding zeros_at
  zeros-content two i h =
      count-all (zeros f p (suc i)) p levels (λ y.
      dvd_zero_at f p (suc i) y
      (dvd_value (p ^ suc i) f y (λ k. dvd_trans (p ^ suc i) (pow_dvd p h) (least-valuation-dvd p two f k))))

-- At the last level there is one number, 0: it is a zero modulo the powers of p that divide the constant coefficient

module _ (f : List ℕ) (p : ℕ) (two : 2 ≤ p) (e : ℕ) where
  abbrev v : ℕ
  v = lower_of p e (coef f 0)

  pub lower-most : lower_of p e (coef f 0) ≤ e
  lower-most = go (ℕ_discrete (coef f 0) 0)
    where
      go : Dec (coef f 0 ≡ 0) → v ≤ e
      go (yes q) = omega (arith, lower_zero p e (coef f 0) q)
      go (no q) = omega (arith, lower_min p e (coef f 0) q)

  divides-constant : (i : ℕ) → suc i ≤ v → p ^ suc i ∣ coef f 0
  divides-constant i h = go (ℕ_discrete (coef f 0) 0)
    where
      go : Dec (coef f 0 ≡ 0) → p ^ suc i ∣ coef f 0
      go (yes q) = rw q (dvd-zero (p ^ suc i))
      go (no q) =
          dvd_trans (p ^ suc i) (pow_dvd p (omega (arith, lower_min p e (coef f 0) q))) (valuation-dvd p two (coef f 0))

  pub last-in : (i : ℕ) → i < lower_of p e (coef f 0) → zeros_at f p 0 i ≡ p ^ 0
  unfolding zeros_at
  last-in i h =
      count-one (zeros f p (suc i)) p
      ∙ rw (dvd_zero_at f p (suc i) 0 (rw (value_zero f) (divides-constant i h)), pow-zero p) (passes_on 1)

  pub last_out : (i : ℕ) → lower_of p e (coef f 0) ≤ i → i < e → zeros_at f p 0 i ≡ 0
  unfolding zeros_at
  last_out i low high = count-one (zeros f p (suc i)) p ∙ rw none (passes_off 1)
    where
      no-multiple : p ^ suc i ∣ coef f 0 → Dec (coef f 0 ≡ 0) → ⊥
      no-multiple d (yes q) = omega (arith, lower_zero p e (coef f 0) q)
      no-multiple d (no q) =
          omega (arith, lower_min p e (coef f 0) q, le-valuation p two (coef f 0) (suc i) (omega arith) d)

      none : zeros f p (suc i) 0 ≡ false
      none =
          not_holding (zeros f p (suc i) 0) (λ u.
          no-multiple (rw (value_zero f) at (zero_dvd f p (suc i) 0 u)) (ℕ_discrete (coef f 0) 0))

-- After the division by p^s, one power for another
pub zeros-quotient : {f : List ℕ} {M : PrimePower} {x : Node} → Quotient f M x → (levels i : ℕ)
    → zeros_at f M.p levels (least_valuation M.p f + i) ≡ zeros_at (primitive M.p f) M.p levels i
unfolding zeros_at
zeros-quotient {f} {M} Q levels i =
    let e : suc (least_valuation M.p f + i) ≡ least_valuation M.p f + suc i = omega arith in
    ap (λ (k : ℕ). count (zeros f M.p k) M.p levels) e
    ∙ ap (λ (S : ℕ → Bool). count S M.p levels) (Q.same_zeros (suc i))

-- Digit by digit

-- below the digit c
abbrev pub below : List ℕ → ℕ → (levels : ℕ) → ℕ → ℕ → ℕ
below h p levels i c = zeros_at (shifted c p h) p levels i

pub zeros_digits : (h : List ℕ) (p l i : ℕ) → zeros_at h p (suc l) i ≡ sum_over (below h p l i) (zero_digits p h)
unfolding zeros_at
zeros_digits h p l i =
    count_digits (zeros h p (suc i)) p l (vanishes p h) none
    ∙ ap (λ (F : ℕ → ℕ). sum_over F (zero_digits p h)) (fun_ext (λ c. ap (λ (S : ℕ → Bool). count S p l) (zeros-branch h p (suc i) c)))
  where
    none : (c : ℕ) → vanishes p h c ≡ false → (y : ℕ) → branch (zeros h p (suc i)) p c y ≡ false
    none c e = no_zero_below h p (suc i) c (omega arith) (λ d. contradiction (vanishes_on p h c (mod-eq-zero_of_dvd p d)) e)

-- The loop over the digits: after some of them
module _ (h : List ℕ) (p l : ℕ) where
  abbrev so_far : List ℕ → ℕ → ℕ
  so_far digits i = sum_over (below h p l i) digits

  pub digits-none : (e : ℕ) (counts : List ℕ) → Plus (so_far []) e counts counts
  unfolding sum_over
  digits-none e counts =
      record {
        long = refl;
        inside = λ k low high. omega arith;
        below = λ k u. refl;
        above = λ k u. refl;
      }

  module _ {M : PrimePower} {x : Node} (digits : List ℕ) (p_is : M.p ≡ p) (left : x.left ≡ suc l) (i : ℕ) (i_lt : i < length digits)
      (all : digits ≡ zero_digits p h) {counts₀ counts : List ℕ} (room : Room h M x counts₀)
      (so : Plus (so_far (take i digits)) M.exponent counts₀ counts) (g : List ℕ)
      (same : (k : ℕ) → k < M.exponent → zeros_at g p l k ≡ below h p l k (get_or digits i 0)) where
    one_more : (k : ℕ) → so_far (take (i + 1) digits) k ≡ so_far (take i digits) k + below h p l k (get_or digits i 0)
    one_more k = sum_over_next (below h p l k) digits i (omega arith)

    most : (k : ℕ) → so_far (take (i + 1) digits) k ≤ zeros_at h M.p x.left k
    most k =
        omega (
          arith,
          ap (λ (d : List ℕ). so_far (take (i + 1) d) k) all,
          sum_over_taken (below h p l k) (i + 1) (zero_digits p h),
          zeros_digits h p l k,
          ap₂ (λ (q n : ℕ). zeros_at h q n k) p_is left,
        )

    -- the counts below the next digit have room
    pub digits-room : (k : ℕ) → k < M.exponent → get_or counts k 0 + zeros_at g p l k < 18446744073709551616
    digits-room k u = omega (arith, so.inside k (omega arith) u, same k u, one_more k, most k, room.fits k u)

    -- and once they are added, one digit more is done
    pub digits-next : {counts' : List ℕ} → Plus (zeros_at g p l) M.exponent counts counts'
        → Plus (so_far (take (i + 1) digits)) M.exponent counts₀ counts'
    digits-next b =
        plus-both (so_far (take i digits)) (zeros_at g p l) (so_far (take (i + 1) digits)) so b
        (λ k u. one_more k ∙ ap (λ (y : ℕ). so_far (take i digits) k + y) (sym (same k u)))

  -- all digits are done
  pub digits-all : {e : ℕ} {counts₀ counts : List ℕ} → Plus (so_far (zero_digits p h)) e counts₀ counts
      → Plus (zeros_at h p (suc l)) e counts₀ counts
  digits-all {counts₀} so = written_same (λ k low high. ap (λ (y : ℕ). get_or counts₀ k 0 + y) (sym (zeros_digits h p l k))) so

-- At the top: all residues below pⁿ

pub zeros_most : (f : List ℕ) (p levels i : ℕ) → zeros_at f p levels i ≤ p ^ levels
unfolding zeros_at count
zeros_most f p levels i = passing_most (zeros f p (suc i)) (p ^ levels) 0

-- N_j by the counts of all
pub scaled_is : (w : List ℕ) (p n : ℕ) → 0 < p → (Z : List ℕ) → ((k : ℕ) → k < n → get_or Z k 0 ≡ zeros_at w p n k) → (j : ℕ) → j < suc n
    → scaled p n Z j ≡ count (zeros w p j) p j
unfolding zeros_at
scaled_is w p n hp Z all zero h = sym (count-one (zeros w p 0) p ∙ rw (zeros-everything w p 0) (passes_on 1))
scaled_is w p n hp Z all (suc j) h =
    let above = zeros_above w p (suc j) n (omega arith) in
    ap (λ (y : ℕ). y / p ^ (n - suc j)) (all j (omega arith) ∙ above)
    ∙ mul-div_cancel_left (count (zeros w p (suc j)) p (suc j)) (pow_pos p hp (n - suc j))
