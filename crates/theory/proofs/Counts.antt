-- The numbers of solutions at every precision (02, 2.1): what N_j counts, and how all of them are had from counts of residues below pⁿ.
use mathlib.Core.Path.{◌≡◌, refl, sym, ap, ◌∙◌}
use mathlib.Core.Logic.{◌↔◌}
use mathlib.Core.Bool.{Bool}
use mathlib.Core.List.{List, [], ◌∷◌, ◌++◌}
use Prim.Native.Nat.{ℕ, zero, suc, ◌-◌, ◌*◌, ◌^◌, ◌≤◌, ◌<◌}
use native.Mathlib.Nat.{mul_comm}
use native.Mathlib.Omega.{arith}
use native.Mathlib.Decide.{dec_lt}
use lib.IntN.{ℤ}
use lib.ListN.{length, length-append, get_or, get_or-append}
use lib.Seq.{get_or_at}
use Rattle.theory.specs.Lists.{In}
use Rattle.theory.specs.Range.{passing}
use Rattle.theory.specs.Polynomial.{reduced, zeros, roots, valueℤ, Multiple}
use Rattle.theory.specs.Shortest.{count}
use Rattle.theory.specs.Counts.{solutions, counts_below}
use Rattle.theory.proofs.Lists.NoRepeat.{NoRepeat}
use Rattle.theory.proofs.Numbers.Power.{pow_split}
use Rattle.theory.proofs.Range.{passing_sound, passing_complete, passing_no_repeat}
use Rattle.theory.proofs.Passing.{passing_most}
use Rattle.theory.proofs.Sums.{passes_on}
use Rattle.theory.proofs.Counting.{count-one, periods_total}
use Rattle.theory.proofs.Polynomials.Zeros.{zeros-everything, zeros_periodic}
use Rattle.theory.proofs.Polynomials.Lower.{zeros_lower}
use Rattle.theory.proofs.Polynomials.Signed.{root_signed}

-- "the number of residues below p^j at which f is a multiple of p^j", over the integers: the entries of a list that holds exactly these,
-- each once
pub solutions-counted : (f : List ℤ) (p j : ℕ) → 0 < p
    → (l : List ℕ) × (length l ≡ solutions f p j) × NoRepeat l × ((r : ℕ) → In r l ↔ ((r < p ^ j) × Multiple (p ^ j) (valueℤ f r)))
unfolding solutions count
solutions-counted f p j hp = (
  passing (roots f p j) (p ^ j) 0,
  refl,
  passing_no_repeat (roots f p j) (p ^ j) 0,
  λ r. (
    (λ u. let s = passing_sound (roots f p j) (p ^ j) 0 r u in (omega (arith, s.high), (root_signed f p j r hp).0 s.passes)),
    (λ u. passing_complete (roots f p j) (p ^ j) 0 r ((root_signed f p j r hp).1 u.1) (omega arith) (omega (arith, u.0))),
  ),
)

-- "N_0 is 1"
pub solutions_none : (f : List ℤ) (p : ℕ) → solutions f p 0 ≡ 1
unfolding solutions roots
solutions_none f p = count-one (roots f p 0) p ∙ rw (zeros-everything (reduced f p 0) p 0) (passes_on 1)

pub solutions_most : (f : List ℤ) (p j : ℕ) → solutions f p j ≤ p ^ j
unfolding solutions count
solutions_most f p j = passing_most (roots f p j) (p ^ j) 0

-- The row

pub row_length : (f : List ℤ) (p k : ℕ) → length (counts_below f p k) ≡ k
unfolding counts_below
row_length f p zero = refl
row_length f p (suc k) =
    length-append (counts_below f p k) (solutions f p k ∷ []) ∙ rw (row_length f p k) (omega arith)

pub row_at : (f : List ℤ) (p k j : ℕ) → j < k → get_or (counts_below f p k) j 0 ≡ solutions f p j
unfolding counts_below
row_at f p zero j h = absurd (omega arith)
row_at f p (suc k) j h = go (row_at f p k j) (dec_lt j k)
  where
    go : (j < k → get_or (counts_below f p k) j 0 ≡ solutions f p j) → Dec (j < k)
        → get_or (counts_below f p k ++ solutions f p k ∷ []) j 0 ≡ solutions f p j
    go ih (yes u) = get_or-append (counts_below f p k) (solutions f p k ∷ []) 0 j (omega (arith, row_length f p k)) ∙ ih u
    go ih (no u) =
        let e : j ≡ k = omega arith in
        rw e (get_or_at (counts_below f p k) (solutions f p k) [] 0 k (row_length f p k))

-- By one reduction and one range of residues for all

pub solutions-zeros : (f : List ℤ) (p j n : ℕ) → 0 < p → j ≤ n → solutions f p j ≡ count (zeros (reduced f p n) p j) p j
unfolding solutions
solutions-zeros f p j n hp h = ap (λ (S : ℕ → Bool). count S p j) (sym (zeros_lower f p j n hp h))

-- among the residues below pⁿ there are p^(n − j) times as many zeros modulo p^j as below p^j
pub zeros_above : (w : List ℕ) (p j n : ℕ) → j ≤ n → count (zeros w p j) p n ≡ p ^ (n - j) * count (zeros w p j) p j
unfolding count
zeros_above w p j n h =
    ap (λ (x : ℕ). length (passing (zeros w p j) x 0)) (pow_split p h ∙ mul_comm (p ^ (n - j)) (p ^ j))
    ∙ periods_total (zeros w p j) (p ^ j) (zeros_periodic w p j) (p ^ (n - j))
