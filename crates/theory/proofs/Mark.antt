-- Marks: one value of the derivative modulo p tells at level 1 and above, and p values do at level 0.
use mathlib.Core.Path.{◌≡◌, refl, sym, ap, ap₂, ◌∙◌}
use mathlib.Core.Logic.{◌⊎◌, inl, inr}
use mathlib.Core.Bool.{Bool, true, false, not}
use mathlib.Core.List.{List}
use Prim.Native.Nat.{ℕ, suc, ◌+◌, ◌-◌, ◌*◌, ◌^◌, ◌≤◌, ◌<◌}
use native.Mathlib.Nat.{dvd-zero, eq-zero-or-pos, zero-div}
use native.Mathlib.Omega.{arith}
use lib.Dec.{eqb}
use lib.IntN.{ℤ}
use borrow.Author.Tests.{not-true, not-false}
use Rattle.theory.specs.Range.{all_below}
use Rattle.theory.specs.Prime.{divides}
use Rattle.theory.specs.Polynomial.{reduced, value, vanishes, derivative}
use Rattle.theory.specs.Degree.{least_valuation, all_zero, primitive}
use Rattle.theory.specs.Class.{Class, IsClass, Member}
use Rattle.theory.specs.Shortest.{is_whole}
use Rattle.theory.specs.Mark.{mark_by, mark_over, mark_of, mark}
use Rattle.theory.specs.inner.Polynomial.{coef}
use Rattle.theory.proofs.Tests.{contradiction, not_holding}
use Rattle.theory.proofs.Numbers.Power.{pow_pos}
use Rattle.theory.proofs.Numbers.Prime.{dvd_divides}
use Rattle.theory.proofs.Range.{all_elim, all_constant}
use Rattle.theory.proofs.Polynomials.Arithmetic.{dvd_value}
use Rattle.theory.proofs.Polynomials.Congruence.{cong_argument}
use Rattle.theory.proofs.Polynomials.Derivative.{coef-derivative}
use Rattle.theory.proofs.Polynomials.Primitive.{coef-primitive}
use Rattle.theory.proofs.Polynomials.Highest.{all_zero-coef}
use Rattle.theory.proofs.Classes.Whole.{whole-elim, whole-fails}
use Rattle.theory.proofs.Classes.Periodic.{Periodic, whole-deep, whole_top}

-- The three marks, by the numbers below k that pass a test

pub mark_by_most : (none all : Bool) → mark_by none all ≤ 2
unfolding mark_by
mark_by_most true all = omega arith
mark_by_most false true = omega arith
mark_by_most false false = omega arith

mark_by-one : (none all : Bool) → mark_by none all ≡ 1 → none ≡ true
unfolding mark_by
mark_by-one true all e = refl
mark_by-one false true e = absurd (omega arith)
mark_by-one false false e = absurd (omega arith)

mark_by_zero : (none all : Bool) → mark_by none all ≡ 0 → all ≡ true
unfolding mark_by
mark_by_zero true all e = absurd (omega arith)
mark_by_zero false true e = refl
mark_by_zero false false e = absurd (omega arith)

mark_by_two : (none all : Bool) → mark_by none all ≡ 2 → (none ≡ false) × (all ≡ false)
unfolding mark_by
mark_by_two true all e = absurd (omega arith)
mark_by_two false true e = absurd (omega arith)
mark_by_two false false e = (refl, refl)

mark_by-single : (b : Bool) → ¬ (mark_by (not b) b ≡ 2)
unfolding mark_by
mark_by-single true e = omega arith
mark_by-single false e = omega arith

-- the mark of one value tells whether it passes
pub mark_by_told : (b c : Bool) → mark_by (not b) b ≡ mark_by (not c) c → b ≡ c
unfolding mark_by
mark_by_told true true e = refl
mark_by_told true false e = absurd (omega arith)
mark_by_told false true e = absurd (omega arith)
mark_by_told false false e = refl

module _ (test : ℕ → Bool) (k : ℕ) where
  abbrev pub mark_below : ℕ
  mark_below = mark_by (all_below (λ i. not (test i)) k) (all_below test k)

  -- where all take one value it is the mark of that value
  pub mark-constant : (b : Bool) → 0 < k → ((i : ℕ) → i < k → test i ≡ b) → mark_below ≡ mark_by (not b) b
  mark-constant b pos h =
      ap₂ mark_by (all_constant (λ i. not (test i)) k (not b) pos (λ i l. ap not (h i l))) (all_constant test k b pos h)

  -- where two differ it is 2
  pub mark-mixed : (i j : ℕ) → i < k → test i ≡ true → j < k → test j ≡ false → mark_below ≡ 2
  unfolding mark_by
  mark-mixed i j l e m f =
      let none : all_below (λ x. not (test x)) k ≡ false =
      not_holding (all_below (λ x. not (test x)) k) (λ a. contradiction e (not-true (test i) (all_elim (λ x. not (test x)) k i a l))) in
      let all : all_below test k ≡ false = not_holding (all_below test k) (λ a. contradiction (all_elim test k j a m) f) in
      rw (none, all)

-- The mark of a class, for a set that is told by the residue modulo p

module _ (S : ℕ → Bool) (p n : ℕ) (hp : 0 < p) (periodic : Periodic S p) where
  outside : Periodic (λ r. not (S r)) p
  outside x y e = ap not (periodic x y e)

  pub mark-deep : (c : Class) → 0 < c.level → mark_over S p n c ≡ mark_by (not (S c.residue)) (S c.residue)
  unfolding mark_over
  mark-deep c deep = ap₂ mark_by (whole-deep (λ r. not (S r)) p n hp outside c deep) (whole-deep S p n hp periodic c deep)

  pub mark-top : (c : Class) → c.level ≡ 0 → 0 < n → mark_over S p n c ≡ mark_below S p
  unfolding mark_over
  mark-top c top pos =
      rw top (ap₂ mark_by (whole_top (λ r. not (S r)) p n hp outside c.residue pos) (whole_top S p n hp periodic c.residue pos))

-- such a set are the numbers at which a polynomial vanishes modulo p
pub vanishes_periodic : (p : ℕ) (f : List ℕ) → Periodic (vanishes p f) p
unfolding vanishes divides
vanishes_periodic p f x y e = ap (λ (z : ℕ). eqb z 0) (cong_argument f e).same

-- Where all coefficients are zero the derivative vanishes everywhere, so that the other clause gives 0 too

pub zero_vanishes : (p : ℕ) (f : List ℕ) → ((i : ℕ) → coef f i ≡ 0) → (r : ℕ) → vanishes p f r ≡ true
unfolding vanishes
zero_vanishes p f z r = dvd_divides p (value f r) (dvd_value p f r (λ i. rw (z i) (dvd-zero p)))

derivative_zero : (p : ℕ) (w : List ℕ) → all_zero w ≡ true → (i : ℕ) → coef (derivative (primitive p w)) i ≡ 0
derivative_zero p w z i =
    let q = p ^ least_valuation p w in
    let none : coef (primitive p w) (suc i) ≡ 0 = coef-primitive p w (suc i) ∙ rw (all_zero-coef w z (suc i)) (zero-div q) in
    coef-derivative (primitive p w) i ∙ rw none (omega arith)

pub derivative-vanishes : (p : ℕ) (w : List ℕ) → all_zero w ≡ true → (r : ℕ) → vanishes p (derivative (primitive p w)) r ≡ true
derivative-vanishes p w z r = zero_vanishes p (derivative (primitive p w)) (derivative_zero p w z) r

module _ (w : List ℕ) (p n : ℕ) (hp : 0 < p) where
  pub mark-over : (c : Class) → mark_of w p n c ≡ mark_over (vanishes p (derivative (primitive p w))) p n c
  unfolding mark_of mark_over is_whole mark_by
  mark-over c = go (all_zero w) refl
    where
      go : (b : Bool) → all_zero w ≡ b → mark_of w p n c ≡ mark_over (vanishes p (derivative (primitive p w))) p n c
      go true z =
          let d = derivative (primitive p w) in
          rw (z, mark_of)
          (sym (mark-constant (λ i. vanishes p d (c.residue + i * p ^ c.level)) (p ^ (n - c.level)) true
          (pow_pos p hp (n - c.level)) (λ i l. derivative-vanishes p w z (c.residue + i * p ^ c.level))))
      go false z = rw (z, mark_of)

  -- "If all coefficients reduce to zero the mark is 0"
  pub mark-all-zero : all_zero w ≡ true → (c : Class) → mark_of w p n c ≡ 0
  unfolding mark_of
  mark-all-zero z c = rw (z, mark_of)

  pub mark-of-most : (c : Class) → mark_of w p n c ≤ 2
  unfolding mark_over
  mark-of-most c =
      let S = vanishes p (derivative (primitive p w)) in
      rw (mark-over c) (mark_by_most (is_whole (λ r. not (S r)) p n c) (is_whole S p n c))

  -- 2 is a mark of level 0 only
  pub mark-two : (c : Class) → mark_of w p n c ≡ 2 → c.level ≡ 0
  mark-two c e = go (eq-zero-or-pos c.level)
    where
      S : ℕ → Bool
      S = vanishes p (derivative (primitive p w))

      go : (c.level ≡ 0) ⊎ (0 < c.level) → c.level ≡ 0
      go (inl z) = z
      go (inr deep) =
          let periodic = vanishes_periodic p (derivative (primitive p w)) in
          absurd (mark_by-single (S c.residue) (sym (mark-deep S p n hp periodic c deep) ∙ sym (mark-over c) ∙ e))

-- What a mark says of the members

module _ (w : List ℕ) (p n : ℕ) (hp : 0 < p) (c : Class) (k : IsClass p n c) where
  abbrev S : ℕ → Bool
  S = vanishes p (derivative (primitive p w))

  parts : (m : ℕ) → mark_of w p n c ≡ m → mark_by (is_whole (λ r. not (S r)) p n c) (is_whole S p n c) ≡ m
  unfolding mark_over
  parts m e = sym (mark-over w p n hp c) ∙ e

  pub mark-one-none : mark_of w p n c ≡ 1 → (r : ℕ) → Member p n c r → vanishes p (derivative (primitive p w)) r ≡ false
  mark-one-none e r m =
      let none = mark_by-one (is_whole (λ x. not (S x)) p n c) (is_whole S p n c) (parts 1 e) in
      not-true (S r) (whole-elim (λ x. not (S x)) p n hp c k.level_fits none r m)

  pub mark-zero-all : mark_of w p n c ≡ 0 → (r : ℕ) → Member p n c r → vanishes p (derivative (primitive p w)) r ≡ true
  mark-zero-all e r m =
      whole-elim S p n hp c k.level_fits (mark_by_zero (is_whole (λ x. not (S x)) p n c) (is_whole S p n c) (parts 0 e)) r m

  pub mark-two-some : mark_of w p n c ≡ 2
      → ((r : ℕ) × Member p n c r × (vanishes p (derivative (primitive p w)) r ≡ true))
      × ((r : ℕ) × Member p n c r × (vanishes p (derivative (primitive p w)) r ≡ false))
  mark-two-some e =
      let both = mark_by_two (is_whole (λ x. not (S x)) p n c) (is_whole S p n c) (parts 2 e) in
      let (r, m, u) = whole-fails (λ x. not (S x)) p n hp c k both.0 in
      ((r, m, not-false (S r) u), whole-fails S p n hp c k both.1)

-- what rule 7 lets the writer take
pub mark_most : (f : List ℤ) (p n : ℕ) (c : Class) → 0 < p → mark f p n c ≤ 2
unfolding mark
mark_most f p n c hp = mark-of-most (reduced f p n) p n hp c
