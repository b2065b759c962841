-- `most_classes`: the classes of the zeros of f are at most so many, and below a digit that is at most the order of f there.
use mathlib.Core.Path.{◌≡◌, refl, ap}
use mathlib.Core.Bool.{Bool, true, false}
use mathlib.Core.List.{List}
use Prim.Native.Nat.{ℕ, suc, ◌^◌, ◌≤◌, ◌<◌}
use native.Mathlib.Decide.{dec_lt}
use native.Mathlib.Nat.{dvd-zero}
use native.Mathlib.Omega.{arith}
use lib.ListN.{length}
use Rattle.theory.specs.Prime.{Prime}
use Rattle.theory.specs.Polynomial.{zeros}
use Rattle.theory.specs.Degree.{least_valuation, degree_bound, all_zero}
use Rattle.theory.specs.inner.Tree.{tree}
use Rattle.theory.specs.Taylor.{taylor, shifted}
use Rattle.theory.specs.inner.Polynomial.{Degree}
use Rattle.theory.proofs.Numbers.Power.{pow_dvd}
use Rattle.theory.proofs.Numbers.Congruence.{cong_down}
use Rattle.theory.proofs.Range.{all_intro}
use Rattle.theory.proofs.Classes.Tree.{tree_whole}
use Rattle.theory.proofs.Polynomials.Congruence.{SameModulo, degree_same}
use Rattle.theory.proofs.Polynomials.Zeros.{zeros-all}
use Rattle.theory.proofs.Polynomials.Orders.{AtMostOrder}
use Rattle.theory.proofs.Polynomials.Highest.{all_zero-coef}
use Rattle.theory.proofs.Polynomials.Bound.{tree-at-most, degree-shifted}
use Rattle.theory.proofs.Polynomials.Degree.{degree-bound-degree, degree-bound-least, degree-bound-lt, least-valuation-lt}
use Rattle.solver.specs.inner.Table.{Below}
use Rattle.solver.specs.inner.Recursion.{most_classes}
use Rattle.solver.proofs.Tables.{below_entry}

most_zero : (p : ℕ) (f : List ℕ) → all_zero f ≡ true → most_classes p f ≡ 1
unfolding most_classes
most_zero p f e = rw (e, most_classes)

pub most_some : (p : ℕ) (f : List ℕ) → all_zero f ≡ false → most_classes p f ≡ degree_bound p f
unfolding most_classes
most_some p f e = rw (e, most_classes)

module _ (p : ℕ) (P : Prime p) where
  -- a bound by the length
  pub most-length : (f : List ℕ) (n : ℕ) → 0 < n → length f ≤ suc n → most_classes p f ≤ n
  most-length f n pos h = go (all_zero f) refl
    where
      go : (t : Bool) → all_zero f ≡ t → most_classes p f ≤ n
      go true z = omega (arith, most_zero p f z)
      go false z = omega (arith, most_some p f z, degree-bound-lt p P.two f z)

  -- and by a degree
  most-degree : (f : List ℕ) (k d : ℕ) → Degree (p ^ suc k) f d → most_classes p f ≤ d
  most-degree f k d D = go (all_zero f) refl
    where
      go : (t : Bool) → all_zero f ≡ t → most_classes p f ≤ d
      go true z = absurd (D.lead (rw (all_zero-coef f z d) (dvd-zero (p ^ suc k))))
      go false z = rw (most_some p f z) (degree-bound-least p P.two f z k d D)

  pub tree-most : (f : List ℕ) (e l : ℕ) → Below (p ^ e) f → length (tree (zeros f p e) p l) ≤ most_classes p f
  tree-most f e l b = go (all_zero f) refl
    where
      go : (t : Bool) → all_zero f ≡ t → length (tree (zeros f p e) p l) ≤ most_classes p f
      go true z =
          omega (
            arith,
            most_zero p f z,
            ap length (tree_whole (zeros f p e) p l (all_intro (zeros f p e) (p ^ l) (λ y u. zeros-all f p e z y))),
          )
      go false z =
          rw (most_some p f z)
          (tree-at-most p P e l (least_valuation p f) (degree_bound p f) f
          (least-valuation-lt p P.two f z e (below_entry (p ^ e) f b)) (degree-bound-degree p P.two f z))

  -- where g is f(c + p·y) modulo p^e, with e coefficients at most
  pub most-order : (e c : ℕ) (f g : List ℕ) → 0 < e → length g ≤ e → SameModulo (p ^ e) g (shifted c p f)
      → AtMostOrder p (most_classes p g) (taylor c f)
  most-order e c f g pos short same m w = go (dec_lt m e)
    where
      go : Dec (m < e) → most_classes p g ≤ m
      go (yes l) = most-degree g m m (degree_same (λ i. cong_down (pow_dvd p l) (same i)) (degree-shifted p P f c m w))
      go (no l) = most-length g m (omega arith) (omega arith)
