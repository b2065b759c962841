-- The zeros of a polynomial modulo p among the digits.
use mathlib.Core.Path.{◌≡◌, sym, ap, ◌∙◌}
use mathlib.Core.Bool.{true, false, not}
use mathlib.Core.List.{List, [], ◌∷◌, ◌++◌}
use Prim.Native.Nat.{ℕ, ◌+◌, ◌%◌, ◌≤◌, ◌<◌}
use native.Mathlib.Nat.{dvd-zero, le_trans}
use native.Mathlib.Omega.{arith}
use borrow.Author.Tests.{not-false, not-true}
use lib.ListN.{length, take, set, length-append, length-set}
use Rattle.theory.specs.Range.{passing}
use Rattle.theory.specs.Prime.{divides, Prime}
use Rattle.theory.specs.Polynomial.{value, vanishes}
use Rattle.theory.specs.Degree.{highest}
use Rattle.theory.specs.inner.Polynomial.{coef, Degree}
use Rattle.theory.proofs.Tests.{contradiction}
use Rattle.theory.proofs.Passing.{passing_shorter, passing_next_on, passing_next_off}
use Rattle.theory.proofs.Lists.Fill.{take_set_next}
use Rattle.theory.proofs.Numbers.Prime.{dvd_divides, divides_dvd, divides_on, divides_off}
use Rattle.theory.proofs.Polynomials.Highest.{above_highest, highest_passes, highest-lt}
use Rattle.theory.proofs.Polynomials.Lagrange.{lagrange}
use Rattle.solver.specs.inner.Table.{prime_to, degree_modulo, nonzero_modulo}

pub vanishes_on : (p : ℕ) (f : List ℕ) (c : ℕ) → value f c % p ≡ 0 → vanishes p f c ≡ true
unfolding vanishes
vanishes_on p f c e = divides_on p (value f c) e

pub vanishes_off : (p : ℕ) (f : List ℕ) (c : ℕ) → (value f c % p ≡ 0 → ⊥) → vanishes p f c ≡ false
unfolding vanishes
vanishes_off p f c ne = divides_off p (value f c) ne

-- at most as many as the degree
pub few : (p d : ℕ) (f : List ℕ) → Prime p → Degree p f d → (k : ℕ) → k ≤ p → length (passing (vanishes p f) k 0) ≤ d
few p d f P D k h = le_trans (passing_shorter (vanishes p f) k p h) (lagrange p P d f D)

-- the digits below c at which f vanishes are found, in the first `count` slots
pub record Found (p c count : ℕ) (f slots₀ slots : List ℕ) : Type 0 where
  pub long : length slots ≡ length slots₀
  pub number : count ≡ length (passing (vanishes p f) c 0)
  pub entries : take count slots ≡ passing (vanishes p f) c 0

module _ {p c count d : ℕ} {f slots₀ slots : List ℕ} (P : Prime p) (D : Degree p f d) (k : Found p c count f slots₀ slots) where
  pub found-few : c ≤ p → count ≤ d
  found-few h = omega (arith, k.number, few p d f P D c h)

  -- so there is room for one more
  pub found-room : c < p → value f c % p ≡ 0 → count < d
  found-room h e =
      omega (
        arith,
        k.number,
        few p d f P D (c + 1) (omega arith),
        ap length (passing_next_on (vanishes p f) c (vanishes_on p f c e)),
        length-append (passing (vanishes p f) c 0) (c ∷ []),
      )

  pub found-on : c < p → d ≤ length slots₀ → value f c % p ≡ 0 → Found p (c + 1) (count + 1) f slots₀ (set slots count c)
  found-on h room e =
      let next = passing_next_on (vanishes p f) c (vanishes_on p f c e) in
      record {
        long = length-set slots count c ∙ k.long;
        number = omega (arith, k.number, ap length next, length-append (passing (vanishes p f) c 0) (c ∷ []));
        entries = take_set_next slots count c (omega (arith, k.long, found-room h e)) ∙ ap (λ (l : List ℕ). l ++ (c ∷ [])) k.entries
            ∙ sym next;
      }

  pub found-off : (value f c % p ≡ 0 → ⊥) → Found p (c + 1) count f slots₀ slots
  found-off ne =
      let next = sym (passing_next_off (vanishes p f) c (vanishes_off p f c ne)) in
      record { long = k.long; number = k.number ∙ ap length next; entries = k.entries ∙ next }

-- The degree modulo p, from the code's words to the theory's

pub degree_modulo_lem : (p : ℕ) (f : List ℕ) → nonzero_modulo p f ≡ true → Degree p f (degree_modulo p f)
unfolding degree_modulo nonzero_modulo
degree_modulo_lem p f e =
    record {
      lead = λ d. contradiction (dvd_divides p (coef f (highest (prime_to p) f)) d)
          (not-true (divides p (coef f (highest (prime_to p) f))) (highest_passes (prime_to p) f e));
      above = λ i h. divides_dvd p (coef f i)
          (not-false (divides p (coef f i)) (above_highest (prime_to p) f (ap not (dvd_divides p 0 (dvd-zero p))) i h));
    }

pub degree_modulo-lt : (p : ℕ) (f : List ℕ) → nonzero_modulo p f ≡ true → degree_modulo p f < length f
unfolding degree_modulo nonzero_modulo
degree_modulo-lt p f e = highest-lt (prime_to p) f e
