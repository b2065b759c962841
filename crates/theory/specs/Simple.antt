-- Simple roots modulo p and the roots modulo pⁿ above them (02, 2.14).
use Rattle.std.specs.Prelude.{◌≡◌, Bool, true, not, ◌&&◌, List, ℕ, suc, ◌-◌, ◌%◌, ◌^◌, ◌<◌, eqb, ℤ}
use Rattle.theory.specs.Lists.{In}
use Rattle.theory.specs.Range.{all_below}
use Rattle.theory.specs.Polynomial.{reduced, vanishes, derivative, valueℤ, derivativeℤ, Multiple}
use Rattle.theory.specs.Degree.{least_valuation, primitive}

-- "Let g be f divided by p^s": s and g, of the coefficients modulo pⁿ
unfoldable pub content_valuation : List ℤ → ℕ → ℕ → ℕ
unfolding reduced least_valuation
content_valuation f p n = least_valuation p (reduced f p n)

unfoldable pub primitive_part : List ℤ → ℕ → ℕ → List ℕ
unfolding reduced primitive
primitive_part f p n = primitive p (reduced f p n)

-- "a digit c has g(c) a multiple of p and g'(c) not": c is a simple root of g modulo p
unfoldable pub is_simple_root : ℕ → List ℕ → ℕ → Bool
unfolding vanishes derivative
is_simple_root p g c = vanishes p g c && not (vanishes p (derivative g) c)

pub record SimpleDigit (f : List ℤ) (p n c : ℕ) : Type 0 where
  pub digit : c < p
  pub simple : is_simple_root p (primitive_part f p n) c ≡ true

-- "congruent to c modulo p": the numbers of a set S above c. Where S are the roots modulo pⁿ, they are the lifts of c
unfoldable pub is_above : (ℕ → Bool) → ℕ → ℕ → ℕ → Bool
is_above S p c r = S r && eqb (r % p) c

-- n − s is 1, and p divides g at every digit. Everything is then a root, as pⁿ is p^s·p, and the list is 0/0
unfoldable pub is_exceptional : List ℤ → ℕ → ℕ → Bool
unfolding content_valuation primitive_part all_below vanishes
is_exceptional f p n = eqb (n - content_valuation f p n) 1 && all_below (vanishes p (primitive_part f p n)) p

-- The same of f as it was given, before any reduction

-- p^s is the largest power of p that divides every coefficient
pub record Contentℤ (f : List ℤ) (p s : ℕ) : Type 0 where
  pub common : (a : ℤ) → In a f → Multiple (p ^ s) a
  pub largest : ¬ ((a : ℤ) → In a f → Multiple (p ^ suc s) a)

-- as f is p^s·g, p divides g(c) and not g'(c) exactly if p^(s + 1) divides f(c) and not f'(c)
pub record SimpleDigitℤ (f : List ℤ) (p s c : ℕ) : Type 0 where
  pub zero : Multiple (p ^ suc s) (valueℤ f c)
  pub simple : ¬ Multiple (p ^ suc s) (valueℤ (derivativeℤ f) c)
