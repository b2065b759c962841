-- `solver::polynomial::degree` meets its contract.
use mathlib.Core.Path.{◌≡◌, sym, ap, ◌∙◌}
use mathlib.Core.Bool.{false, not}
use mathlib.Core.List.{List}
use Prim.Native.Nat.{ℕ, ◌%◌, ◌<◌}
use native.Mathlib.Decide.{dec_lt}
use native.Mathlib.Nat.{zero-mod}
use native.Mathlib.Omega.{arith}
use borrow.Author.Rules.{rules}
use lib.ListN.{length, get_or, get_or-eq_default}
use Rattle.std.specs.Prelude.{Option, None, Some}
use Rattle.std.specs.Option.{MatchOption, unwrap_or}
use Rattle.std.proofs.iter.runs.Made.{chains}
use Rattle.theory.proofs.Numbers.Prime.{divides_on, divides_off}
use Rattle.theory.proofs.Polynomials.Highest.{highest_is, highest_none}
use Rattle.solver.specs.inner.Table.{prime_to, degree_modulo}
use Rattle.solver.proofs.polynomial.degree.Goals as goal

multiple : (p a : ℕ) → a % p ≡ 0 → prime_to p a ≡ false
multiple p a e = ap not (divides_on p a e)

-- p divides what stands at an index that is no entry's
multiple_at : (p : ℕ) (h : List ℕ) (k : ℕ) → (k < length h → get_or h k 0 % p ≡ 0) → prime_to p (get_or h k 0) ≡ false
multiple_at p h k e = go (dec_lt k (length h))
  where
    go : Dec (k < length h) → prime_to p (get_or h k 0) ≡ false
    go (yes w) = multiple p (get_or h k 0) (e w)
    go (no w) = ap (prime_to p) (get_or-eq_default h 0 {n = k} (omega arith)) ∙ multiple p 0 (zero-mod p)

-- the last index whose entry p does not divide
degree_is : (p : ℕ) (h : List ℕ) (r : Option ℕ)
    → MatchOption r ((k : ℕ) → k < length h → get_or h k 0 % p ≡ 0)
    (λ i. (get_or h i 0 % p ≡ 0 → ⊥) × ((k : ℕ) → i < k → k < length h → get_or h k 0 % p ≡ 0))
    → unwrap_or r 0 ≡ degree_modulo p h
unfolding degree_modulo
degree_is p h None e = sym (highest_none (prime_to p) h (λ k. multiple_at p h k (e k)))
degree_is p h (Some i) e =
    sym (highest_is (prime_to p) h (multiple p 0 (zero-mod p)) i (ap not (divides_off p _ e.0)) (λ k l. multiple_at p h k (e.1 k l)))

pub returns : goal.returns
returns c = c.unwrap_or.ensures ∙ degree_is c.args.p c.args.h.now c.rposition.result (search (rules, chains))
