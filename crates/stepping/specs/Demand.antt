-- 01's "Rival lists and stepping", and the bound by D, for an accepted call of the solver and the calls of next after it.
use Rattle.std.specs.Prelude.{◌≡◌, true, false, List, [], ◌∷◌, ℕ, ◌≤◌, ◌<◌, pos, length}
use Rattle.theory.specs.Lists.{Permutation}
use Rattle.theory.specs.Polynomial.{reduced, roots}
use Rattle.theory.specs.Degree.{all_zero, degree_bound}
use Rattle.theory.specs.Class.{Member}
use Rattle.theory.specs.SignedClass.{SignedClass, signed_class, natural, signed_slot}
use Rattle.theory.specs.SignedDemand.{SignedRival}
use Rattle.theory.specs.Stepping.{Answer, answers_from, claimed}
use Rattle.classes.specs.Next.{next_of, answer_of}
use Rattle.stepping.specs.Call.{Input, first_residues, first_levels, first_slots}

-- next, called with "the solver's p and n and the first k slots of residues and levels as the solver left them": next's contract
unfoldable pub next_call : Input → ℕ → ℕ → Answer
next_call x k point = answer_of (next_of x.p x.n (first_residues x k) (first_levels x k) point)

pub record Demand (x : Input) (k : ℕ) : Type 0 where
  pub slots : length (first_slots x k) ≡ k
  -- "its first k slots are a rival"
  pub rival : SignedRival (roots x.f x.p x.n) x.p x.n (first_slots x k)
  -- "Every rival has at least k entries"
  pub shortest : (R : List SignedClass) → SignedRival (roots x.f x.p x.n) x.p x.n R → k ≤ length R
  -- "and one with exactly k has the same pairs of residue and level as these slots, order aside"
  pub alone : (R : List SignedClass) → SignedRival (roots x.f x.p x.n) x.p x.n R → length R ≡ k
      → Permutation R (first_slots x k)
  -- "No residue is a member of the classes in two of these slots"
  pub disjoint : (i j : ℕ) → i < k → j < k → (r : ℕ) → Member x.p x.n (natural x.p (signed_slot (first_slots x k) i)) r
      → Member x.p x.n (natural x.p (signed_slot (first_slots x k) j)) r → i ≡ j
  -- at most D classes, unless all reduced coefficients are zero
  pub at_most_D : all_zero (reduced x.f x.p x.n) ≡ false → k ≤ degree_bound x.p (reduced x.f x.p x.n)
  -- "If all are zero, everything is a root": the one class of everything
  pub everything : all_zero (reduced x.f x.p x.n) ≡ true → first_slots x k ≡ signed_class (pos 0) 0 ∷ []
  -- "This is a single claim about the whole row of calls, for every f, p and n accepted and every q and m"
  pub stepping : (q m : ℕ) → answers_from (next_call x k) q m ≡ claimed (roots x.f x.p x.n) x.p x.n q m

-- "Two accepted calls of the solver with the same p and n, whatever their coefficients, whose root sets are equal return the same k and the
-- same root count and put the same residues and levels into their first k slots, slot by slot". Of live classes it says nothing:
-- "Polynomials with equal root sets may differ in it" (02, 2.8)
pub record Same (x y : Input) (k count k' count' : ℕ) : Type 0 where
  pub same_k : k ≡ k'
  pub same_count : count ≡ count'
  pub same_residues : first_residues x k ≡ first_residues y k'
  pub same_levels : first_levels x k ≡ first_levels y k'
