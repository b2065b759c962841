-- An accepted call of the solver, and what it left in the lists it was lent.
use Rattle.std.specs.Prelude.{◌≡◌, List, ℕ, ℤ, take, Ok}
use Rattle.theory.specs.SignedClass.{SignedClass}
use Rattle.solver.specs.Solve.{Lists, found, solved_of, lists_after}
use Rattle.classes.specs.Rule7.{classes_of}

-- coefficients, p and n, and the three lists as lent
pub record Input : Type 0 where
  pub f : List ℤ
  pub p : ℕ
  pub n : ℕ
  pub given : Lists

-- the call is accepted and returns k, the root count and a number of live classes: the solver's contract, clause `answer`
pub record Accepted (x : Input) (k roots : ℕ) : Type 0 where
  pub live : ℕ
  pub answer : solved_of x.f x.p x.n x.given ≡ Ok (found k roots live)

-- the lists as the solver left them: its contract, clause `lists`
unfoldable pub lists_left : Input → Lists
lists_left x = lists_after x.f x.p x.n x.given

-- "the first k slots of residues and levels as the solver left them"
abbrev pub first_residues : Input → ℕ → List ℤ
first_residues x k = take k (lists_left x).residues

abbrev pub first_levels : Input → ℕ → List ℕ
first_levels x k = take k (lists_left x).levels

abbrev pub first_marks : Input → ℕ → List ℕ
first_marks x k = take k (lists_left x).marks

-- the classes in these slots
unfoldable pub first_slots : Input → ℕ → List SignedClass
first_slots x k = classes_of (first_residues x k) (first_levels x k)
