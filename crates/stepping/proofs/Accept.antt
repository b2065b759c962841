-- What an accepted call of the solver says: its answer, p and n, and the first k slots.
use mathlib.Core.Path.{◌≡◌}
use Prim.Native.Nat.{ℕ, ◌^◌, ◌≤◌}
use lib.ListN.{length}
use Rattle.theory.specs.Polynomial.{roots}
use Rattle.theory.specs.SignedClass.{SignedClass, residues_of, levels_of}
use Rattle.theory.specs.Shortest.{count}
use Rattle.refusal.specs.Rules.{passes}
use Rattle.numbers.specs.inner.Usable.{Usable}
use Rattle.solver.specs.Solve.{solution, marks_of, solver_verdict}
use Rattle.solver.proofs.Answered.{passes-modulus, found-passes, found_number, found-count, found-long}
use Rattle.solver.proofs.Answered.{found-residues, found-levels, found-marks}
use Rattle.classes.proofs.Entries.{classes_of_parts}
use Rattle.stepping.specs.Call.{Input, Accepted, lists_left, first_residues, first_levels, first_marks, first_slots}

module _ (x : Input) {k roots-found : ℕ} (A : Accepted x k roots-found) where
  pub accepted-passes : solver_verdict x.f x.p x.n x.given ≡ passes
  accepted-passes = found-passes x.f x.p x.n x.given A.answer

  pub accepted-number : k ≡ length (solution x.f x.p x.n)
  accepted-number = found_number x.f x.p x.n x.given A.answer

  pub accepted-count : roots-found ≡ count (roots x.f x.p x.n) x.p x.n
  accepted-count = found-count x.f x.p x.n x.given A.answer

  pub accepted-usable : Usable x.p x.n (x.p ^ x.n)
  accepted-usable = passes-modulus x.f x.p x.n x.given accepted-passes

  pub first-residues : first_residues x k ≡ residues_of (solution x.f x.p x.n)
  unfolding lists_left
  first-residues = found-residues x.f x.p x.n x.given A.answer

  pub first-levels : first_levels x k ≡ levels_of (solution x.f x.p x.n)
  unfolding lists_left
  first-levels = found-levels x.f x.p x.n x.given A.answer

  pub first-marks : first_marks x k ≡ marks_of x.f x.p x.n
  unfolding lists_left
  first-marks = found-marks x.f x.p x.n x.given A.answer

  -- the first k slots are the list
  pub first-slots : first_slots x k ≡ solution x.f x.p x.n
  unfolding first_slots
  first-slots = rw (first-residues, first-levels) (classes_of_parts (solution x.f x.p x.n))

  pub residues-long : k ≤ length (lists_left x).residues
  residues-long =
      found-long x.f x.p x.n x.given A.answer (λ (c : SignedClass). c.residue) (lists_left x).residues first-residues

  pub levels-long : k ≤ length (lists_left x).levels
  levels-long =
      found-long x.f x.p x.n x.given A.answer (λ (c : SignedClass). c.level) (lists_left x).levels first-levels
