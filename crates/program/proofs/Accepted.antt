-- The writer takes the solver's list: of its rules only the one on the buffer's length is left.
use Rattle.std.specs.Prelude.{Ok}
use mathlib.Core.Path.{◌≡◌, refl, sym, ap, ◌∙◌}
use mathlib.Core.List.{List, [], ◌∷◌, map}
use Prim.Native.Nat.{ℕ, zero, suc, min, ◌≤◌}
use native.Mathlib.Omega.{arith}
use borrow.Author.Tests.{le-ltb}
use lib.IntN.{ℤ}
use lib.ListN.{length, get_or, length-map}
use Rattle.theory.specs.SignedClass.{SignedClass, natural, residues_of, levels_of}
use Rattle.theory.specs.Polynomial.{roots}
use Rattle.theory.specs.Mark.{mark}
use Rattle.refusal.specs.Rules.{rule12}
use Rattle.numbers.specs.inner.Usable.{Usable}
use Rattle.solver.specs.Solve.{solution, marks_of}
use Rattle.classes.specs.Rule7.{classes_of, mark_above, first_fault}
use Rattle.classes.specs.inner.Search.{first_high_mark}
use Rattle.classes.specs.Checked.{marked_checked_of}
use Rattle.classes.proofs.Entries.{classes_of_parts}
use Rattle.theory.proofs.Least.{least_is}
use Rattle.theory.proofs.Mark.{mark_most}
use Rattle.theory.proofs.Numbers.Prime.{prime_pos}
use Rattle.classes.proofs.MarkedChecks.{marked-accepted, marked-passes}
use Rattle.classes.proofs.ListAccepted.{faultless-first, list-faultless}
use Rattle.writer.specs.Written.{writer_verdict}
use Rattle.writer.proofs.Checked.{verdict-12}

marks_small : (h : SignedClass → ℕ) → ((c : SignedClass) → h c ≤ 2) → (L : List SignedClass) (i : ℕ) → get_or (map h L) i 0 ≤ 2
marks_small h small [] i = omega arith
marks_small h small (c ∷ L) zero = small c
marks_small h small (c ∷ L) (suc i) = marks_small h small L i

-- small marks have no first high one
no_high_mark : (marks : List ℕ) → ((i : ℕ) → get_or marks i 0 ≤ 2) → length marks ≡ first_high_mark marks
unfolding first_high_mark mark_above
no_high_mark marks small =
    sym (least_is (mark_above marks) (length marks) 0 (length marks) (omega arith) (omega arith)
    (λ k low h. le-ltb 2 (get_or marks k 0) (small k)) (λ h. absurd (omega arith)))

module _ (f : List ℤ) (p n m : ℕ) (U : Usable p n m) where
  abbrev L : List SignedClass
  L = solution f p n

  pub residues-length : length (residues_of (solution f p n)) ≡ length (solution f p n)
  residues-length = length-map L (λ (c : SignedClass). c.residue)

  pub levels-length : length (levels_of (solution f p n)) ≡ length (solution f p n)
  levels-length = length-map L (λ (c : SignedClass). c.level)

  pub marks-length : length (marks_of f p n) ≡ length (solution f p n)
  marks-length = length-map L (λ (c : SignedClass). mark f p n (natural p c))

  no-fault : length L ≡ first_fault p n (classes_of (residues_of L) (levels_of L))
  unfolding solution
  no-fault =
      rw (classes_of_parts L) (sym (faultless-first p n L (list-faultless (roots f p n) p n U.prime.two)))

  pub solution-accepted : marked_checked_of p n (residues_of (solution f p n)) (levels_of (solution f p n)) (marks_of f p n) ≡ Ok m
  solution-accepted =
      let small : (c : SignedClass) → mark f p n (natural p c) ≤ 2 = λ c. mark_most f p n (natural p c) (prime_pos U.prime) in
      let high = no_high_mark (marks_of f p n) (marks_small (λ (c : SignedClass). mark f p n (natural p c)) small L) in
      marked-passes p n (residues_of L) (levels_of L) (marks_of f p n) U (residues-length ∙ sym levels-length)
      (residues-length ∙ sym marks-length) (length L) (length (marks_of f p n)) (min (length L) (length (marks_of f p n))) no-fault high refl
      (omega (arith, residues-length, marks-length))

  -- the writer's rules are that on the buffer's length
  pub writer-12 : (bytes : ℕ) → writer_verdict p n (residues_of (solution f p n)) (levels_of (solution f p n)) (marks_of f p n) bytes
      ≡ rule12 bytes (length (solution f p n))
  writer-12 bytes =
      sym (verdict-12 p n (residues_of L) (levels_of L) (marks_of f p n) bytes
      (marked-accepted p n (residues_of L) (levels_of L) (marks_of f p n) m solution-accepted))
      ∙ ap (rule12 bytes) residues-length
