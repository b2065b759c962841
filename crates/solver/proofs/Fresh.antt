-- "If the given list is that of f at n, result and count equal the fresh ones at m" (02, 2.9): raising the solver's list answers and writes
-- what the solver answers and writes at m, refusals included.
use Rattle.std.specs.Prelude.{Ok}
use mathlib.Core.Path.{◌≡◌, refl, sym, ◌∙◌}
use mathlib.Core.List.{List, [], ◌∷◌, ◌++◌}
use Prim.Native.Nat.{ℕ, ◌^◌, ◌≤◌}
use native.Mathlib.Omega.{arith}
use lib.IntN.{ℤ}
use lib.ListN.{length, length-map, take}
use Rattle.theory.specs.Polynomial.{roots}
use Rattle.theory.specs.Shortest.{count}
use Rattle.theory.specs.Live.{live}
use Rattle.theory.specs.SignedClass.{SignedClass, residues_of, levels_of}
use Rattle.theory.proofs.Numbers.Prime.{prime_pos}
use Rattle.theory.proofs.Signed.Raised.{raised-list-fresh, raised-count-fresh}
use Rattle.refusal.specs.Rules.{Verdict, passes, refuses, tried, rule6, rule6_three, rule11, rule17, value_or}
use Rattle.refusal.proofs.Rules.{tried_leads, tried-both, tried-first, rule6_passes, rule17_passes, coefficients_lead, value_passes}
use Rattle.numbers.specs.Modulus.{rule4, rule14, rule5, modulus_rules}
use Rattle.numbers.specs.inner.Usable.{Usable}
use Rattle.classes.specs.Rule7.{classes_of, rule7}
use Rattle.classes.proofs.Entries.{classes_of_parts}
use Rattle.classes.proofs.ListAccepted.{list_accepted}
use Rattle.solver.specs.Solve.{Lists, polynomial_rules, list_rules, solution, found, solver_verdict, solved_of}
use Rattle.solver.specs.Solve.{lists_after}
use Rattle.solver.specs.Raise.{roots_among, raised, raise_verdict, listed, without_live, raised_of, raised_lists}
use Rattle.solver.specs.inner.UsablePolynomial.{polynomial_modulus, UsablePolynomial}
use Rattle.solver.proofs.Verdicts.{usable-polynomial}
use Rattle.solver.proofs.RaiseRules.{checked_7}
use Rattle.solver.proofs.Few.{solution_few}
use Rattle.solver.proofs.Answered.{found-residues, found-levels, found-passes}

-- rules that pass may be left out
left_out : (v x y : Verdict) → tried (v ∷ passes ∷ passes ∷ x ∷ passes ∷ y ∷ []) ≡ tried (v ∷ x ∷ y ∷ [])
left_out passes passes y = refl
left_out passes (refuses r) y = refl
left_out (refuses r) x y = refl

-- the answer for the same verdict, number and count
same_answer : (v : Verdict) (k c l : ℕ) → value_or v (listed k c) ≡ without_live (value_or v (found k c l))
same_answer passes k c l = refl
same_answer (refuses r) k c l = refl

module _ (f : List ℤ) (p n m : ℕ) (accepted : tried (polynomial_rules f p n) ≡ passes) (h : n ≤ m) where
  polynomial : UsablePolynomial f p n (p ^ n)
  unfolding polynomial_modulus
  polynomial = usable-polynomial f p n (p ^ n) (rw accepted)

  abbrev U : Usable p n (p ^ n)
  U = polynomial.modulus

  -- the solver's list at n
  abbrev L : List SignedClass
  L = solution f p n

  residues-long : length (residues_of L) ≡ length L
  residues-long = length-map L (λ (c : SignedClass). c.residue)

  levels-long : length (levels_of L) ≡ length L
  levels-long = length-map L (λ (c : SignedClass). c.level)

  few : length L ≤ 64
  few = solution_few f U polynomial.few

  same_length : length (residues_of L) ≡ length (levels_of L)
  same_length = residues-long ∙ sym levels-long

  -- it passes rule 7
  seven : tried (rule7 p n (classes_of (residues_of L) (levels_of L)) ∷ []) ≡ passes
  unfolding solution
  seven =
      (value_passes _ (p ^ n) (p ^ n) (sym (checked_7 p n (residues_of L) (levels_of L) same_length U)
      ∙ list_accepted (roots f p n) p n (p ^ n) U)).0

  list-is : raised f p m (classes_of (residues_of L) (levels_of L)) ≡ solution f p m
  unfolding raised roots_among solution
  list-is = rw (classes_of_parts L) (raised-list-fresh f p n m (prime_pos U.prime) h)

  count_is : count (roots_among f p m (classes_of (residues_of L) (levels_of L))) p m ≡ count (roots f p m) p m
  unfolding roots_among solution
  count_is = rw (classes_of_parts L) (raised-count-fresh f p n m (prime_pos U.prime) h)

  module _ (lent : Lists) where
    abbrev six : Verdict
    six = rule6_three (length lent.residues) (length lent.levels) (length lent.marks)

    abbrev eleven : Verdict
    eleven = rule11 (length lent.residues) (length (solution f p m))

    -- past rules 2, 3, 4 and 14 the solver has these left
    solver-verdict : solver_verdict f p m lent ≡ tried (rule5 p m ∷ six ∷ eleven ∷ [])
    unfolding solver_verdict modulus_rules
    solver-verdict =
        let (four, rest) = tried-first (rule4 p) (rule14 p ∷ rule5 p n ∷ []) U.accepted in
        let (fourteen, _) = tried-first (rule14 p) (rule5 p n ∷ []) rest in
        coefficients_lead (length f) (λ e. omega (arith, e, polynomial.some)) polynomial.few
        (modulus_rules p m ++ list_rules lent (length (solution f p m)))
        ∙ rw (four, fourteen)

    verdict-is : raise_verdict f p n m (residues_of L) (levels_of L) lent ≡ solver_verdict f p m lent
    unfolding raise_verdict modulus_rules
    verdict-is =
        let a = length (residues_of L) in
        let b = length (levels_of L) in
        let v : rule7 p n (classes_of (residues_of L) (levels_of L)) ≡ passes = (tried-first _ [] seven).0 in
        let w = rule17_passes n m a b h (omega (arith, residues-long, few)) (omega (arith, levels-long, few)) in
        tried_leads (polynomial_rules f p n) (rule5 p m ∷ rule17 n m a b ∷ rule6 a b ∷ six
        ∷ rule7 p n (classes_of (residues_of L) (levels_of L))
        ∷ rule11 (length lent.residues) (length (raised f p m (classes_of (residues_of L) (levels_of L)))) ∷ []) accepted
        ∙ rw (w, rule6_passes a b same_length, v, list-is) (left_out (rule5 p m) six eleven)
        ∙ sym solver-verdict

    pub raised-fresh : raised_of f p n m (residues_of (solution f p n)) (levels_of (solution f p n)) lent ≡ without_live (solved_of f p m lent)
    unfolding raised_of solved_of
    raised-fresh =
        rw (verdict-is, list-is, count_is) (same_answer (solver_verdict f p m lent) (length (solution f p m)) (count (roots f p m) p m)
        (live f p m))

    pub lists-fresh : raised_lists f p n m (residues_of (solution f p n)) (levels_of (solution f p n)) lent ≡ lists_after f p m lent
    unfolding raised_lists lists_after
    lists-fresh = rw (verdict-is, list-is)

-- the same of calls: after an accepted call of the solver at n, its first k slots are raised
module _ (f : List ℤ) (p n m : ℕ) (given : Lists) {k c l : ℕ} (answer : solved_of f p n given ≡ Ok (found k c l)) (h : n ≤ m) (lent : Lists)
  where
    accepted : tried (polynomial_rules f p n) ≡ passes
    unfolding solver_verdict
    accepted = (tried-both (polynomial_rules f p n) (list_rules given (length (solution f p n))) (found-passes f p n given answer)).0

    abbrev residues : List ℤ
    residues = take k (lists_after f p n given).residues

    abbrev levels : List ℕ
    levels = take k (lists_after f p n given).levels

    pub raised-after-solve : (raised_of f p n m residues levels lent ≡ without_live (solved_of f p m lent))
        × (raised_lists f p n m residues levels lent ≡ lists_after f p m lent)
    raised-after-solve =
        rw (found-residues f p n given answer, found-levels f p n given answer)
        (raised-fresh f p n m accepted h lent, lists-fresh f p n m accepted h lent)
