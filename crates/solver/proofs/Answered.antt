-- What an answer of the solver says: of its verdict, of p and n, and of the first slots of its lists.
use Rattle.std.specs.Prelude.{Ok, Err}
use mathlib.Core.Path.{◌≡◌, refl, sym, ap, ◌∙◌}
use mathlib.Core.Bool.{true}
use mathlib.Core.List.{List, ◌∷◌, map}
use Prim.Native.Nat.{ℕ, ◌+◌, ◌*◌, ◌^◌, ◌≤◌}
use native.Mathlib.Omega.{arith}
use native.Mathlib.Nat.{min-le_right}
use lib.IntN.{ℤ}
use lib.ListN.{length, length-map, length-take, take, drop}
use lib.Seq.{take_at}
use Rattle.theory.specs.Polynomial.{reduced, roots}
use Rattle.theory.specs.Degree.{degree_bound, all_zero}
use Rattle.theory.specs.SignedClass.{SignedClass, natural, residues_of, levels_of}
use Rattle.theory.specs.Mark.{mark}
use Rattle.theory.specs.Live.{live}
use Rattle.theory.specs.Shortest.{count}
use Rattle.theory.proofs.Live.Bound.{live_most, live-all_zero}
use Rattle.refusal.specs.declared.Refusal.{Refusal}
use Rattle.refusal.specs.Rules.{passes, refuses, filled, rule2, rule3}
use Rattle.refusal.proofs.Rules.{tried-first, tried-both, value_passes, value_refuses}
use Rattle.numbers.specs.Modulus.{modulus_rules}
use Rattle.numbers.specs.inner.Usable.{Usable}
use Rattle.numbers.proofs.Rules.{passes-usable}
use Rattle.solver.specs.declared.Found.{Found}
use Rattle.solver.specs.Solve.{Lists, polynomial_rules, list_rules, solution, marks_of, solver_verdict, solved_of, found, lists_after}

module _ (f : List ℤ) (p n : ℕ) (given : Lists) where
  -- a call that is refused
  pub refused-verdict : (r : Refusal) → solved_of f p n given ≡ Err r → solver_verdict f p n given ≡ refuses r
  unfolding solved_of
  refused-verdict r e =
      value_refuses (solver_verdict f p n given) (found (length (solution f p n)) (count (roots f p n) p n) (live f p n)) r e

  -- rules that pass pass p and n
  pub passes-modulus : solver_verdict f p n given ≡ passes → Usable p n (p ^ n)
  unfolding solver_verdict
  passes-modulus v =
      let m = modulus_rules p n in
      let c = length f in
      let all = (tried-both (polynomial_rules f p n) (list_rules given (length (solution f p n))) v).0 in
      passes-usable p n (tried-first (rule3 c) m (tried-first (rule2 c) (rule3 c ∷ m) all).1).1 (p ^ n) refl

  -- a call that is accepted, with k, the root count and the number of live classes
  module _ {k c l : ℕ} (e : solved_of f p n given ≡ Ok (found k c l)) where
    known : (solver_verdict f p n given ≡ passes) × (found k c l ≡ found (length (solution f p n)) (count (roots f p n) p n) (live f p n))
    unfolding solved_of
    known =
        value_passes (solver_verdict f p n given) (found (length (solution f p n)) (count (roots f p n) p n) (live f p n)) (found k c l) e

    pub found-passes : solver_verdict f p n given ≡ passes
    found-passes = known.0

    pub found_number : k ≡ length (solution f p n)
    found_number = ap (λ (a : Found). a.classes) known.1

    pub found-count : c ≡ count (roots f p n) p n
    found-count = ap (λ (a : Found). a.roots) known.1

    pub found-live : l ≡ live f p n
    found-live = ap (λ (a : Found). a.live) known.1

    -- "never above 1 + n × D"
    pub found-live-most : l ≤ 1 + n * degree_bound p (reduced f p n)
    found-live-most = rw found-live (live_most f p n (passes-modulus found-passes).prime)

    -- "it is 1 if all coefficients reduce to zero"
    pub found-live-one : all_zero (reduced f p n) ≡ true → l ≡ 1
    found-live-one z = found-live ∙ live-all_zero f p n (passes-modulus found-passes).prime.two z

    -- the first k slots of a list that was filled
    front : {A : Type 0} (h : SignedClass → A) (old : List A)
        → take k (filled (solver_verdict f p n given) (map h (solution f p n)) old) ≡ map h (solution f p n)
    front h old =
        let l = map h (solution f p n) in
        rw found-passes (take_at l (drop (length l) old) k (length-map (solution f p n) h ∙ sym found_number))

    pub found-residues : take k (lists_after f p n given).residues ≡ residues_of (solution f p n)
    unfolding lists_after
    found-residues = front (λ (x : SignedClass). x.residue) given.residues

    pub found-levels : take k (lists_after f p n given).levels ≡ levels_of (solution f p n)
    unfolding lists_after
    found-levels = front (λ (x : SignedClass). x.level) given.levels

    pub found-marks : take k (lists_after f p n given).marks ≡ marks_of f p n
    unfolding lists_after
    found-marks = front (λ (x : SignedClass). mark f p n (natural p x)) given.marks

    -- each list has k slots
    pub found-long : {A : Type 0} (h : SignedClass → A) (l : List A) → take k l ≡ map h (solution f p n) → k ≤ length l
    found-long h l q =
        let long : length (take k l) ≡ k = ap length q ∙ length-map (solution f p n) h ∙ sym found_number in
        omega (arith, long, length-take k l, min-le_right k (length l))
