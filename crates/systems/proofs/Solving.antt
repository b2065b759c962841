-- What the solver gives for a polynomial that is added: its list is the slot's.
use mathlib.Core.Path.{◌≡◌, refl, sym, ap, ◌∙◌}
use mathlib.Core.List.{List}
use Prim.Native.Nat.{ℕ, ◌^◌, ◌≤◌, ◌<◌, min}
use native.Mathlib.Omega.{arith}
use lib.IntN.{ℤ, pos}
use lib.ListN.{length, replicate}
use Rattle.std.specs.Prelude.{Result, Ok, Err}
use Rattle.refusal.specs.declared.Refusal.{Refusal}
use Rattle.theory.specs.Polynomial.{roots}
use Rattle.theory.specs.Shortest.{count}
use Rattle.theory.specs.Live.{live}
use Rattle.refusal.specs.Rules.{Verdict, passes}
use Rattle.numbers.specs.inner.Usable.{Usable}
use Rattle.solver.specs.declared.Found.{Found}
use Rattle.solver.specs.Solve.{Lists, lists, lists_filled, solution, marks_of, solver_verdict, found, solved_of, lists_after}
use Rattle.solver.proofs.Few.{solution_few, verdict_of_modulus}
use Rattle.systems.specs.declared.Held.{Held}
use Rattle.systems.specs.Model.{congruence}
use Rattle.systems.specs.State.{held_for, held_of}

-- the lists as the solver gets them
abbrev zeros : Lists
zeros = lists (replicate 64 (pos 0)) (replicate 64 0) (replicate 64 0)

ok_classes : {x y : Found} → ◌≡◌ {A = Result Found Refusal} (Ok x) (Ok y) → x.classes ≡ y.classes
ok_classes {x} {y} e = let same : x ≡ y = cc in ap (λ (f : Found). f.classes) same

module _ (f : List ℤ) (p n : ℕ) (U : Usable p n (p ^ n)) (some : 0 < length f) (few : length f ≤ 65) where
  accepted : solver_verdict f p n zeros ≡ passes
  accepted = verdict_of_modulus f p n some few zeros (record { residues = refl; levels = refl; marks = refl }) ∙ U.accepted

  -- what it answers, which is no refusal
  answered : solved_of f p n zeros ≡ Ok (found (length (solution f p n)) (count (roots f p n) p n) (live f p n))
  unfolding solved_of
  answered = rw accepted

  pub not-refused : (r : Refusal) → solved_of f p n zeros ≡ Err r → ⊥
  not-refused r e = let q = sym answered ∙ e in cc

  -- and what it leaves is the slot of the polynomial
  pub solved-slot : (tag k : ℕ) (residues : List ℤ) (levels marks : List ℕ) {answer : Found} → k ≡ min answer.classes 64
      → solved_of f p n zeros ≡ Ok answer → lists residues levels marks ≡ lists_after f p n zeros
      → ◌≡◌ {A = Held} (record { tag = tag; classes = k; residues = residues; levels = levels }) (held_of p n (congruence tag f))
  unfolding held_for lists_after solution
  solved-slot tag k residues levels marks {answer} number e left =
      let all = left ∙ ap (λ (v : Verdict). lists_filled v (solution f p n) (marks_of f p n) zeros) accepted in
      let classes : length (solution f p n) ≡ answer.classes = ok_classes (sym answered ∙ e) in
      let k-is : k ≡ length (solution f p n) = omega (arith, solution_few f U few) in
      λ i. record { tag = tag; classes = k-is i; residues = (all i).residues; levels = (all i).levels }
