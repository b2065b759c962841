-- The third demand, whole, for every accepted call of the solver.
use mathlib.Core.Path.{◌≡◌, sym, ap, ap₂, ◌∙◌, fun_ext}
use mathlib.Core.Bool.{Bool}
use mathlib.Core.List.{List, map}
use Prim.Native.Nat.{ℕ, ◌^◌, ◌≤◌, ◌<◌}
use native.Mathlib.Omega.{arith}
use lib.IntN.{ℤ}
use lib.ListN.{length, take, length-map}
use Rattle.theory.specs.Polynomial.{roots}
use Rattle.theory.specs.ClassList.{members}
use Rattle.theory.specs.Shortest.{count}
use Rattle.theory.specs.SignedClass.{SignedClass, naturals, residues_of, levels_of}
use Rattle.theory.specs.SignedList.{signed_list}
use Rattle.theory.specs.SignedDemand.{SignedDemand}
use Rattle.theory.specs.Stepping.{Answer, next_in, answers_from, claimed}
use Rattle.theory.proofs.Classes.Agree.{count-agree}
use Rattle.theory.proofs.Polynomials.Roots.{at_most_D, all_zero_list}
use Rattle.theory.proofs.Signed.Entries.{signed-length, signed_agree, signed-everything}
use Rattle.theory.proofs.Signed.Demand.{signed-demand}
use Rattle.refusal.specs.Rules.{filled}
use Rattle.refusal.proofs.Rules.{filled_whole}
use Rattle.solver.specs.Solve.{solution, solver_verdict}
use Rattle.stepping.specs.Call.{Input, Accepted, lists_left, first_residues, first_levels, first_slots}
use Rattle.stepping.specs.Demand.{Demand, Same, next_call}
use Rattle.stepping.specs.Encoded.{encode}
use Rattle.stepping.proofs.Answers.{answers-length}
use Rattle.stepping.proofs.Accept.{accepted-passes, accepted-number, accepted-count, accepted-usable, first-residues, first-levels}
use Rattle.stepping.proofs.Accept.{first-slots}
use Rattle.classes.specs.Next.{next_of, answer_of}
use Rattle.classes.specs.inner.Usable.{UsableList}
use Rattle.classes.proofs.Checks.{checked-accepted}
use Rattle.classes.proofs.ListAccepted.{list_accepted}
use Rattle.classes.proofs.NextAnswers.{list_answers}

module _ (x : Input) {k roots-found : ℕ} (A : Accepted x k roots-found) where
  abbrev S : ℕ → Bool
  S = roots x.f x.p x.n

  abbrev L : List SignedClass
  L = signed_list S x.p x.n

  two : 2 ≤ x.p
  two = (accepted-usable x A).prime.two

  hp : 0 < x.p
  hp = omega (arith, two)

  pub slots-are : first_slots x k ≡ L
  unfolding solution
  slots-are = first-slots x A

  pub list_length : length L ≡ k
  unfolding solution
  list_length = sym (accepted-number x A)

  on_list : SignedDemand S x.p x.n (first_slots x k)
  on_list = rw slots-are (signed-demand S x.p x.n two)

  -- next answers as next on the list's members
  next-is : next_call x k ≡ next_in (members x.p (naturals x.p L)) x.p x.n
  unfolding next_call solution
  next-is =
      fun_ext (λ q.
      rw (first-residues x A, first-levels x A)
      (list_answers S x.p x.n (x.p ^ x.n) (accepted-usable x A) q))

  pub third-demand : Demand x k
  third-demand =
      record {
        slots = ap length slots-are ∙ list_length;
        rival = on_list.rival;
        shortest = λ R r. omega (arith, list_length, ap length slots-are, on_list.shortest_of_all R r);
        alone = λ R r e. on_list.alone R r (e ∙ sym (ap length slots-are ∙ list_length));
        disjoint = λ i j hi hj.
            on_list.disjoint i j (omega (arith, list_length, ap length slots-are)) (omega (arith, list_length, ap length slots-are));
        at_most_D = λ z.
            omega (
              arith,
              list_length,
              signed-length S x.p x.n hp,
              at_most_D x.f x.p x.n (accepted-usable x A).prime z,
            );
        everything = λ z. slots-are ∙ signed-everything S x.p x.n hp (all_zero_list x.f x.p x.n two z);
        stepping = λ q m. ap (λ (next : ℕ → Answer). answers_from next q m) next-is ∙ (signed-demand S x.p x.n two).stepping q m;
      }

  -- The function that makes the calls, on the lists as the solver left them
  module _ (residues : List ℤ) (levels : List ℕ) (residues_are : residues ≡ (lists_left x).residues)
      (levels_are : levels ≡ (lists_left x).levels) where
    first-parts : (take k residues ≡ first_residues x k) × (take k levels ≡ first_levels x k)
    first-parts = (ap (take k) residues_are, ap (take k) levels_are)

    pub list-usable : UsableList x.p x.n (take k residues) (take k levels) (x.p ^ x.n)
    unfolding solution
    list-usable =
        checked-accepted x.p x.n (take k residues) (take k levels) (x.p ^ x.n)
        (rw (first-parts.0 ∙ first-residues x A, first-parts.1 ∙ first-levels x A)
        (list_accepted S x.p x.n (x.p ^ x.n) (accepted-usable x A)))

    pub answers-left : (q : ℕ) (old answers : List ℕ)
        → answers ≡ map encode (answers_from (λ (r : ℕ). answer_of (next_of x.p x.n (take k residues) (take k levels) r)) q (length old))
        → answers ≡ filled (solver_verdict x.f x.p x.n x.given) (map encode (claimed S x.p x.n q (length old))) old
    unfolding next_call
    answers-left q old answers e =
        let claim = third-demand.stepping q (length old) in
        let long : length old ≡ length (map encode (claimed S x.p x.n q (length old))) =
        sym (length-map (claimed S x.p x.n q (length old)) encode ∙ ap length (sym claim)
        ∙ answers-length (next_call x k) q (length old)) in
        rw (accepted-passes x A)
        (rw (first-parts.0, first-parts.1) at e
        ∙ ap (map encode) claim ∙ sym (filled_whole (map encode (claimed S x.p x.n q (length old))) old long))

-- two accepted calls with the same p and n and equal root sets
module _ (x y : Input) {k c k' c' : ℕ} (A : Accepted x k c) (B : Accepted y k' c') (same_p : x.p ≡ y.p) (same_n : x.n ≡ y.n)
    (agree : (r : ℕ) → r < x.p ^ x.n → roots x.f x.p x.n r ≡ roots y.f y.p y.n r) where
  same-list : solution x.f x.p x.n ≡ solution y.f y.p y.n
  unfolding solution
  same-list =
      signed_agree (S x A) (S y B) x.p x.n (hp x A) agree ∙ ap₂ (signed_list (S y B)) same_p same_n

  counts : count (S x A) x.p x.n ≡ count (S y B) y.p y.n
  counts = count-agree (S x A) (S y B) x.p x.n (hp x A) agree ∙ ap₂ (count (S y B)) same_p same_n

  pub same-roots : Same x y k c k' c'
  same-roots =
      record {
        same_k = accepted-number x A ∙ ap length same-list ∙ sym (accepted-number y B);
        same_count = accepted-count x A ∙ counts ∙ sym (accepted-count y B);
        same_residues = first-residues x A ∙ ap residues_of same-list ∙ sym (first-residues y B);
        same_levels = first-levels x A ∙ ap levels_of same-list ∙ sym (first-levels y B);
      }
