-- The residues that solve all of several polynomials, and their list: everything where there is none, one polynomial more, and at most
-- 1,024 classes.
use mathlib.Core.Path.{◌≡◌, refl, sym, ap, ◌∙◌, fun_ext}
use mathlib.Core.Bool.{Bool, ◌&&◌, and-true, and_assoc}
use mathlib.Core.List.{List, [], ◌∷◌, ◌++◌}
use Prim.Native.Nat.{ℕ, ◌*◌, ◌-◌, ◌^◌, ◌≤◌, ◌<◌}
use native.Mathlib.Nat.{add-zero, sub-zero}
use native.Mathlib.Omega.{arith}
use lib.IntN.{pos}
use lib.ListN.{length, replicate}
use Rattle.theory.specs.Lists.{In, here, there}
use Rattle.theory.specs.Polynomial.{roots}
use Rattle.theory.specs.ClassList.{member_total}
use Rattle.theory.specs.Shortest.{count}
use Rattle.theory.specs.SignedClass.{SignedClass, signed_class, levels_of}
use Rattle.theory.specs.SignedList.{signed_list}
use Rattle.theory.specs.inner.Cut.{both}
use Rattle.theory.proofs.Numbers.Prime.{prime_pos}
use Rattle.theory.proofs.Polynomials.Roots.{everything}
use Rattle.theory.proofs.Signed.Entries.{signed-everything, signed_total}
use Rattle.theory.proofs.Signed.Cut.{both-length}
use Rattle.numbers.specs.inner.Usable.{Usable}
use Rattle.solver.specs.Solve.{solution}
use Rattle.solver.proofs.Few.{solution_few}
use Rattle.systems.specs.declared.Common.{Common}
use Rattle.systems.specs.Model.{Congruence, solves_all}
use Rattle.systems.specs.State.{common_for}
use Rattle.systems.specs.inner.Slots.{Polynomials}

-- one polynomial more, at the end
pub solves_next : (p n : ℕ) (C : List Congruence) (c : Congruence)
    → solves_all p n (C ++ (c ∷ [])) ≡ both (solves_all p n C) (roots c.coefficients p n)
unfolding solves_all
solves_next p n C c = fun_ext (at C)
  where
    at : (D : List Congruence) (r : ℕ) → solves_all p n (D ++ (c ∷ [])) r ≡ (solves_all p n D r && roots c.coefficients p n r)
    at [] r = and-true (roots c.coefficients p n r)
    at (d ∷ D) r =
        ap (λ (b : Bool). roots d.coefficients p n r && b) (at D r)
        ∙ sym (and_assoc (roots d.coefficients p n r) (solves_all p n D r) (roots c.coefficients p n r))

pub solves_one : (p n : ℕ) (c : Congruence) → solves_all p n (c ∷ []) ≡ roots c.coefficients p n
unfolding solves_all
solves_one p n c = fun_ext (λ r. and-true (roots c.coefficients p n r))

-- Everything

module _ (p n : ℕ) (two : 2 ≤ p) where
  hp : 0 < p
  hp = omega arith

  pub none_list : signed_list (solves_all p n []) p n ≡ signed_class (pos 0) 0 ∷ []
  unfolding solves_all
  none_list = signed-everything (solves_all p n []) p n hp (everything (solves_all p n []) p n two (λ r h. refl))

  pub none-count : count (solves_all p n []) p n ≡ p ^ n
  unfolding member_total
  none-count =
      sym (signed_total (solves_all p n []) p n hp)
      ∙ ap (λ (L : List SignedClass). member_total p n (levels_of L)) none_list
      ∙ add-zero (p ^ (n - 0))
      ∙ ap (λ (k : ℕ). p ^ k) (sub-zero n)

-- in the slots
pub none_common : (p n : ℕ) → 2 ≤ p
    → ◌≡◌ {A = Common} (record { classes = 1; roots = p ^ n; residues = replicate 1024 (pos 0); levels = replicate 1024 0 })
    (common_for (solves_all p n []) p n)
unfolding common_for
none_common p n two = rw (none_list p n two, none-count p n two)

-- "It has at most 1,024 classes."

module _ (p n : ℕ) (U : Usable p n (p ^ n)) where
  pub list-one : (c : Congruence) → length c.coefficients ≤ 65 → length (signed_list (roots c.coefficients p n) p n) ≤ 64
  unfolding solution
  list-one c few = solution_few c.coefficients U few

  list-most : (c : Congruence) (C : List Congruence) → ((d : Congruence) → In d (c ∷ C) → length d.coefficients ≤ 65)
      → length (signed_list (solves_all p n (c ∷ C)) p n) ≤ 64 * length (c ∷ C)
  unfolding solves_all
  list-most c [] few = rw (solves_one p n c) (list-one c (few c (here refl)))
  list-most c (d ∷ C) few =
      let ih = list-most d C (λ e u. few e (there u)) in
      omega (
        arith,
        both-length (roots c.coefficients p n) (solves_all p n (d ∷ C)) p n (prime_pos U.prime),
        list-one c (few c (here refl)),
      )

  pub list-few : (C : List Congruence) → Polynomials C → length C ≤ 16 → length (signed_list (solves_all p n C) p n) ≤ 1024
  list-few [] P h = omega (arith, ap length (none_list p n U.prime.two))
  list-few (c ∷ C) P h = omega (arith, list-most c C P.few)
