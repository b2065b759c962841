-- The residues that solve all held polynomials depend on which polynomials are held, and neither on their order nor on how often each is
-- held.
use mathlib.Core.Path.{◌≡◌, refl, sym, ap, fun_ext}
use mathlib.Core.Bool.{Bool, true}
use mathlib.Core.List.{List, [], ◌∷◌}
use Prim.Native.Nat.{ℕ}
use Rattle.theory.specs.Lists.{In, here, there, Permutation}
use Rattle.theory.specs.Polynomial.{roots}
use Rattle.theory.specs.Shortest.{count}
use Rattle.theory.specs.SignedList.{signed_list}
use Rattle.theory.proofs.Tests.{and_left, and_right, and_intro, same_test}
use Rattle.theory.proofs.Lists.Names.{in-nil, perm-sym}
use Rattle.theory.proofs.Lists.Permutation.{perm_in}
use Rattle.systems.specs.Model.{Congruence, model, solves_all, common, common_count}

-- A residue solves all of them exactly if it solves each

module _ (p n r : ℕ) where
  pub solves-each : (C : List Congruence) → solves_all p n C r ≡ true → (c : Congruence) → In c C → roots c.coefficients p n r ≡ true
  unfolding solves_all
  solves-each [] e c u = absurd (in-nil u)
  solves-each (d ∷ C) e c (here q) = rw q (and_left (roots d.coefficients p n r) (solves_all p n C r) e)
  solves-each (d ∷ C) e c (there u) = solves-each C (and_right (roots d.coefficients p n r) (solves_all p n C r) e) c u

  pub each-solves : (C : List Congruence) → ((c : Congruence) → In c C → roots c.coefficients p n r ≡ true) → solves_all p n C r ≡ true
  unfolding solves_all
  each-solves [] all = refl
  each-solves (d ∷ C) all =
      and_intro (roots d.coefficients p n r) (solves_all p n C r) (all d (here refl)) (each-solves C (λ c u. all c (there u)))

-- every polynomial of C is one of D, under whatever tag
abbrev pub Among : List Congruence → List Congruence → Type 0
Among C D = (c : Congruence) → In c C → (d : Congruence) × In d D × (d.coefficients ≡ c.coefficients)

among_solves : (p n : ℕ) (C D : List Congruence) → Among C D → (r : ℕ) → solves_all p n D r ≡ true → solves_all p n C r ≡ true
among_solves p n C D among r e =
    each-solves p n r C (λ c u. let (d, v, same) = among c u in rw (sym same) (solves-each p n r D e d v))

module _ (p n : ℕ) {C D : List Congruence} (there-and : Among C D) (back : Among D C) where
  pub same-solved : solves_all p n C ≡ solves_all p n D
  same-solved =
      fun_ext (λ r. same_test (solves_all p n C r) (solves_all p n D r) (among_solves p n D C back r) (among_solves p n C D there-and r))

  -- the same polynomials, in whatever order and under whatever tags, have the same list and the same number of common roots
  pub same-common : common (model p n C) ≡ common (model p n D)
  unfolding common
  same-common = ap (λ (S : ℕ → Bool). signed_list S p n) same-solved

  pub same_count : common_count (model p n C) ≡ common_count (model p n D)
  unfolding common_count
  same_count = ap (λ (S : ℕ → Bool). count S p n) same-solved

-- So the order of coming does not matter

in_among : {C D : List Congruence} → ((c : Congruence) → In c C → In c D) → Among C D
in_among has c u = (c, has c u, refl)

pub any_order : (p n : ℕ) {C D : List Congruence} → Permutation C D
    → (common (model p n C) ≡ common (model p n D)) × (common_count (model p n C) ≡ common_count (model p n D))
any_order p n d =
    let one = in_among (λ c u. perm_in d u) in
    let other = in_among (λ c u. perm_in (perm-sym d) u) in
    (same-common p n one other, same_count p n one other)

-- and a polynomial that is held already, under another tag, changes neither
pub held_twice : (p n : ℕ) (C : List Congruence) (c d : Congruence) → In d C → d.coefficients ≡ c.coefficients
    → (common (model p n (c ∷ C)) ≡ common (model p n C)) × (common_count (model p n (c ∷ C)) ≡ common_count (model p n C))
held_twice p n C c d u e = (same-common p n one other, same_count p n one other)
  where
    one : Among (c ∷ C) C
    one x (here q) = (d, u, rw q e)
    one x (there v) = (x, v, refl)

    other : Among C (c ∷ C)
    other = in_among (λ x v. there v)
