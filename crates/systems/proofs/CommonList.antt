-- The common root list of a system that holds a model.
use mathlib.Core.Path.{◌≡◌, refl}
use mathlib.Core.Logic.{◌⊎◌, inl, inr}
use mathlib.Core.Bool.{Bool}
use mathlib.Core.List.{List, [], ◌∷◌}
use Prim.Native.Nat.{ℕ, ◌^◌, ◌≤◌, ◌<◌}
use lib.IntN.{pos}
use Rattle.theory.specs.Lists.{In, here, there}
use Rattle.theory.specs.Polynomial.{roots}
use Rattle.theory.specs.ClassList.{member_total}
use Rattle.theory.specs.SignedClass.{SignedClass, signed_class, residues_of, levels_of}
use Rattle.theory.specs.SignedList.{signed_list}
use Rattle.theory.specs.SignedDemand.{SignedDemand}
use Rattle.theory.proofs.Numbers.Prime.{prime_pos}
use Rattle.theory.proofs.Signed.Entries.{signed_total}
use Rattle.theory.proofs.Signed.Demand.{signed-demand}
use Rattle.theory.proofs.Signed.Cut.{listed-from}
use Rattle.std.specs.Prelude.{Ok}
use Rattle.classes.specs.Checked.{checked_of}
use Rattle.classes.proofs.ListAccepted.{list_accepted}
use Rattle.systems.specs.declared.System.{System}
use Rattle.systems.specs.Model.{Congruence, Model, solves_all, common, common_count}
use Rattle.systems.specs.State.{Holds}
use Rattle.systems.proofs.Commons.{none_list, none-count, solves_one}
use Rattle.systems.proofs.Holding.{held-usable}

module _ {s : System} {M : Model} (H : Holds s M) where
  two : 2 ≤ M.p
  two = (held-usable H).prime.two

  -- it is the shortest list of the residues that solve all held polynomials, alone of its length, and stepping through it gives each once
  pub common-demand : SignedDemand (solves_all M.p M.n M.held) M.p M.n (common M)
  unfolding common
  common-demand = signed-demand (solves_all M.p M.n M.held) M.p M.n two

  -- the root count is the sum of the member numbers
  pub common-total : member_total M.p M.n (levels_of (common M)) ≡ common_count M
  unfolding common common_count
  common-total = signed_total (solves_all M.p M.n M.held) M.p M.n (prime_pos (held-usable H).prime)

  -- next, map and the writer take the list
  pub common-accepted : checked_of M.p M.n (residues_of (common M)) (levels_of (common M)) ≡ Ok (M.p ^ M.n)
  unfolding common
  common-accepted = list_accepted (solves_all M.p M.n M.held) M.p M.n (M.p ^ M.n) (held-usable H)

  -- "With none held it is everything."
  pub common-of-none : M.held ≡ [] → (common M ≡ signed_class (pos 0) 0 ∷ []) × (common_count M ≡ M.p ^ M.n)
  unfolding common common_count
  common-of-none e = (rw e (none_list M.p M.n two), rw e (none-count M.p M.n two))

-- A class of the list is one of the list of a held polynomial

module _ (p n : ℕ) (hp : 0 < p) where
  abbrev list : (ℕ → Bool) → List SignedClass
  list S = signed_list S p n

  abbrev OneOf : SignedClass → List Congruence → Type 0
  OneOf c C = (d : Congruence) × In d C × In c (signed_list (roots d.coefficients p n) p n)

  either : {A B : Type 0} (c : SignedClass) (d e : Congruence) (C : List Congruence)
      → (In c (list (solves_all p n (e ∷ C))) → OneOf c (e ∷ C))
      → (In c (list (roots d.coefficients p n)) × A) ⊎ (In c (list (solves_all p n (e ∷ C))) × B) → OneOf c (d ∷ e ∷ C)
  either c d e C ih (inl x) = (d, here refl, x.0)
  either c d e C ih (inr x) = let (f, v, w) = ih x.0 in (f, there v, w)

  one_of : (c : SignedClass) (d : Congruence) (C : List Congruence) → In c (list (solves_all p n (d ∷ C))) → OneOf c (d ∷ C)
  unfolding solves_all
  one_of c d [] u = (d, here refl, rw (solves_one p n d) at u)
  one_of c d (e ∷ C) u = either c d e C (one_of c e C) (listed-from (roots d.coefficients p n) (solves_all p n (e ∷ C)) p n hp c u)

pub class_of_held : {s : System} {M : Model} → Holds s M → (M.held ≡ [] → ⊥) → (c : SignedClass) → In c (common M)
    → (d : Congruence) × In d M.held × In c (signed_list (roots d.coefficients M.p M.n) M.p M.n)
unfolding common
class_of_held {s} {M} H some c u = go M.held refl
  where
    go : (C : List Congruence) → M.held ≡ C
        → (d : Congruence) × In d M.held × In c (signed_list (roots d.coefficients M.p M.n) M.p M.n)
    go [] e = absurd (some e)
    go (d ∷ C) e = rw e (one_of M.p M.n (prime_pos (held-usable H).prime) c d C (rw e at u))
