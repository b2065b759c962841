-- The common list cut by that of one polynomial, and of several in turn, as structs.
use mathlib.Core.Path.{◌≡◌, sym, ap, ◌∙◌}
use mathlib.Core.Bool.{Bool}
use mathlib.Core.List.{List, [], ◌++◌, map}
use Prim.Native.Nat.{ℕ, ◌+◌, ◌^◌, ◌≤◌, ◌<◌, min}
use native.Mathlib.Omega.{arith}
use lib.IntN.{ℤ, pos}
use lib.ListN.{length, length-map, length-take, get_or, take, drop, replicate}
use Rattle.theory.specs.Polynomial.{roots}
use Rattle.theory.specs.ClassList.{member_total}
use Rattle.theory.specs.Shortest.{count}
use Rattle.theory.specs.SignedClass.{SignedClass, residues_of, levels_of}
use Rattle.theory.specs.SignedList.{signed_list}
use Rattle.theory.specs.inner.Cut.{both}
use Rattle.theory.proofs.Lists.Map.{get_d_map}
use Rattle.theory.proofs.Lists.Index.{in_at, in_take}
use Rattle.theory.proofs.Lists.Fill.{take_next}
use Rattle.numbers.specs.Saturated.{saturated}
use Rattle.numbers.specs.inner.Usable.{Usable}
use Rattle.numbers.proofs.Totals.{total_is}
use Rattle.systems.specs.declared.Common.{Common}
use Rattle.systems.specs.declared.Held.{Held}
use Rattle.systems.specs.Model.{Congruence, congruence, solves_all}
use Rattle.systems.specs.State.{slots, held_for, held_of, common_for}
use Rattle.systems.specs.inner.Slots.{Polynomials}
use Rattle.systems.specs.inner.Cutting.{ListOf, Written}
use Rattle.systems.proofs.HeldSlots.{slots_front}
use Rattle.systems.proofs.Commons.{solves_next, list-one, list-few}

-- the first slots of a list are the list
front : {A : Type 0} (f : SignedClass → A) (L : List SignedClass) (m : ℕ) (d : A) (k : ℕ) → k ≡ length L
    → take k (slots m d (map f L)) ≡ map f L
front f L m d k e = slots_front m d (map f L) k (e ∙ sym (length-map L f))

module _ (S : ℕ → Bool) (p n m k : ℕ) (residues : List ℤ) (levels : List ℕ) (number : k ≡ length (signed_list S p n))
    (residues_are : residues ≡ slots m (pos 0) (residues_of (signed_list S p n)))
    (levels_are : levels ≡ slots m 0 (levels_of (signed_list S p n))) where
  front-list : ListOf S p n (take k residues) (take k levels)
  front-list =
      record {
        residues_are = ap (take k) residues_are ∙ front (λ (c : SignedClass). c.residue) (signed_list S p n) m (pos 0) k number;
        levels_are = ap (take k) levels_are ∙ front (λ (c : SignedClass). c.level) (signed_list S p n) m 0 k number;
      }

-- the slots of the common list, and of a polynomial's
pub common_list : {S : ℕ → Bool} {p n : ℕ} {common : Common} (k : ℕ) → k ≡ min common.classes 1024 → common ≡ common_for S p n
    → length (signed_list S p n) ≤ 1024 → ListOf S p n (take k common.residues) (take k common.levels)
unfolding common_for
common_list {S} {p} {n} {common} k number e fits =
    front-list S p n 1024 k common.residues common.levels (omega (arith, ap (λ (c : Common). c.classes) e))
    (ap (λ (c : Common). c.residues) e) (ap (λ (c : Common). c.levels) e)

pub held_list : {S : ℕ → Bool} {p n : ℕ} {held : Held} (tag k : ℕ) → k ≡ min held.classes 64 → held ≡ held_for tag S p n
    → length (signed_list S p n) ≤ 64 → ListOf S p n (take k held.residues) (take k held.levels)
unfolding held_for
held_list {S} {p} {n} {held} tag k number e fits =
    front-list S p n 64 k held.residues held.levels (omega (arith, ap (λ (h : Held). h.classes) e))
    (ap (λ (h : Held). h.residues) e) (ap (λ (h : Held). h.levels) e)

-- a list written into slots of zeros, with its members added up
pub cut_common : (S : ℕ → Bool) {p n k roots : ℕ} {residues : List ℤ} {levels : List ℕ} → Usable p n (p ^ n)
    → Written (signed_list S p n) k (replicate 1024 (pos 0)) residues (replicate 1024 0) levels
    → roots ≡ saturated (member_total p n (take k levels))
    → ◌≡◌ {A = Common} (record { classes = k; roots = roots; residues = residues; levels = levels }) (common_for S p n)
unfolding common_for
cut_common S {p} {n} {k} {roots} {residues} {levels} U w total =
    let L = signed_list S p n in
    let rs : residues ≡ slots 1024 (pos 0) (residues_of L) =
    w.residues_are
    ∙ ap (λ (j : ℕ). residues_of L ++ drop j (replicate 1024 (pos 0))) (sym (length-map L (λ (c : SignedClass). c.residue))) in
    let ls : levels ≡ slots 1024 0 (levels_of L) =
    w.levels_are ∙ ap (λ (j : ℕ). levels_of L ++ drop j (replicate 1024 0)) (sym (length-map L (λ (c : SignedClass). c.level))) in
    let count_is : roots ≡ count S p n =
    total
    ∙ ap (λ (l : List ℕ). saturated (member_total p n l)) (ap (take k) ls ∙ front (λ (c : SignedClass). c.level) L 1024 0 k w.number)
    ∙ total_is S U in
    λ i. record { classes = w.number i; roots = count_is i; residues = rs i; levels = ls i }

-- Everything cut by each held polynomial in turn

-- the slots of at most 16 held polynomials
pub record HeldIn (p n : ℕ) (held : List Held) (C : List Congruence) : Type 0 where
  pub usable : Usable p n (p ^ n)
  pub polynomials : Polynomials C
  pub few : length C ≤ 16
  pub held_are : held ≡ map (held_of p n) C

module _ {p n : ℕ} {held : List Held} {C : List Congruence} (G : HeldIn p n held C) where
  abbrev none : Congruence
  none = congruence 0 []

  -- a slot in use
  pub long : length held ≡ length C
  long = ap length G.held_are ∙ length-map C (held_of p n)

  pub slot_is : (i : ℕ) (d : Held) → i < length held → get_or held i d ≡ held_of p n (get_or C i none)
  slot_is i d h = ap (λ (x : List Held). get_or x i d) G.held_are ∙ get_d_map (held_of p n) C i none d (omega (arith, long))

  front-polynomials : (i : ℕ) → Polynomials (take i C)
  front-polynomials i =
      record { some = λ c u. G.polynomials.some c (in_take C i c u); few = λ c u. G.polynomials.few c (in_take C i c u) }

  front-few : (i : ℕ) → length (take i C) ≤ 16
  front-few i = omega (arith, length-take i C, G.few)

  abbrev pub common_to : ℕ → Common
  common_to i = common_for (solves_all p n (take i C)) p n

  list-to : (i : ℕ) → length (signed_list (solves_all p n (take i C)) p n) ≤ 1024
  list-to i = list-few p n G.usable (take i C) (front-polynomials i) (front-few i)

  -- one polynomial more
  pub cut-next : {i : ℕ} {common r : Common} {h : Held} → i < length held → common ≡ common_to i → h ≡ held_of p n (get_or C i none)
      → ((S T : ℕ → Bool) (tag : ℕ) → Usable p n (p ^ n) → common ≡ common_for S p n → h ≡ held_for tag T p n
      → length (signed_list S p n) ≤ 1024 → length (signed_list T p n) ≤ 64 → length (signed_list (both S T) p n) ≤ 1024
      → r ≡ common_for (both S T) p n)
      → r ≡ common_to (i + 1)
  cut-next {i} u common-is h-is cut =
      let c = get_or C i none in
      let l : i < length C = omega (arith, long) in
      let S = solves_all p n (take i C) in
      let T = roots c.coefficients p n in
      let more : solves_all p n (take (i + 1) C) ≡ both S T = ap (solves_all p n) (take_next C i none l) ∙ solves_next p n (take i C) c in
      let fits : length (signed_list (both S T) p n) ≤ 1024 = rw more at (list-to (i + 1)) in
      cut S T c.tag G.usable common-is h-is (list-to i)
      (list-one p n G.usable c (G.polynomials.few c (in_at C i none l))) fits
      ∙ ap (λ (R : ℕ → Bool). common_for R p n) (sym more)
