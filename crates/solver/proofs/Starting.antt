-- The recursion started at given classes: the node of one, the polynomial f(a + p^t·y) modulo p^e there, and what is added, one class
-- after the other.
use mathlib.Core.Path.{◌≡◌, refl, sym, ap, ◌∙◌}
use mathlib.Core.Bool.{Bool}
use mathlib.Core.List.{List, [], ◌∷◌, ◌++◌}
use Prim.Native.Nat.{ℕ, zero, suc, ◌+◌, ◌^◌, ◌≤◌, ◌<◌, ◌∣◌, min}
use native.Mathlib.Omega.{arith}
use borrow.Author.Tests.{eq-eqb, ne_eqb}
use lib.ListN.{length, length-append, length-map, take}
use Rattle.theory.specs.Polynomial.{zeros}
use Rattle.theory.specs.Class.{Class, class, IsClass}
use Rattle.theory.specs.ClassList.{slot}
use Rattle.theory.specs.SignedClass.{signed}
use Rattle.theory.specs.Taylor.{shifted}
use Rattle.theory.specs.inner.Polynomial.{coef}
use Rattle.theory.specs.inner.Tree.{tree, flat}
use Rattle.theory.specs.inner.Started.{branch_at, under, tree_below, started}
use Rattle.theory.proofs.Lists.Fill.{take_next}
use Rattle.theory.proofs.Lists.Map.{map-append, map-map}
use Rattle.theory.proofs.Numbers.Power.{base_dvd}
use Rattle.theory.proofs.Classes.Concat.{flat_next}
use Rattle.theory.proofs.Polynomials.Congruence.{SameModulo, zeros_same}
use Rattle.theory.proofs.Polynomials.Zeros.{zeros-branch_at}
use Rattle.solver.specs.declared.entry.Entry.{Entry}
use Rattle.solver.specs.declared.tree.PrimePower.{PrimePower}
use Rattle.solver.specs.declared.tree.Settled.{Settled}
use Rattle.solver.specs.inner.Entry.{entry}
use Rattle.solver.specs.inner.Table.{Residues}
use Rattle.solver.specs.inner.Recursion.{IsPrimePower, IsNode, AtNode, Appended, Done, most_classes, within, entries_within}
use Rattle.solver.specs.inner.Start.{node_at, shifted_length, entries_of}
use Rattle.solver.proofs.Tables.{residues-below, residues_same}
use Rattle.solver.proofs.Shift.{shifted_end, shifted_beyond}
use Rattle.solver.proofs.Appended.{added_none, added_more}
use Rattle.solver.proofs.Most.{most-length}
use Rattle.solver.proofs.Child.{modulus_pos}

-- The number of coefficients: there are some, and no more than f has

pub length_top : (c e t : ℕ) → t ≡ 0 → shifted_length c e t ≡ c
unfolding shifted_length
length_top c e t h = rw (eq-eqb t 0 h, shifted_length)

pub length_deep : (c e t : ℕ) → 0 < t → shifted_length c e t ≡ min e c
unfolding shifted_length
length_deep c e t h = rw (ne_eqb t 0 (λ z. omega arith), shifted_length)

pub length_some : (c e t : ℕ) → 0 < c → t ≤ e → 0 < shifted_length c e t
length_some c e zero some h = omega (arith, length_top c e 0 refl)
length_some c e (suc t) some h = omega (arith, length_deep c e (suc t) (omega arith))

pub length_most : (c e t : ℕ) → shifted_length c e t ≤ c
length_most c e zero = omega (arith, length_top c e 0 refl)
length_most c e (suc t) = omega (arith, length_deep c e (suc t) (omega arith))

-- those past them vanish modulo p^e
beyond : (p e a t : ℕ) (f : List ℕ) (i : ℕ) → shifted_length (length f) e t ≤ i → p ^ e ∣ coef (shifted a (p ^ t) f) i
beyond p e a zero f i h = shifted_end (p ^ e) a (p ^ 0) f i (omega (arith, length_top (length f) e 0 refl))
beyond p e a (suc t) f i h =
    shifted_beyond p e a (p ^ suc t) f (base_dvd p (omega arith)) i (omega (arith, length_deep (length f) e (suc t) (omega arith)))

-- the codes of the classes below a node are those of the classes inside its class
codes_below : (S : ℕ → Bool) (p n : ℕ) (c : Class)
    → entries_within p (node_at p n c) (tree (branch_at S p c) p (node_at p n c).left) ≡ entries_of p (tree_below S p n c)
unfolding tree_below under within
codes_below S p n c = sym (map-map (λ (d : Class). entry (signed p d)) (under p c) (tree (branch_at S p c) p (node_at p n c).left))

module _ {M : PrimePower} (I : IsPrimePower M) {c : Class} (C : IsClass M.p M.exponent c) where
  abbrev p : ℕ
  p = M.p

  abbrev e : ℕ
  e = M.exponent

  pub class-node : IsNode M.p (node_at M.p M.exponent c)
  class-node =
      let all : c.level + (node_at p e c).left ≡ e = omega (arith, C.level_fits) in
      record {
        base = I.prime.two;
        power_is = refl;
        residue_fits = C.residue_fits;
        fits = rw (all, ← I.power_is) I.fits;
      }

  module _ (f : List ℕ) {g : List ℕ} (long : length g ≡ shifted_length (length f) M.exponent c.level)
      (r : Residues M.power g (shifted c.residue (M.p ^ c.level) f)) where
    same : SameModulo (p ^ e) g (shifted c.residue (p ^ c.level) f)
    same = residues_same (rw I.power_is at r) (λ i h. beyond p e c.residue c.level f i (omega (arith, long)))

    start-zeros : zeros g p e ≡ branch_at (zeros f p e) p c
    start-zeros = zeros_same g (shifted c.residue (p ^ c.level) f) p e same ∙ sym (zeros-branch_at f p e c)

    short : length f ≤ 65 → length g ≤ 65
    short h = omega (arith, long, length_most (length f) e c.level)

    pub start-at : length f ≤ 65 → AtNode g M (node_at M.p M.exponent c)
    start-at h = record { modulus = I; node = class-node; short = short h; below = residues-below (modulus_pos I) r }

    pub start-most : length f ≤ 65 → most_classes M.p g ≤ 64
    start-most h = most-length p I.prime g 64 (omega arith) (short h)

    pub start-added : {k : ℕ} {s : Settled} {out out' : List Entry}
        → Done (zeros g M.p M.exponent) M.p (node_at M.p M.exponent c) k s out out'
        → Appended (entries_of M.p (tree_below (zeros f M.p M.exponent) M.p M.exponent c)) k s.k out out'
    start-added d = rw (← codes_below (zeros f p e) p e c) (rw start-zeros at d.added)

-- One given class after the other

-- the lists of the first entries are together no longer than those of all
front_fewer : (f : Class → List Class) (G : List Class) (i : ℕ) → length (flat f (take i G)) ≤ length (flat f G)
unfolding flat
front_fewer f G zero = omega arith
front_fewer f [] (suc i) = omega arith
front_fewer f (c ∷ G) (suc i) =
    omega (arith, front_fewer f G i, length-append (f c) (flat f (take i G)), length-append (f c) (flat f G))

module _ (S : ℕ → Bool) (p n : ℕ) where
  pub started_none : (G : List Class) (out : List Entry) → Appended (entries_of p (started S p n (take 0 G))) 0 0 out out
  unfolding started flat
  started_none G out = added_none 0 out

  pub started-next : (G : List Class) (i : ℕ) {c : Class} {k k' : ℕ} {out₀ out out' : List Entry} → i < length G → slot G i ≡ c
      → Appended (entries_of p (started S p n (take i G))) 0 k out₀ out → Appended (entries_of p (tree_below S p n c)) k k' out out'
      → Appended (entries_of p (started S p n (take (i + 1) G))) 0 k' out₀ out'
  unfolding started
  started-next G i {c} h at old new =
      let front = take i G in
      let step : entries_of p (started S p n (take (i + 1) G)) ≡ entries_of p (started S p n front) ++ entries_of p (tree_below S p n c) =
      ap (λ (l : List Class). entries_of p (started S p n l)) (take_next G i (class 0 0) h)
      ∙ ap (λ (d : Class). entries_of p (started S p n (front ++ (d ∷ [])))) at
      ∙ ap (entries_of p) (flat_next (tree_below S p n) front c)
      ∙ map-append (λ (d : Class). entry (signed p d)) (started S p n front) (tree_below S p n c) in
      rw step (added_more old new)

  pub started-room : (G : List Class) (i room : ℕ) {k : ℕ} {out₀ out : List Entry}
      → Appended (entries_of p (started S p n (take i G))) 0 k out₀ out → length (started S p n G) + room ≤ length out₀
      → length out ≡ length out₀ → k + room ≤ length out
  unfolding started
  started-room G i room old fits long =
      omega (
        arith,
        old.number,
        length-map (started S p n (take i G)) (λ (d : Class). entry (signed p d)),
        front_fewer (tree_below S p n) G i,
      )
