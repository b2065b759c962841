-- The entries of a lent list of classes, by their index.
use mathlib.Core.Path.{◌≡◌, refl, ap, ◌∙◌}
use mathlib.Core.List.{List, [], ◌∷◌}
use Prim.Native.Nat.{ℕ, zero, suc, ◌<◌, min}
use native.Mathlib.Omega.{arith}
use lib.IntN.{ℤ, pos}
use lib.ListN.{length, length-map, get_or}
use Rattle.theory.specs.Class.{class}
use Rattle.theory.specs.ClassList.{slot}
use Rattle.theory.specs.SignedClass.{SignedClass, signed_class, natural, naturals, signed_slot, residues_of, levels_of}
use Rattle.theory.proofs.Lists.Map.{get_d_map}
use Rattle.classes.specs.Rule7.{classes_of}

pub classes_length : (residues : List ℤ) (levels : List ℕ) → length (classes_of residues levels) ≡ min (length residues) (length levels)
unfolding classes_of
classes_length [] levels = omega arith
classes_length (a ∷ residues) [] = omega arith
classes_length (a ∷ residues) (t ∷ levels) = omega (arith, classes_length residues levels)

pub classes_same_length : (residues : List ℤ) (levels : List ℕ) → length residues ≡ length levels
    → length (classes_of residues levels) ≡ length residues
classes_same_length residues levels e = omega (arith, classes_length residues levels)

pub classes_slot : (residues : List ℤ) (levels : List ℕ) (i : ℕ) → i < length residues → i < length levels
    → signed_slot (classes_of residues levels) i ≡ signed_class (get_or residues i (pos 0)) (get_or levels i 0)
unfolding classes_of
classes_slot [] levels i h l = absurd (omega arith)
classes_slot (a ∷ residues) [] i h l = absurd (omega arith)
classes_slot (a ∷ residues) (t ∷ levels) zero h l = refl
classes_slot (a ∷ residues) (t ∷ levels) (suc i) h l = classes_slot residues levels i (omega arith) (omega arith)

-- a list of classes is that of its residues and levels
pub classes_of_parts : (L : List SignedClass) → classes_of (residues_of L) (levels_of L) ≡ L
unfolding classes_of
classes_of_parts [] = refl
classes_of_parts (c ∷ L) = ap (λ (l : List SignedClass). c ∷ l) (classes_of_parts L)

-- and its levels are those given
pub classes_levels : (residues : List ℤ) (levels : List ℕ) → length residues ≡ length levels → levels_of (classes_of residues levels) ≡ levels
unfolding classes_of
classes_levels [] [] e = refl
classes_levels [] (t ∷ levels) e = absurd (omega arith)
classes_levels (a ∷ residues) [] e = absurd (omega arith)
classes_levels (a ∷ residues) (t ∷ levels) e = ap (λ (l : List ℕ). t ∷ l) (classes_levels residues levels (omega arith))

-- A list as 01's classes

pub natural-slot : (p : ℕ) (L : List SignedClass) (i : ℕ) → i < length L → slot (naturals p L) i ≡ natural p (signed_slot L i)
natural-slot p L i h = get_d_map (natural p) L i (signed_class (pos 0) 0) (class 0 0) h

module _ (p : ℕ) (residues : List ℤ) (levels : List ℕ) (same : length residues ≡ length levels) where
  pub lent_length : length (naturals p (classes_of residues levels)) ≡ length residues
  lent_length = length-map (classes_of residues levels) (natural p) ∙ classes_same_length residues levels same

  pub lent-slot : (i : ℕ) → i < length residues
      → slot (naturals p (classes_of residues levels)) i ≡ natural p (signed_class (get_or residues i (pos 0)) (get_or levels i 0))
  lent-slot i h =
      natural-slot p (classes_of residues levels) i (omega (arith, classes_same_length residues levels same))
      ∙ ap (natural p) (classes_slot residues levels i h (omega arith))
