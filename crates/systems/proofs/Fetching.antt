-- Fetching: the list that a system keeps is the common list of the model that it holds.
use mathlib.Core.Path.{◌≡◌, sym, ap, ap₂, ◌∙◌}
use mathlib.Core.List.{List, ◌++◌, map}
use Prim.Native.Nat.{ℕ, ◌≤◌, ◌<◌, min}
use native.Mathlib.Omega.{arith}
use lib.IntN.{ℤ, pos}
use Rattle.std.specs.Prelude.{Ok, Err}
use lib.ListN.{length, length-map, take, drop}
use Rattle.theory.specs.SignedClass.{SignedClass, residues_of, levels_of}
use Rattle.refusal.specs.declared.Refusal.TheVariants.{Lengths, TooFewSlots}
use Rattle.refusal.proofs.Rules.{rule6_refuses, rule6_passes, rule11_refuses, rule11_passes}
use Rattle.systems.specs.declared.System.{System}
use Rattle.systems.specs.Model.{Model, common, common_count}
use Rattle.systems.specs.Calls.{fetch_verdict, fetched_of, fetched_residues, fetched_levels}
use Rattle.systems.specs.State.{slots, common_for, system_of, Holds, FetchedFrom}
use Rattle.systems.proofs.HeldSlots.{slots_front}

module _ {s : System} {M : Model} (H : Holds s M) where
  -- the fields of the common list
  pub classes-are : s.common.classes ≡ length (common M)
  unfolding system_of common_for common
  classes-are = ap (λ (x : System). x.common.classes) H.kept

  pub roots-are : s.common.roots ≡ common_count M
  unfolding system_of common_for common_count
  roots-are = ap (λ (x : System). x.common.roots) H.kept

  residues_are : s.common.residues ≡ slots 1024 (pos 0) (residues_of (common M))
  unfolding system_of common_for common
  residues_are = ap (λ (x : System). x.common.residues) H.kept

  levels_are : s.common.levels ≡ slots 1024 0 (levels_of (common M))
  unfolding system_of common_for common
  levels_are = ap (λ (x : System). x.common.levels) H.kept

  module _ (residues : List ℤ) (levels : List ℕ) where
    -- rule 6
    pub fetch-lengths : (n : ℕ) → n ≡ min (length residues) (length levels) → (length residues ≡ length levels → ⊥)
        → FetchedFrom M residues levels (Err (Lengths n)) residues levels
    unfolding fetch_verdict fetched_of fetched_residues fetched_levels
    fetch-lengths n e h =
        let six = rule6_refuses (length residues) (length levels) h in
        record { answer = rw (six, e); residues_are = rw six; levels_are = rw six }

    module _ (same : length residues ≡ length levels) where
      -- rule 11
      pub fetch-slots : length residues < s.common.classes
          → FetchedFrom M residues levels (Err (TooFewSlots s.common.classes)) residues levels
      unfolding fetch_verdict fetched_of fetched_residues fetched_levels
      fetch-slots h =
          let six = rule6_passes (length residues) (length levels) same in
          let k = length (common M) in
          let eleven = rule11_refuses (length residues) k (omega (arith, classes-are)) in
          record { answer = rw (six, eleven, classes-are); residues_are = rw (six, eleven); levels_are = rw (six, eleven) }

      -- the first slots are copied
      pub fetch-found : {residues' : List ℤ} {levels' : List ℕ} → s.common.classes ≤ length residues
          → residues' ≡ take s.common.classes s.common.residues ++ drop s.common.classes residues
          → levels' ≡ take s.common.classes s.common.levels ++ drop s.common.classes levels
          → FetchedFrom M residues levels (Ok (record { classes = s.common.classes; roots = s.common.roots })) residues' levels'
      unfolding fetch_verdict fetched_of fetched_residues fetched_levels
      fetch-found h er el =
          let six = rule6_passes (length residues) (length levels) same in
          let k = length (common M) in
          let eleven = rule11_passes (length residues) k (omega (arith, classes-are)) in
          record {
            answer = rw (six, eleven, classes-are, roots-are);
            residues_are = rw (six, eleven)
                (er ∙ front (λ (c : SignedClass). c.residue) s.common.residues residues 1024 (pos 0) residues_are);
            levels_are = rw (six, eleven) (el ∙ front (λ (c : SignedClass). c.level) s.common.levels levels 1024 0 levels_are);
          }
        where
          front : {A : Type 0} (f : SignedClass → A) (kept lent : List A) (m : ℕ) (d : A) → kept ≡ slots m d (map f (common M))
              → take s.common.classes kept ++ drop s.common.classes lent
              ≡ map f (common M) ++ drop (length (map f (common M))) lent
          front f kept lent m d e =
              let L = map f (common M) in
              let n : s.common.classes ≡ length L = classes-are ∙ sym (length-map (common M) f) in
              ap₂ (λ (x : List _) (j : ℕ). x ++ drop j lent)
              (ap (take s.common.classes) e ∙ slots_front m d L s.common.classes n) n
