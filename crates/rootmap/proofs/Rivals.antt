-- The map of a list that is a rival of a set S: its bits are S, and its count is the set's, whatever the spare bits.
use Rattle.std.specs.Prelude.{Ok}
use mathlib.Core.Path.{◌≡◌, ap, ◌∙◌}
use mathlib.Core.Bool.{Bool}
use mathlib.Core.List.{List}
use Prim.Native.Nat.{ℕ, ◌*◌, ◌^◌, ◌≤◌, ◌<◌}
use native.Mathlib.Omega.{arith}
use lib.Dec.{eqb}
use lib.IntN.{ℤ}
use lib.ListN.{length}
use Rattle.theory.specs.Shortest.{count}
use Rattle.theory.specs.Rival.{Rival}
use Rattle.theory.specs.RootMap.{bit, map_length, root_map, ones}
use Rattle.theory.specs.SignedClass.{naturals}
use Rattle.theory.proofs.RootMap.{map_spare, ones_agree, rival-bit, rival-ones}
use Rattle.refusal.specs.Rules.{Verdict, value_or}
use Rattle.numbers.proofs.Rules.{usable_leads}
use Rattle.classes.specs.Rule7.{classes_of}
use Rattle.classes.specs.inner.Usable.{UsableList}
use Rattle.rootmap.specs.Map.{size_rules, map_filled, count_verdict, counted_of}
use Rattle.rootmap.proofs.Verdicts.{size_fits, usable-passes}
use Rattle.rootmap.proofs.Answers.{passes-map}

-- a list that the rules accept, pⁿ up to 524,288 and a map of the right length
module _ (p n : ℕ) (residues : List ℤ) (levels old : List ℕ) {m : ℕ} (C : UsableList p n residues levels m)
    (small : p ^ n ≤ 524288) (long : length old ≡ map_length (p ^ n)) where
  -- the call leaves the map of the list, whatever the map held
  pub accepted-map : map_filled p n residues levels old ≡ root_map p n (naturals p (classes_of residues levels))
  accepted-map = passes-map p n residues levels old (usable-passes p n residues levels (length old) C small long) long

  -- "spare high bits of the last byte are zero"
  pub accepted-spare : (r : ℕ) → p ^ n ≤ r → r < 8 * length old → bit (map_filled p n residues levels old) r ≡ 0
  accepted-spare r h b =
      ap (λ (l : List ℕ). bit l r) accepted-map ∙ map_spare p n (naturals p (classes_of residues levels)) r h (omega (arith, long))

  -- a map of that length is counted
  pub accepted-count : (map : List ℕ) → length map ≡ length old → counted_of p n map ≡ Ok (ones p n map)
  unfolding counted_of count_verdict
  accepted-count map same =
      ap (λ (v : Verdict). value_or v (ones p n map))
      (usable_leads C.modulus (size_rules (p ^ n) (length map)) ∙ size_fits (p ^ n) (length map) small (same ∙ long))

  module _ (S : ℕ → Bool) (rival : Rival S p n (naturals p (classes_of residues levels))) where
    -- bit r of the map is 1 exactly if r is in S
    pub rival-map-bit : (r : ℕ) → r < p ^ n → eqb (bit (map_filled p n residues levels old) r) 1 ≡ S r
    rival-map-bit r h =
        ap (λ (l : List ℕ). eqb (bit l r) 1) accepted-map ∙ rival-bit S p n (naturals p (classes_of residues levels)) rival r h

    -- the count of a map with the same first pⁿ bits is the number of residues in S, whatever its spare bits
    pub rival-map-count : (map : List ℕ) → length map ≡ length old
        → ((r : ℕ) → r < p ^ n → bit map r ≡ bit (map_filled p n residues levels old) r) → counted_of p n map ≡ Ok (count S p n)
    rival-map-count map same bits =
        accepted-count map same
        ∙ ap Ok
        (ones_agree p n map (map_filled p n residues levels old) bits
        ∙ ap (ones p n) accepted-map
        ∙ rival-ones S p n (naturals p (classes_of residues levels)) rival)
