-- The answers and the map's content, from the verdict.
use Rattle.std.specs.Prelude.{Ok, Err}
use mathlib.Core.Path.{◌≡◌, sym, ap, ◌∙◌}
use mathlib.Core.List.{List}
use Prim.Native.Nat.{ℕ, ◌^◌}
use lib.IntN.{ℤ}
use lib.ListN.{length}
use Rattle.theory.specs.Class.{Class}
use Rattle.theory.specs.ClassList.{members}
use Rattle.theory.specs.RootMap.{bit_of, map_length, root_map, ones}
use Rattle.theory.specs.SignedClass.{naturals}
use Rattle.theory.proofs.RootMap.{bytes_length}
use Rattle.refusal.specs.declared.Refusal.{Refusal}
use Rattle.refusal.specs.Rules.{Verdict, passes, refuses, filled, value_or}
use Rattle.refusal.proofs.Rules.{filled_whole}
use Rattle.classes.specs.Rule7.{classes_of}
use Rattle.rootmap.specs.inner.Bits.{map_of, ones_below}
use Rattle.rootmap.specs.Map.{map_verdict, mapped_of, map_filled, count_verdict, counted_of}

pub map-length : (p n : ℕ) (l : List Class) → length (root_map p n l) ≡ map_length (p ^ n)
unfolding root_map
map-length p n l = bytes_length (bit_of (members p l) (p ^ n)) (map_length (p ^ n)) 0

module _ (p n : ℕ) (residues : List ℤ) (levels : List ℕ) where
  pub mapped-is : (bytes : ℕ) (v : Verdict) → map_verdict p n residues levels bytes ≡ v
      → value_or v tt ≡ mapped_of p n residues levels bytes
  unfolding mapped_of
  mapped-is bytes v e = sym (ap (λ (w : Verdict). value_or w tt) e)

  -- where the rules pass, the map is the list's, whatever it held
  pub passes-map : (old : List ℕ) → map_verdict p n residues levels (length old) ≡ passes → length old ≡ map_length (p ^ n)
      → map_filled p n residues levels old ≡ root_map p n (naturals p (classes_of residues levels))
  unfolding map_filled
  passes-map old v long =
      let new = root_map p n (naturals p (classes_of residues levels)) in
      ap (λ (w : Verdict). filled w new old) v
      ∙ filled_whole new old (long ∙ sym (map-length p n (naturals p (classes_of residues levels))))

  pub filled_is : (old new : List ℕ) (m : ℕ) → map_verdict p n residues levels (length old) ≡ passes → m ≡ p ^ n
      → length old ≡ map_length m → new ≡ map_of (members p (naturals p (classes_of residues levels))) m
      → new ≡ map_filled p n residues levels old
  unfolding map_of root_map
  filled_is old new m v q long e =
      e ∙ ap (map_of (members p (naturals p (classes_of residues levels)))) q ∙ sym (passes-map old v (long ∙ ap map_length q))

  -- and as it was where one refuses
  pub kept-is : (old : List ℕ) (r : Refusal) → map_verdict p n residues levels (length old) ≡ refuses r
      → old ≡ map_filled p n residues levels old
  unfolding map_filled
  kept-is old r v = sym (ap (λ (w : Verdict). filled w (root_map p n (naturals p (classes_of residues levels))) old) v)

module _ (p n : ℕ) (map : List ℕ) where
  pub counted_is : (m k : ℕ) → count_verdict p n (length map) ≡ passes → m ≡ p ^ n → k ≡ ones_below m map → Ok k ≡ counted_of p n map
  unfolding counted_of ones_below
  counted_is m k v q e =
      ap Ok (e ∙ ap (λ (x : ℕ). ones_below x map) q) ∙ sym (ap (λ (w : Verdict). value_or w (ones p n map)) v)

  pub count-refused-is : (r : Refusal) → count_verdict p n (length map) ≡ refuses r → Err r ≡ counted_of p n map
  unfolding counted_of
  count-refused-is r v = sym (ap (λ (w : Verdict). value_or w (ones p n map)) v)
