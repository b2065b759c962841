-- What the rules say of a map and of its count.
use Rattle.std.specs.Prelude.{Result, Ok, Err}
use mathlib.Core.Path.{◌≡◌, refl, sym, ap, ◌∙◌}
use mathlib.Core.List.{List, [], ◌∷◌}
use Prim.Native.Nat.{ℕ, ◌^◌, ◌≤◌, ◌<◌}
use native.Mathlib.Omega.{arith}
use borrow.Author.Tests.{ltb-false, eqb-true, not-false}
use lib.Dec.{eqb, ltb}
use lib.IntN.{ℤ}
use mathlib.Core.Bool.{not}
use Rattle.theory.specs.RootMap.{map_length}
use Rattle.refusal.specs.declared.Refusal.{Refusal}
use Rattle.refusal.specs.declared.Refusal.TheVariants.{MapTooLarge, MapLength}
use Rattle.refusal.specs.Rules.{Verdict, passes, refuses, tried, rule9, rule10, value_or}
use Rattle.refusal.proofs.Rules.{rule9_refuses, rule9_passes, rule10_refuses, rule10_passes, rule_passes, tried-first}
use Rattle.numbers.specs.Modulus.{modulus_of}
use Rattle.numbers.specs.inner.Usable.{Usable}
use Rattle.numbers.proofs.Rules.{refused-leads, usable_leads}
use Rattle.classes.specs.Checked.{checked_of}
use Rattle.classes.specs.inner.Usable.{UsableList}
use Rattle.classes.proofs.Checks.{checked-leads, checked_refused}
use Rattle.rootmap.specs.Map.{size_rules, map_verdict, count_verdict}

-- Rules 9 and 10

pub too_large : (m bytes : ℕ) → 524288 < m → tried (size_rules m bytes) ≡ refuses MapTooLarge
too_large m bytes h = rw (rule9_refuses m h)

pub wrong_length : (m bytes : ℕ) → m ≤ 524288 → (bytes ≡ map_length m → ⊥) → tried (size_rules m bytes) ≡ refuses MapLength
wrong_length m bytes h ne = rw (rule9_passes m h, rule10_refuses bytes (map_length m) ne)

pub size_fits : (m bytes : ℕ) → m ≤ 524288 → bytes ≡ map_length m → tried (size_rules m bytes) ≡ passes
size_fits m bytes h e = rw (rule9_passes m h, rule10_passes bytes (map_length m) e)

-- what a map has that they pass
pub record Sized (m bytes : ℕ) : Type 0 where
  pub small : m ≤ 524288
  pub long : bytes ≡ map_length m

size_means : (m bytes : ℕ) → tried (size_rules m bytes) ≡ passes → Sized m bytes
size_means m bytes e =
    let parts = tried-first (rule9 m) (rule10 bytes (map_length m) ∷ []) e in
    let ten = (tried-first (rule10 bytes (map_length m)) [] parts.1).0 in
    record {
      small = ltb-false 524288 m (rule_passes (ltb 524288 m) MapTooLarge parts.0);
      long = eqb-true bytes (map_length m) (not-false (eqb bytes (map_length m))
          (rule_passes (not (eqb bytes (map_length m))) MapLength ten));
    }

done_means : (v : Verdict) (x : Unit {0}) → value_or {A = Unit {0}} v tt ≡ Ok x → v ≡ passes
done_means passes x e = refl
done_means (refuses r) x e = let z : ◌≡◌ {A = ℕ} 0 1 = cc in absurd (omega arith)

refused-means : (v : Verdict) (r : Refusal) → value_or {A = Unit {0}} v tt ≡ Err r → v ≡ refuses r
refused-means passes r e = let z : ◌≡◌ {A = ℕ} 0 1 = cc in absurd (omega arith)
refused-means (refuses s) r e = ap refuses (cc)

-- what their answer says
module _ (m bytes : ℕ) {answer : Result (Unit {0}) Refusal} (e : answer ≡ value_or (tried (size_rules m bytes)) tt) where
  pub size_known : {x : Unit {0}} → answer ≡ Ok x → tried (size_rules m bytes) ≡ passes
  size_known {x} f = done_means (tried (size_rules m bytes)) x (sym e ∙ f)

  pub size_refused : {r : Refusal} → answer ≡ Err r → tried (size_rules m bytes) ≡ refuses r
  size_refused {r} f = refused-means (tried (size_rules m bytes)) r (sym e ∙ f)

  pub sized : {x : Unit {0}} → answer ≡ Ok x → Sized m bytes
  sized f = size_means m bytes (size_known f)

module _ (p n : ℕ) (residues : List ℤ) (levels : List ℕ) (bytes : ℕ) where
  -- a list that the rules refuse
  pub list-refused : (r : Refusal) → checked_of p n residues levels ≡ Err r → map_verdict p n residues levels bytes ≡ refuses r
  unfolding map_verdict
  list-refused r e = checked_refused p n residues levels r e (size_rules (p ^ n) bytes)

  -- a list that they accept
  pub list-leads : {m : ℕ} → UsableList p n residues levels m → map_verdict p n residues levels bytes ≡ tried (size_rules m bytes)
  unfolding map_verdict
  list-leads C =
      checked-leads p n residues levels C (size_rules (p ^ n) bytes)
      ∙ ap (λ (x : ℕ). tried (size_rules x bytes)) (sym C.modulus.power)

  -- a list that the rules accept, with pⁿ up to 524,288 and the right length
  pub usable-passes : {m : ℕ} → UsableList p n residues levels m → p ^ n ≤ 524288 → bytes ≡ map_length (p ^ n)
      → map_verdict p n residues levels bytes ≡ passes
  unfolding map_verdict
  usable-passes C small long =
      checked-leads p n residues levels C (size_rules (p ^ n) bytes) ∙ size_fits (p ^ n) bytes small long

module _ (p n bytes : ℕ) where
  pub modulus-refused : (r : Refusal) → modulus_of p n ≡ Err r → count_verdict p n bytes ≡ refuses r
  unfolding count_verdict
  modulus-refused r e = refused-leads p n r e (size_rules (p ^ n) bytes)

  pub modulus_leads : {m : ℕ} → Usable p n m → count_verdict p n bytes ≡ tried (size_rules m bytes)
  unfolding count_verdict
  modulus_leads U = usable_leads U (size_rules (p ^ n) bytes) ∙ ap (λ (x : ℕ). tried (size_rules x bytes)) (sym U.power)
