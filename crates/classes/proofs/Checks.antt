-- What the answer of a checked list says, and the answer from the facts that the rules test.
use Rattle.std.specs.Prelude.{Ok, Err}
use mathlib.Core.Path.{◌≡◌, sym, ap, ◌∙◌}
use mathlib.Core.Bool.{Bool, true, false, not, ◌&&◌}
use mathlib.Core.List.{List, [], ◌∷◌, ◌++◌}
use Prim.Native.Nat.{ℕ, ◌^◌, ◌≤◌, ◌<◌, min}
use native.Mathlib.Omega.{arith}
use borrow.Author.Tests.{ltb-false, lt-ltb, le-ltb, not-false, eqb-true}
use lib.Dec.{ltb, eqb}
use lib.IntN.{ℤ}
use lib.ListN.{length}
use Rattle.theory.specs.Range.{least}
use Rattle.theory.specs.SignedClass.{SignedClass}
use Rattle.theory.proofs.Tests.{and_left, and_right}
use Rattle.theory.proofs.Range.{before_least}
use Rattle.refusal.specs.declared.Refusal.{Refusal}
use Rattle.refusal.specs.declared.Refusal.TheVariants.{Lengths, Entry}
use Rattle.refusal.specs.Rules.{Verdict, passes, refuses, tried, rule6, rule6_three, value_or}
use Rattle.refusal.proofs.Rules.{rule6_refuses, rule6_passes, rule_passes, tried-first, tried-both, tried_leads, tried_refuses, value_passes, value_refuses}
use Rattle.numbers.specs.Modulus.{modulus_rules, modulus_of}
use Rattle.numbers.specs.inner.Usable.{Usable}
use Rattle.numbers.proofs.Rules.{passes-usable, refused-leads, usable_leaves}
use Rattle.classes.specs.Rule7.{classes_of, fault_at, first_fault, rule7}
use Rattle.classes.specs.Checked.{given_rules, checked_of}
use Rattle.classes.specs.inner.Usable.{Faultless, UsableList}
use Rattle.classes.proofs.Entries.{classes_same_length}
use Rattle.classes.proofs.Faults.{faultless_list, faultless-few}

-- Each rule that passes

same_lengths : (a b : ℕ) → rule6 a b ≡ passes → a ≡ b
same_lengths a b e = eqb-true a b (not-false (eqb a b) (rule_passes (not (eqb a b)) (Lengths (min a b)) e))

pub same_three_lengths : (a b c : ℕ) → rule6_three a b c ≡ passes → (a ≡ b) × (a ≡ c)
same_three_lengths a b c e =
    let both : (eqb a b && eqb a c) ≡ true =
    not-false (eqb a b && eqb a c) (rule_passes (not (eqb a b && eqb a c)) (Lengths (min a (min b c))) e) in
    (eqb-true a b (and_left (eqb a b) (eqb a c) both), eqb-true a c (and_right (eqb a b) (eqb a c) both))

-- where the least of k tests is past the end, no test holds
pub none_below : (f : ℕ → Bool) (k : ℕ) → ltb (least f k 0) k ≡ false → (j : ℕ) → j < k → f j ≡ false
none_below f k e j h = before_least f k 0 j (omega arith) (omega (arith, ltb-false (least f k 0) k e))

-- a list that rule 7 passes has no fault
rule7_faultless : (p n : ℕ) (L : List SignedClass) → rule7 p n L ≡ passes → (j : ℕ) → j < length L → fault_at p n L j ≡ false
unfolding rule7 first_fault
rule7_faultless p n L e =
    none_below (fault_at p n L) (length L) (rule_passes (ltb (first_fault p n L) (length L)) (Entry (first_fault p n L)) e)

rule7_refuses : (p n : ℕ) (L : List SignedClass) → first_fault p n L < length L → rule7 p n L ≡ refuses (Entry (first_fault p n L))
unfolding rule7
rule7_refuses p n L h = rw (lt-ltb (first_fault p n L) (length L) h)

rule7_passes : (p n : ℕ) (L : List SignedClass) → length L ≤ first_fault p n L → rule7 p n L ≡ passes
unfolding rule7
rule7_passes p n L h = rw (le-ltb (first_fault p n L) (length L) h)

-- The checked list

module _ (p n : ℕ) (residues : List ℤ) (levels : List ℕ) where
  abbrev L : List SignedClass
  L = classes_of residues levels

  abbrev own : List Verdict
  own = rule6 (length residues) (length levels) ∷ rule7 p n (classes_of residues levels) ∷ []

  -- what an accepted list has
  pub checked-accepted : (m : ℕ) → checked_of p n residues levels ≡ Ok m → UsableList p n residues levels m
  unfolding checked_of
  checked-accepted m e =
      let both = value_passes (tried (given_rules p n residues levels)) (p ^ n) m e in
      let parts = tried-both (modulus_rules p n) own both.0 in
      let own-parts = tried-first (rule6 (length residues) (length levels)) (rule7 p n L ∷ []) parts.1 in
      let U = passes-usable p n parts.0 m both.1 in
      let same = same_lengths (length residues) (length levels) own-parts.0 in
      let F : Faultless p n L = faultless_list p n L (rule7_faultless p n L (tried-first (rule7 p n L) [] own-parts.1).0) in
      record {
        accepted = both.0;
        modulus = U;
        same_length = same;
        faultless = F;
        few =
            omega (
              arith,
              both.1,
              faultless-few p n L (omega (arith, U.prime.two)) F,
              classes_same_length residues levels same,
            );
      }

  -- a refusal is that of any longer list of rules that begins with these
  pub checked_refused : (r : Refusal) → checked_of p n residues levels ≡ Err r → (rest : List Verdict)
      → tried (given_rules p n residues levels ++ rest) ≡ refuses r
  unfolding checked_of
  checked_refused r e rest =
      tried_refuses (given_rules p n residues levels) rest r (value_refuses (tried (given_rules p n residues levels)) (p ^ n) r e)

  -- and where they accept, the others decide
  pub checked-leads : {m : ℕ} → UsableList p n residues levels m → (rest : List Verdict)
      → tried (given_rules p n residues levels ++ rest) ≡ tried rest
  checked-leads C rest = tried_leads (given_rules p n residues levels) rest C.accepted

  -- a refusal by the rules on p and n
  pub checked-modulus : (r : Refusal) → modulus_of p n ≡ Err r → checked_of p n residues levels ≡ Err r
  unfolding checked_of
  checked-modulus r e = ap (λ v. value_or v (p ^ n)) (refused-leads p n r e own)

  -- the answer from the facts that the rules test
  module _ {m : ℕ} (U : Usable p n m) where
    -- by rule 6
    pub checked-6 : (length residues ≡ length levels → ⊥)
        → checked_of p n residues levels ≡ Err (Lengths (min (length residues) (length levels)))
    unfolding checked_of
    checked-6 h = usable_leaves U own ∙ rw (rule6_refuses (length residues) (length levels) h)

    module _ (same : length residues ≡ length levels) (i : ℕ) (e : i ≡ first_fault p n L) where
      -- by rule 7
      pub checked-7 : i < length residues → checked_of p n residues levels ≡ Err (Entry i)
      unfolding checked_of
      checked-7 h =
          usable_leaves U own
          ∙ rw (
            rule6_passes (length residues) (length levels) same,
            rule7_refuses p n L (omega (arith, classes_same_length residues levels same)),
          ) (ap (λ (k : ℕ). Err (Entry k)) (sym e))

      -- by none
      pub checked-passes : length residues ≤ i → checked_of p n residues levels ≡ Ok m
      unfolding checked_of
      checked-passes h =
          usable_leaves U own
          ∙ rw (
            rule6_passes (length residues) (length levels) same,
            rule7_passes p n L (omega (arith, classes_same_length residues levels same)),
          )
