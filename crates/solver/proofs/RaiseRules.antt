-- The rules of raising a list, one after the other.
use Rattle.std.specs.Prelude.{Ok, Err}
use mathlib.Core.Path.{◌≡◌, sym, ap, ◌∙◌}
use mathlib.Core.List.{List, [], ◌∷◌}
use Prim.Native.Nat.{ℕ, ◌^◌, ◌≤◌, min}
use lib.IntN.{ℤ}
use lib.ListN.{length}
use Rattle.refusal.specs.declared.Refusal.{Refusal}
use Rattle.refusal.specs.declared.Refusal.TheVariants.{Lengths, PrecisionsFall}
use Rattle.refusal.specs.Rules.{Verdict, refuses, tried, rule6, rule17, value_or}
use Rattle.refusal.proofs.Rules.{tried_leads, tried_refuses, rule6_refuses, rule6_passes, rule6_three_refuses, rule6_three_passes, value_passes, value_refuses}
use Rattle.refusal.proofs.Rules.{rule17_passes}
use Rattle.numbers.specs.Modulus.{rule5, precision_of}
use Rattle.numbers.specs.inner.Usable.{Usable}
use Rattle.numbers.proofs.Rules.{usable_leads}
use Rattle.classes.specs.Rule7.{classes_of, rule7}
use Rattle.classes.specs.Checked.{given_rules, checked_of}
use Rattle.solver.specs.declared.raise.LentLengths.{LentLengths}
use Rattle.solver.specs.Solve.{polynomial_rules}
use Rattle.solver.specs.Raise.{lists_rules}
use Rattle.solver.specs.inner.UsablePolynomial.{polynomial_modulus, UsablePolynomial}
use Rattle.solver.specs.inner.Raise.{raise_modulus, later_modulus, lists_modulus}
use Rattle.solver.proofs.Verdicts.{polynomial-refused}

-- the check of a given list, of which p, n and the lengths pass, is rule 7
pub checked_7 : (p n : ℕ) (residues : List ℤ) (levels : List ℕ) → length residues ≡ length levels → Usable p n (p ^ n)
    → checked_of p n residues levels ≡ value_or (tried (rule7 p n (classes_of residues levels) ∷ [])) (p ^ n)
unfolding checked_of given_rules
checked_7 p n residues levels same U =
    ap (λ (v : Verdict). value_or v (p ^ n))
    (usable_leads U (rule6 (length residues) (length levels) ∷ rule7 p n (classes_of residues levels) ∷ []))
    ∙ rw (rule6_passes (length residues) (length levels) same)

-- From rule 6 on

module _ (p n : ℕ) (residues : List ℤ) (levels : List ℕ) (l : LentLengths) (q : ℕ) where
  abbrev a : ℕ
  a = length residues

  abbrev b : ℕ
  b = length levels

  -- rule 6 for the given lists
  pub given-lengths : {x : ℕ} → x ≡ min a b → (a ≡ b → ⊥) → Err (Lengths x) ≡ lists_modulus p n residues levels l q
  unfolding lists_modulus
  given-lengths x-is h = rw (x-is, rule6_refuses a b h)

  -- and for those to be filled
  pub lent-lengths : {x : ℕ} → a ≡ b → x ≡ min l.residues (min l.levels l.marks)
      → (l.residues ≡ l.levels → l.residues ≡ l.marks → ⊥) → Err (Lengths x) ≡ lists_modulus p n residues levels l q
  unfolding lists_modulus
  lent-lengths same x-is h = rw (x-is, rule6_passes a b same, rule6_three_refuses l.residues l.levels l.marks h)

  module _ (same : a ≡ b) (d : l.residues ≡ l.levels) (e : l.residues ≡ l.marks) (U : Usable p n (p ^ n)) where
    left-to-7 : lists_modulus p n residues levels l q ≡ value_or (tried (rule7 p n (classes_of residues levels) ∷ [])) q
    unfolding lists_modulus
    left-to-7 = rw (rule6_passes a b same, rule6_three_passes l.residues l.levels l.marks d e)

    pub list-accepted : (x : ℕ) → checked_of p n residues levels ≡ Ok x → Ok q ≡ lists_modulus p n residues levels l q
    list-accepted x f =
        let seven = tried (rule7 p n (classes_of residues levels) ∷ []) in
        let (v, _) = value_passes seven (p ^ n) x (sym (checked_7 p n residues levels same U) ∙ f) in
        sym (left-to-7 ∙ ap (λ (v : Verdict). value_or v q) v)

    pub list-refused : (r : Refusal) → checked_of p n residues levels ≡ Err r → Err r ≡ lists_modulus p n residues levels l q
    list-refused r f =
        let seven = tried (rule7 p n (classes_of residues levels) ∷ []) in
        let v = value_refuses seven (p ^ n) r (sym (checked_7 p n residues levels same U) ∙ f) in
        sym (left-to-7 ∙ ap (λ (v : Verdict). value_or v q) v)

-- From rule 5 for m on

module _ (p n m : ℕ) (residues : List ℤ) (levels : List ℕ) (l : LentLengths) where
  abbrev rest : List Verdict
  rest = lists_rules p n residues levels l.residues l.levels l.marks

  pub precision-refused : (r : Refusal) → precision_of p m ≡ Err r → Err r ≡ later_modulus p n m residues levels l
  unfolding precision_of later_modulus
  precision-refused r e =
      let v = value_refuses (tried (rule5 p m ∷ [])) (p ^ m) r e in
      ap (λ (v : Verdict). value_or v (p ^ m))
      (sym (tried_refuses (rule5 p m ∷ []) (rule17 n m (length residues) (length levels) ∷ rest) r v))

  module _ (x : ℕ) (accepted : precision_of p m ≡ Ok x) where
    left-to-17 : later_modulus p n m residues levels l ≡ value_or (tried (rule17 n m (length residues) (length levels) ∷ rest)) (p ^ m)
    unfolding precision_of later_modulus
    left-to-17 =
        let (v, _) = value_passes (tried (rule5 p m ∷ [])) (p ^ m) x accepted in
        ap (λ (v : Verdict). value_or v (p ^ m)) (tried_leads (rule5 p m ∷ []) (rule17 n m (length residues) (length levels) ∷ rest) v)

    pub falls-refused : rule17 n m (length residues) (length levels) ≡ refuses PrecisionsFall
        → Err PrecisionsFall ≡ later_modulus p n m residues levels l
    falls-refused v = sym (left-to-17 ∙ rw v)

    pub left-to-lists : n ≤ m → length residues ≤ 64 → length levels ≤ 64
        → later_modulus p n m residues levels l ≡ lists_modulus p n residues levels l x
    unfolding precision_of lists_modulus
    left-to-lists h j k =
        let (_, x-is) = value_passes (tried (rule5 p m ∷ [])) (p ^ m) x accepted in
        left-to-17 ∙ rw (rule17_passes n m (length residues) (length levels) h j k, x-is)

-- All but rule 11

module _ (f : List ℤ) (p n m : ℕ) (residues : List ℤ) (levels : List ℕ) (l : LentLengths) where
  pub raise-refused : (r : Refusal) → polynomial_modulus f p n ≡ Err r → Err r ≡ raise_modulus f p n m residues levels l
  unfolding raise_modulus
  raise-refused r e =
      ap (λ (v : Verdict). value_or v (p ^ m))
      (sym (polynomial-refused f p n r e (rule5 p m ∷ rule17 n m (length residues) (length levels)
      ∷ lists_rules p n residues levels l.residues l.levels l.marks)))

  pub left-to-precision : {q : ℕ} → UsablePolynomial f p n q → raise_modulus f p n m residues levels l ≡ later_modulus p n m residues levels l
  unfolding raise_modulus later_modulus
  left-to-precision U =
      ap (λ (v : Verdict). value_or v (p ^ m))
      (tried_leads (polynomial_rules f p n) (rule5 p m ∷ rule17 n m (length residues) (length levels)
      ∷ lists_rules p n residues levels l.residues l.levels l.marks) U.accepted)
