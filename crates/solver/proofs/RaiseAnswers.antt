-- What raising a list answers: where all rules but 11 pass, it is the answer on residues.
use Rattle.std.specs.Prelude.{Ok, Err}
use mathlib.Core.Path.{◌≡◌, refl, sym, ap, ◌∙◌}
use mathlib.Core.Bool.{◌||◌}
use mathlib.Core.List.{List, [], ◌∷◌, map}
use Prim.Native.Nat.{ℕ, ◌^◌, ◌≤◌, ◌<◌}
use native.Mathlib.Omega.{arith}
use borrow.Author.Tests.{ltb-false, eqb-true, not-false}
use lib.Dec.{eqb, ltb}
use lib.IntN.{ℤ}
use lib.ListN.{length, length-map}
use Rattle.theory.specs.Polynomial.{reduce, reduced, roots}
use Rattle.theory.specs.Shortest.{count}
use Rattle.theory.specs.Mark.{mark}
use Rattle.theory.proofs.Tests.{or_fails_left, or_fails_right}
use Rattle.refusal.specs.declared.Refusal.{Refusal}
use Rattle.refusal.specs.declared.Refusal.TheVariants.{PrecisionsFall, Lengths, TooFewSlots}
use Rattle.refusal.specs.Rules.{Verdict, passes, tried, rule6, rule6_three, rule11, rule17, value_or}
use Rattle.refusal.proofs.Rules.{tried_leads, tried_refuses, tried-both, tried-first, rule_passes, rule11_refuses, rule11_passes, value_passes, value_refuses}
use Rattle.numbers.specs.Modulus.{rule4, rule14, rule5, modulus_rules}
use Rattle.numbers.specs.inner.Usable.{Usable}
use Rattle.numbers.proofs.Rules.{passes-usable}
use Rattle.classes.specs.Rule7.{classes_of, rule7}
use Rattle.classes.specs.Checked.{checked_of}
use Rattle.classes.proofs.Checks.{same_three_lengths, checked-accepted}
use Rattle.classes.proofs.Faults.{faultless_higher}
use Rattle.solver.specs.declared.raise.LentLengths.{LentLengths}
use Rattle.solver.specs.Solve.{Lists, polynomial_rules, lists_filled}
use Rattle.solver.specs.Raise.{raise_rules, roots_among, raised, raised_marks, raise_verdict, listed, raised_of, raised_lists}
use Rattle.solver.specs.inner.UsablePolynomial.{polynomial_modulus, UsablePolynomial}
use Rattle.solver.specs.inner.Raise.{raise_modulus, GivenClasses, classes_among, among_verdict, among_raised, among_lists}
use Rattle.solver.proofs.Coefficients.{row_below}
use Rattle.solver.proofs.Among.{among-few}
use Rattle.solver.proofs.Verdicts.{usable-polynomial}
use Rattle.solver.proofs.RaiseRules.{checked_7}

-- the lengths of lent lists
abbrev pub lengths_of : Lists → LentLengths
lengths_of given = record { residues = length given.residues; levels = length given.levels; marks = length given.marks }

-- On residues, by rule 11

module _ (w : List ℕ) (p n : ℕ) (residues : List ℤ) (levels : List ℕ) (given : Lists) {x : ℕ}
    (x-is : x ≡ length (classes_among w p n (classes_of residues levels))) where
  pub among-refused : length given.residues < x
      → (Err (TooFewSlots x) ≡ among_raised w p n (classes_of residues levels) given)
      × (given ≡ among_lists w p n (classes_of residues levels) given)
  unfolding among_verdict
  among-refused h = rw (x-is, rule11_refuses (length given.residues) _ (rw x-is at h)) (refl, refl)

  pub among-pass : x ≤ length given.residues → among_verdict w p n (classes_of residues levels) given ≡ passes
  unfolding among_verdict
  among-pass h = rw (rule11_passes (length given.residues) _ (rw x-is at h))

-- On integers, by all rules

module _ (f : List ℤ) (p n m : ℕ) (residues : List ℤ) (levels : List ℕ) (given : Lists) where
  abbrev l : LentLengths
  l = lengths_of given

  abbrev lent-6 : Verdict
  lent-6 = rule6_three l.residues l.levels l.marks

  abbrev from-7 : List Verdict
  from-7 = rule7 p n (classes_of residues levels) ∷ []

  abbrev from-6 : List Verdict
  from-6 = rule6 (length residues) (length levels) ∷ lent-6 ∷ from-7

  abbrev from-17 : List Verdict
  from-17 = rule17 n m (length residues) (length levels) ∷ from-6

  abbrev rules : List Verdict
  rules = raise_rules f p n m residues levels l.residues l.levels l.marks

  abbrev last : List Verdict
  last = rule11 (length given.residues) (length (raised f p m (classes_of residues levels))) ∷ []

  -- a refusal alters nothing
  pub raised-refused : (r : Refusal) → raise_modulus f p n m residues levels (lengths_of given) ≡ Err r
      → (Err r ≡ raised_of f p n m residues levels given) × (given ≡ raised_lists f p n m residues levels given)
  unfolding raise_modulus raise_verdict raised_of raised_lists
  raised-refused r e =
      rw (tried_refuses rules last r (value_refuses (tried rules) (p ^ m) r e)) (refl, refl)

  module _ (q : ℕ) (accepted : raise_modulus f p n m residues levels (lengths_of given) ≡ Ok q) where
    -- the rules one by one
    all_pass : (tried rules ≡ passes) × (q ≡ p ^ m)
    unfolding raise_modulus
    all_pass = value_passes (tried rules) (p ^ m) q accepted

    parts : (tried (polynomial_rules f p n) ≡ passes) × (tried (rule5 p m ∷ from-17) ≡ passes)
    parts = tried-both (polynomial_rules f p n) (rule5 p m ∷ from-17) all_pass.0

    after-5 : (rule5 p m ≡ passes) × (tried from-17 ≡ passes)
    after-5 = tried-first (rule5 p m) from-17 parts.1

    after-17 : (rule17 n m (length residues) (length levels) ≡ passes) × (tried from-6 ≡ passes)
    after-17 = tried-first (rule17 n m (length residues) (length levels)) from-6 after-5.1

    after-6 : (rule6 (length residues) (length levels) ≡ passes) × (tried (lent-6 ∷ from-7) ≡ passes)
    after-6 = tried-first (rule6 (length residues) (length levels)) (lent-6 ∷ from-7) after-17.1

    after-lent : (lent-6 ≡ passes) × (tried from-7 ≡ passes)
    after-lent = tried-first lent-6 from-7 after-6.1

    -- what they leave
    polynomial : UsablePolynomial f p n (p ^ n)
    unfolding polynomial_modulus
    polynomial = usable-polynomial f p n (p ^ n) (rw parts.0)

    pub raise-some : 0 < length f
    raise-some = polynomial.some

    pub raise-few : length f ≤ 65
    raise-few = polynomial.few

    pub raise-usable : Usable p m q
    unfolding modulus_rules
    raise-usable =
        let (four, rest) = tried-first (rule4 p) (rule14 p ∷ rule5 p n ∷ []) polynomial.modulus.accepted in
        let (fourteen, _) = tried-first (rule14 p) (rule5 p n ∷ []) rest in
        passes-usable p m (rw (four, fourteen, after-5.0)) q all_pass.1

    pub raise-lent : (length given.residues ≡ length given.levels) × (length given.residues ≡ length given.marks)
    raise-lent = same_three_lengths l.residues l.levels l.marks after-lent.0

    same_length : length residues ≡ length levels
    same_length =
        eqb-true (length residues) (length levels)
        (not-false (eqb (length residues) (length levels)) (rule_passes _ (Lengths _) after-6.0))

    falls-not : (n ≤ m) × (length residues ≤ 64)
    falls-not =
        let a = ltb m n in
        let b = ltb 64 (length residues) in
        let c = ltb 64 (length levels) in
        let e = or_fails_left (a || b) c (rule_passes _ PrecisionsFall after-17.0) in
        (ltb-false m n (or_fails_left a b e), ltb-false 64 (length residues) (or_fails_right a b e))

    list-checked : checked_of p n residues levels ≡ Ok (p ^ n)
    list-checked =
        checked_7 p n residues levels same_length polynomial.modulus ∙ ap (λ (v : Verdict). value_or v (p ^ n)) after-lent.1

    pub raise-given : GivenClasses p m residues levels
    raise-given =
        record {
          same_length = same_length;
          few = falls-not.1;
          faultless = faultless_higher falls-not.0 (checked-accepted p n residues levels (p ^ n) list-checked).faultless;
        }

    -- rule 11 is left
    verdict-is : raise_verdict f p n m residues levels given ≡ among_verdict (reduced f p m) p m (classes_of residues levels) given
    unfolding raise_verdict raised roots_among roots among_verdict
    verdict-is = tried_leads rules last all_pass.0

    pub raised_is : raised_of f p n m residues levels given ≡ among_raised (reduced f p m) p m (classes_of residues levels) given
    unfolding raised_of raised roots_among roots
    raised_is =
        let G = classes_of residues levels in
        ap (λ (v : Verdict). value_or v (listed (length (raised f p m G)) (count (roots_among f p m G) p m))) verdict-is

    pub raised-lists-are : raised_lists f p n m residues levels given ≡ among_lists (reduced f p m) p m (classes_of residues levels) given
    unfolding raised_lists raised roots_among roots mark
    raised-lists-are =
        let G = classes_of residues levels in
        ap (λ (v : Verdict). lists_filled v (raised f p m G) (raised_marks f p m G) given) verdict-is

    -- 128 slots are enough for any result
    pub raised-few : length (raised f p m (classes_of residues levels)) ≤ 128
    unfolding raised roots_among roots reduced
    raised-few =
        among-few raise-usable (omega (arith, length-map f (reduce (p ^ m)), raise-few))
        (row_below f raise-usable (ap (λ (x : ℕ). map (reduce x) f) (sym all_pass.1))) raise-given
