-- The same for a list with marks.
use Rattle.std.specs.Prelude.{Ok, Err}
use mathlib.Core.Path.{◌≡◌, sym, ap, ap₂, ◌∙◌}
use mathlib.Core.List.{List, [], ◌∷◌, ◌++◌}
use mathlib.Core.Bool.{Bool, false, not, ◌||◌}
use Prim.Native.Nat.{ℕ, ◌^◌, ◌≤◌, ◌<◌, min}
use native.Mathlib.Omega.{arith}
use borrow.Author.Tests.{ltb-false, lt-ltb, le-ltb}
use lib.Dec.{ltb}
use lib.IntN.{ℤ}
use lib.ListN.{length, get_or}
use Rattle.theory.specs.Range.{least}
use Rattle.theory.specs.SignedClass.{SignedClass}
use Rattle.theory.proofs.Tests.{or_fails_left, or_fails_right}
use Rattle.theory.proofs.Least.{least_or}
use Rattle.theory.proofs.Range.{before_least, least_range, least_found}
use Rattle.std.specs.Prelude.{Option, position}
use Rattle.std.specs.Option.{unwrap_or}
use Rattle.std.specs.List.{position_or_len}
use Rattle.std.proofs.lemmas.List.Sums.{position_or_len_is, prefix_len-le-length}
use native.Mathlib.Decide.{dec_lt}
use Rattle.refusal.specs.declared.Refusal.{Refusal}
use Rattle.refusal.specs.declared.Refusal.TheVariants.{Lengths, Entry}
use Rattle.refusal.specs.Rules.{Verdict, passes, refuses, tried, rule6_three, value_or}
use Rattle.refusal.proofs.Rules.{rule6_three_refuses, rule6_three_passes, rule_passes, tried-first, tried-both, tried_leads, tried_refuses, value_passes, value_refuses}
use Rattle.numbers.specs.Modulus.{modulus_rules, modulus_of}
use Rattle.numbers.specs.inner.Usable.{Usable}
use Rattle.numbers.proofs.Rules.{passes-usable, refused-leads, usable_leaves}
use Rattle.classes.specs.Rule7.{classes_of, fault_at, mark_above, first_fault, first_marked_fault, rule7_marked}
use Rattle.classes.specs.Checked.{marked_rules, marked_checked_of}
use Rattle.classes.specs.inner.Search.{first_high_mark}
use Rattle.classes.specs.inner.Usable.{Faultless, UsableMarked}
use Rattle.classes.proofs.Entries.{classes_same_length}
use Rattle.classes.proofs.Faults.{faultless_list, faultless-few}
use Rattle.classes.proofs.Checks.{same_three_lengths, none_below}

-- the first high mark by its position
position_least : (marks : List ℕ) → position_or_len (λ mark. ltb 2 mark) marks ≡ first_high_mark marks
unfolding first_high_mark mark_above
position_least marks =
    let f = mark_above marks in
    let k = length marks in
    position_or_len_is (λ mark. ltb 2 mark) marks (least f k 0) 0 (omega (arith, (least_range f k 0).1))
    (λ x h. before_least f k 0 x (omega arith) h) (λ h. least_found f k 0 (omega arith))

position_found : {X : Type 0} (test : X → Bool) (xs : List X) → unwrap_or (position test xs) (length xs) ≡ position_or_len test xs
position_found test xs = go (dec_lt (position_or_len test xs) (length xs))
  where
    go : Dec (position_or_len test xs < length xs) → unwrap_or (position test xs) (length xs) ≡ position_or_len test xs
    go (yes h) = rw (lt-ltb _ _ h)
    go (no h) =
        rw (le-ltb (position_or_len test xs) (length xs) (omega arith)) (omega (arith, prefix_len-le-length (λ x. not (test x)) xs))

pub high_mark_is : {k : ℕ} {place : Option ℕ} (residues : List ℤ) (marks : List ℕ) → length residues ≡ length marks
    → k ≡ unwrap_or place (length residues) → place ≡ position (λ mark. ltb 2 mark) marks → k ≡ first_high_mark marks
high_mark_is residues marks same given placed =
    given ∙ ap₂ unwrap_or placed same ∙ position_found (λ mark. ltb 2 mark) marks ∙ position_least marks

-- the first entry with a fault or a high mark is the first of the two
first_marked : (p n : ℕ) (L : List SignedClass) (marks : List ℕ) → length L ≡ length marks
    → first_marked_fault p n L marks ≡ min (first_fault p n L) (first_high_mark marks)
unfolding first_marked_fault first_fault first_high_mark
first_marked p n L marks e =
    least_or (fault_at p n L) (mark_above marks) (length L) 0
    ∙ ap (λ (k : ℕ). min (least (fault_at p n L) (length L) 0) (least (mark_above marks) k 0)) e

-- where rule 7 passes, no entry has either
marked_none : (p n : ℕ) (L : List SignedClass) (marks : List ℕ) → rule7_marked p n L marks ≡ passes
    → (j : ℕ) → j < length L → (fault_at p n L j ≡ false) × (mark_above marks j ≡ false)
unfolding rule7_marked first_marked_fault
marked_none p n L marks e j h =
    let first = first_marked_fault p n L marks in
    let none = none_below (λ i. fault_at p n L i || mark_above marks i) (length L) (rule_passes (ltb first (length L)) (Entry first) e) j h in
    (or_fails_left (fault_at p n L j) (mark_above marks j) none, or_fails_right (fault_at p n L j) (mark_above marks j) none)

mark_small : (marks : List ℕ) (i : ℕ) → mark_above marks i ≡ false → get_or marks i 0 ≤ 2
unfolding mark_above
mark_small marks i e = ltb-false 2 (get_or marks i 0) e

marked_refuses : (p n : ℕ) (L : List SignedClass) (marks : List ℕ) → first_marked_fault p n L marks < length L
    → rule7_marked p n L marks ≡ refuses (Entry (first_marked_fault p n L marks))
unfolding rule7_marked
marked_refuses p n L marks h = rw (lt-ltb (first_marked_fault p n L marks) (length L) h)

marked_passes_7 : (p n : ℕ) (L : List SignedClass) (marks : List ℕ) → length L ≤ first_marked_fault p n L marks
    → rule7_marked p n L marks ≡ passes
unfolding rule7_marked
marked_passes_7 p n L marks h = rw (le-ltb (first_marked_fault p n L marks) (length L) h)

module _ (p n : ℕ) (residues : List ℤ) (levels marks : List ℕ) where
  abbrev L : List SignedClass
  L = classes_of residues levels

  abbrev six : Verdict
  six = rule6_three (length residues) (length levels) (length marks)

  abbrev seven : Verdict
  seven = rule7_marked p n (classes_of residues levels) marks

  -- what an accepted list has
  pub marked-accepted : (m : ℕ) → marked_checked_of p n residues levels marks ≡ Ok m → UsableMarked p n residues levels marks m
  unfolding marked_checked_of
  marked-accepted m e =
      let both = value_passes (tried (marked_rules p n residues levels marks)) (p ^ n) m e in
      let parts = tried-both (modulus_rules p n) (six ∷ seven ∷ []) both.0 in
      let own-parts = tried-first six (seven ∷ []) parts.1 in
      let U = passes-usable p n parts.0 m both.1 in
      let same = same_three_lengths (length residues) (length levels) (length marks) own-parts.0 in
      let none = marked_none p n L marks (tried-first seven [] own-parts.1).0 in
      let F : Faultless p n L = faultless_list p n L (λ i h. (none i h).0) in
      record {
        accepted = both.0;
        modulus = U;
        same_length = same.0;
        same_marks = same.1;
        faultless = F;
        few =
            omega (
              arith,
              both.1,
              faultless-few p n L (omega (arith, U.prime.two)) F,
              classes_same_length residues levels same.0,
            );
        marks_small = λ i h. mark_small marks i (none i (omega (arith, classes_same_length residues levels same.0))).1;
      }

  -- a refusal is that of any longer list of rules that begins with these
  pub marked_refused : (r : Refusal) → marked_checked_of p n residues levels marks ≡ Err r → (rest : List Verdict)
      → tried (marked_rules p n residues levels marks ++ rest) ≡ refuses r
  unfolding marked_checked_of
  marked_refused r e rest =
      tried_refuses (marked_rules p n residues levels marks) rest r
      (value_refuses (tried (marked_rules p n residues levels marks)) (p ^ n) r e)

  -- and where they accept, the others decide
  pub marked-leads : {m : ℕ} → UsableMarked p n residues levels marks m → (rest : List Verdict)
      → tried (marked_rules p n residues levels marks ++ rest) ≡ tried rest
  marked-leads C rest = tried_leads (marked_rules p n residues levels marks) rest C.accepted

  -- a refusal by the rules on p and n
  pub marked-modulus : (r : Refusal) → modulus_of p n ≡ Err r → marked_checked_of p n residues levels marks ≡ Err r
  unfolding marked_checked_of
  marked-modulus r e = ap (λ v. value_or v (p ^ n)) (refused-leads p n r e (six ∷ seven ∷ []))

  -- the answer from the facts that the rules test
  module _ {m : ℕ} (U : Usable p n m) where
    -- by rule 6
    pub marked-6 : (length residues ≡ length levels → length residues ≡ length marks → ⊥)
        → marked_checked_of p n residues levels marks ≡ Err (Lengths (min (length residues) (min (length levels) (length marks))))
    unfolding marked_checked_of
    marked-6 h =
        usable_leaves U (six ∷ seven ∷ []) ∙ rw (rule6_three_refuses (length residues) (length levels) (length marks) h)

    module _ (same : length residues ≡ length levels) (same_marks : length residues ≡ length marks) (i j first : ℕ)
        (ei : i ≡ first_fault p n (classes_of residues levels)) (ej : j ≡ first_high_mark marks) (ef : first ≡ min i j) where
      first-is : first ≡ first_marked_fault p n L marks
      first-is =
          ef ∙ ap₂ min ei ej ∙ sym (first_marked p n L marks (classes_same_length residues levels same ∙ same_marks))

      -- by rule 7
      pub marked-7 : first < length residues → marked_checked_of p n residues levels marks ≡ Err (Entry first)
      unfolding marked_checked_of
      marked-7 h =
          usable_leaves U (six ∷ seven ∷ [])
          ∙ rw (
            rule6_three_passes (length residues) (length levels) (length marks) same same_marks,
            marked_refuses p n L marks (omega (arith, classes_same_length residues levels same, first-is)),
          )
          (ap (λ (k : ℕ). Err (Entry k)) (sym first-is))

      -- by none
      pub marked-passes : length residues ≤ first → marked_checked_of p n residues levels marks ≡ Ok m
      unfolding marked_checked_of
      marked-passes h =
          usable_leaves U (six ∷ seven ∷ [])
          ∙ rw (
            rule6_three_passes (length residues) (length levels) (length marks) same same_marks,
            marked_passes_7 p n L marks (omega (arith, classes_same_length residues levels same, first-is)),
          )
