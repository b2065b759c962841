-- The answers of next, from what was tested.
use Rattle.std.specs.Prelude.{Ok, Err, None, Some}
use mathlib.Core.Path.{◌≡◌, refl, sym, ap, ◌∙◌}
use mathlib.Core.Bool.{Bool}
use mathlib.Core.List.{List, [], ◌∷◌}
use Prim.Native.Nat.{ℕ, ◌-◌, ◌^◌, ◌≤◌, ◌<◌}
use native.Mathlib.Decide.{dec_lt}
use native.Mathlib.Omega.{arith}
use borrow.Author.Tests.{lt-ltb, le-ltb}
use lib.IntN.{ℤ}
use Rattle.theory.specs.Range.{least, passing}
use Rattle.theory.specs.ClassList.{members, from}
use Rattle.theory.specs.SignedClass.{SignedClass, naturals, residues_of, levels_of}
use Rattle.theory.specs.SignedList.{signed_list}
use Rattle.theory.specs.Stepping.{first_of, next_in}
use Rattle.theory.proofs.Range.{before_least, passing_none}
use Rattle.refusal.specs.declared.Refusal.{Refusal}
use Rattle.refusal.specs.declared.Refusal.TheVariants.{Point}
use Rattle.refusal.specs.Rules.{passes, refuses, rule8, value_or}
use Rattle.refusal.proofs.Rules.{rule8_refuses, rule8_passes}
use Rattle.numbers.specs.inner.Usable.{Usable}
use Rattle.classes.specs.Rule7.{classes_of}
use Rattle.classes.specs.Checked.{checked_of}
use Rattle.classes.specs.Next.{next_verdict, first, next_of, answer_of}
use Rattle.classes.proofs.Entries.{classes_of_parts}
use Rattle.classes.specs.inner.Usable.{UsableList}
use Rattle.classes.proofs.Checks.{checked-accepted, checked_refused, checked-leads}
use Rattle.classes.proofs.ListAccepted.{list_accepted}
use Rattle.theory.proofs.Least.{passing-first}

module _ (p n : ℕ) (residues : List ℤ) (levels : List ℕ) (point : ℕ) where
  -- the list is refused
  pub next-refused : (r : Refusal) → checked_of p n residues levels ≡ Err r → next_of p n residues levels point ≡ Err r
  unfolding next_of next_verdict
  next-refused r e = rw (checked_refused p n residues levels r e (rule8 point (p ^ n) ∷ []))

  module _ (m : ℕ) (C : UsableList p n residues levels m) where
    -- 01's least member from the point on, and pⁿ where there is none
    abbrev least_member : ℕ
    least_member = least (members p (naturals p (classes_of residues levels))) (m - point) point

    verdict-past : p ^ n ≤ point → next_verdict p n residues levels point ≡ refuses Point
    unfolding next_verdict
    verdict-past h =
        checked-leads p n residues levels C (rule8 point (p ^ n) ∷ []) ∙ rw (rule8_refuses point (p ^ n) h)

    verdict-passes : point < p ^ n → next_verdict p n residues levels point ≡ passes
    unfolding next_verdict
    verdict-passes h =
        checked-leads p n residues levels C (rule8 point (p ^ n) ∷ []) ∙ rw (rule8_passes point (p ^ n) h)

    -- rule 8
    pub next_past : m ≤ point → next_of p n residues levels point ≡ Err Point
    unfolding next_of
    next_past h = rw (verdict-past (omega (arith, C.modulus.power)))

    -- no member is left
    pub next-none : point < m → (r : ℕ) → r ≡ least_member → m ≤ r → next_of p n residues levels point ≡ Ok None
    unfolding next_of from
    next-none h r q l =
        let e : p ^ n ≡ m = sym C.modulus.power in
        let S = members p (naturals p (classes_of residues levels)) in
        let empty : passing S (p ^ n - point) point ≡ [] =
        rw e (passing_none S (m - point) point (λ x low b. before_least S (m - point) point x low (omega arith))) in
        rw (verdict-passes (omega arith), empty)

    -- the first of those left
    pub next-found : point < m → (r : ℕ) → r ≡ least_member → r < m → next_of p n residues levels point ≡ Ok (Some r)
    unfolding next_of from
    next-found h r q l = go (passing-first (members p (naturals p (classes_of residues levels))) (m - point) point (omega arith))
      where
        go : (rest : List ℕ) × (passing (members p (naturals p (classes_of residues levels))) (m - point) point ≡ least_member ∷ rest)
            → next_of p n residues levels point ≡ Ok (Some r)
        go (rest, w) =
            let e : p ^ n ≡ m = sym C.modulus.power in
            let starts : passing (members p (naturals p (classes_of residues levels))) (p ^ n - point) point ≡ least_member ∷ rest = rw e w in
            rw (verdict-passes (omega arith), starts) (ap (λ (x : ℕ). Ok (Some x)) (sym q))

  -- on an accepted list next answers as the theory's `next_in`
  pub next-answers : (m : ℕ) → UsableList p n residues levels m
      → answer_of (next_of p n residues levels point) ≡ next_in (members p (naturals p (classes_of residues levels))) p n point
  unfolding next_of next_in
  next-answers m C = go (dec_lt point (p ^ n))
    where
      first-of : (rs : List ℕ) → answer_of (value_or passes (first rs)) ≡ first_of rs
      first-of [] = refl
      first-of (r ∷ rs) = refl

      go : Dec (point < p ^ n)
          → answer_of (next_of p n residues levels point) ≡ next_in (members p (naturals p (classes_of residues levels))) p n point
      go (yes h) =
          rw (verdict-passes m C h, lt-ltb point (p ^ n) h, next_in)
          (first-of (from (members p (naturals p (classes_of residues levels))) p n point))
      go (no h) = let l : p ^ n ≤ point = omega arith in rw (verdict-past m C l, le-ltb point (p ^ n) l, next_in)

-- on the list of S, as the solver fills it
pub list_answers : (S : ℕ → Bool) (p n m : ℕ) → Usable p n m → (point : ℕ)
    → answer_of (next_of p n (residues_of (signed_list S p n)) (levels_of (signed_list S p n)) point)
    ≡ next_in (members p (naturals p (signed_list S p n))) p n point
list_answers S p n m U point =
    let residues = residues_of (signed_list S p n) in
    let levels = levels_of (signed_list S p n) in
    next-answers p n residues levels point m (checked-accepted p n residues levels m (list_accepted S p n m U))
    ∙ ap (λ (l : List SignedClass). next_in (members p (naturals p l)) p n point) (classes_of_parts (signed_list S p n))
