-- Simple roots lift in one way, for every accepted call of the solver.
use mathlib.Core.Path.{◌≡◌, refl, sym, ap, ◌∙◌}
use mathlib.Core.Logic.{◌⊎◌, inl, inr}
use mathlib.Core.Bool.{Bool, true, false}
use mathlib.Core.List.{List}
use Prim.Native.Nat.{ℕ, zero, suc, ◌-◌, ◌%◌, ◌^◌, ◌≤◌, ◌<◌}
use native.Mathlib.Nat.{mod-eq_of_lt, mod-one, zero-mod, pow-zero, lt_of_lt_of_le}
use native.Mathlib.Omega.{arith}
use lib.ListN.{length, get_or}
use Rattle.theory.specs.Prime.{Prime}
use Rattle.theory.specs.Polynomial.{reduce, roots}
use Rattle.theory.specs.Class.{class, Member, member_count}
use Rattle.theory.specs.SignedClass.{SignedClass, signed, natural, signed_slot}
use Rattle.theory.specs.Mark.{mark}
use Rattle.theory.specs.Simple.{SimpleDigit, Contentℤ, SimpleDigitℤ, is_exceptional}
use Rattle.theory.proofs.Tests.{contradiction}
use Rattle.theory.proofs.Numbers.Power.{base_le}
use Rattle.theory.proofs.Numbers.Prime.{prime_pos}
use Rattle.theory.proofs.Classes.Equal.{class_equal}
use Rattle.theory.proofs.Classes.OneAbove.{OneAbove, above-intro, above-elim}
use Rattle.theory.proofs.Signed.Classes.{natural-signed}
use Rattle.theory.proofs.Mark.{mark_most}
use Rattle.theory.proofs.Simple.{simple-below, class-above, lifts-number, exceptional-list, usual-listed}
use Rattle.theory.proofs.Simple.{mark-above, mark-not-zero, mark-one-simple}
use Rattle.theory.proofs.SimpleIntegers.{content-only, simple-digit-integers}
use Rattle.stepping.specs.Call.{Input, Accepted, first_marks}
use Rattle.stepping.proofs.Accept.{accepted-usable}
use Rattle.stepping.proofs.Demand.{slots-are, list_length, third-demand}
use Rattle.lifting.specs.Lifting.{LiftsAlone, EverythingListed, Lifts, exponent, is_lift, class_in}
use Rattle.lifting.proofs.Slots.{class-is, slot_of, level_in, mark-in, class-fits, member-root}

one_or_two : (m : ℕ) → m ≤ 2 → ¬ (m ≡ 0) → (m ≡ 1) ⊎ (m ≡ 2)
one_or_two zero h none = absurd (none refl)
one_or_two (suc zero) h none = inl refl
one_or_two (suc (suc zero)) h none = inr refl
one_or_two (suc (suc (suc m))) h none = absurd (omega arith)

module _ (x : Input) {k roots-found : ℕ} (A : Accepted x k roots-found) where
  prime : Prime x.p
  prime = (accepted-usable x A).prime

  module _ (c : ℕ) (D : SimpleDigit x.f x.p x.n c) where
    abbrev S : ℕ → Bool
    S = roots x.f x.p x.n

    -- the class in slot i has the roots above c as members
    abbrev HoldsLifts : ℕ → Type 0
    HoldsLifts i = (r : ℕ) → r < x.p ^ x.n → is_lift x c r ≡ true → Member x.p x.n (class_in x k i) r

    -- and then no other has a member congruent to c: it would be a root, and a member of two classes
    others : (slot : ℕ) → slot < k → HoldsLifts slot
        → (i : ℕ) → i < k → (r : ℕ) → Member x.p x.n (class_in x k i) r → r % x.p ≡ c → i ≡ slot
    others slot h holds i l r m near =
        (third-demand x A).disjoint i slot l h r m (holds r m.below (above-intro S x.p c r (member-root x A i l r m, near)))

    s-below : exponent x < x.n
    s-below = simple-below prime D

    -- what is the same in both cases
    with-slot : (i : ℕ) → i < k → HoldsLifts i → (is_exceptional x.f x.p x.n ≡ false → LiftsAlone x k c i)
        → (is_exceptional x.f x.p x.n ≡ true → EverythingListed x k) → Lifts x k c
    with-slot i low holds usual exceptional =
        record {
          below = s-below;
          number = lifts-number prime D;
          slot = i;
          used = low;
          holds = holds;
          alone = others i low holds;
          usual = usual;
          exceptional = exceptional;
        }

    -- The class a/(n − s) of Hensel's lemma in slot i

    abbrev e : ℕ
    e = x.n - exponent x

    module _ (a : ℕ) (one : OneAbove S x.p x.n c e a) (i : ℕ) (low : i < k) (at : class_in x k i ≡ class a e) where
      holds-here : HoldsLifts i
      holds-here r l u = rw at (record { below = l; congruent = (one.exactly r).0 (above-elim S x.p c r u) })

      alone-here : LiftsAlone x k c i
      unfolding member_count
      alone-here =
          let back : x.n - e ≡ exponent x = omega (arith, s-below) in
          record {
            members = λ r m.
                let w : Member x.p x.n (class a e) r = rw at at m in
                above-intro S x.p c r ((one.exactly r).1 w.congruent);
            size = ap (member_count x.p x.n) at ∙ ap (λ (t : ℕ). x.p ^ t) back;
            level = level_in x A i low ∙ (λ j. (at j).level);
            mark =
                mark-in x A i low
                ∙ ap (mark x.f x.p x.n) at
                ∙ mark-above prime D (class a e) one.deep
                ((one.exactly a).1 (mod-eq_of_lt one.is_class.residue_fits)).1;
          }

    -- The class 0/0 in slot 0

    module _ (low : 0 < k) (at : class_in x k 0 ≡ class 0 0) where
      holds-all : (r : ℕ) → r < x.p ^ x.n → Member x.p x.n (class_in x k 0) r
      holds-all r l = rw at (record { below = l; congruent = rw (pow-zero x.p) (mod-one r) })

      mark-all : (get_or (first_marks x k) 0 0 ≡ 1) ⊎ (get_or (first_marks x k) 0 0 ≡ 2)
      mark-all =
          let d = class_in x k 0 in
          let member = holds-all c (lt_of_lt_of_le D.digit (base_le x.p (prime_pos prime) (omega (arith, s-below)))) in
          rw (mark-in x A 0 low)
          (one_or_two (mark x.f x.p x.n d) (mark_most x.f x.p x.n d (prime_pos prime))
          (mark-not-zero prime D d (class-fits x A 0 low) c member (mod-eq_of_lt D.digit)))

    -- "Simple roots lift in one way"
    pub simple-roots-lift : Lifts x k c
    unfolding natural reduce
    simple-roots-lift = go (is_exceptional x.f x.p x.n) refl
      where
        go : (b : Bool) → is_exceptional x.f x.p x.n ≡ b → Lifts x k c
        go false h =
            let (a, one) = class-above prime D in
            let (i, low, q) = slot_of x A (signed x.p (class a e)) (usual-listed prime D h) in
            let at : class_in x k i ≡ class a e = q ∙ natural-signed x.p x.n (prime_pos prime) (class a e) one.is_class in
            with-slot i low (holds-here a one i low at) (λ _. alone-here a one i low at) (λ w. absurd (contradiction w h))
        go true h =
            let list = exceptional-list prime D h in
            let low : 0 < k = omega (arith, list_length x A, ap length list) in
            let at : class_in x k 0 ≡ class 0 0 =
            class-is x A 0 ∙ ap (λ (l : List SignedClass). natural x.p (signed_slot l 0)) list ∙ class_equal (zero-mod (x.p ^ 0)) refl in
            with-slot 0 low (λ r l u. holds-all low at r l) (λ w. absurd (contradiction h w))
            (λ _. record { list = slots-are x A ∙ list; mark = mark-all low at })

  -- the same by the coefficients as given: p^s is the largest power of p that divides them all, and p^(s + 1) divides f(c) and not f'(c)
  pub simple-roots-lift-integers : (s c : ℕ) → s < x.n → Contentℤ x.f x.p s → c < x.p → SimpleDigitℤ x.f x.p s c
      → (exponent x ≡ s) × Lifts x k c
  simple-roots-lift-integers s c low C l I =
      let (left, e) = content-only x.f x.p x.n prime s low C in
      (e, simple-roots-lift c ((simple-digit-integers x.f x.p x.n prime left c l).1 (rw e I)))

  -- conversely a class with mark 1 lies above simple digits, so it is the one class of one of them, or everything
  pub marked-one-simple : (i : ℕ) → i < k → get_or (first_marks x k) i 0 ≡ 1 → (r : ℕ) → Member x.p x.n (class_in x k i) r
      → SimpleDigit x.f x.p x.n (r % x.p)
  marked-one-simple i low m r member =
      mark-one-simple x.f prime (class_in x k i) (class-fits x A i low) (sym (mark-in x A i low) ∙ m) r member
      (member-root x A i low r member)
