-- Adding and withdrawing: a system that holds a model, after each way of each call.
use Rattle.std.proofs.Common.{◌≡◌, Bool, true, false, not, List, [], ◌∷◌, ◌++◌, map, ℕ, ◌+◌, ◌-◌, ◌^◌, ◌≤◌, ◌<◌, min, ℤ, length}
use Rattle.std.proofs.Common.{take, set, Option, Some, is_some, Result, Ok, Err, refl, sym, ap, ap₂, ◌∙◌, arith, length-append}
use Rattle.std.specs.List.{position, remove}
use Rattle.std.proofs.lemmas.List.{length-map}
use Rattle.theory.specs.Polynomial.{roots}
use Rattle.theory.specs.SignedList.{signed_list}
use Rattle.theory.specs.inner.Cut.{both}
use Rattle.theory.proofs.Lists.Map.{map-append}
use Rattle.refusal.specs.declared.Refusal.{Refusal}
use Rattle.refusal.specs.declared.Refusal.TheVariants.{NoCoefficient, TooManyCoefficients, Tag, Full}
use Rattle.refusal.specs.Rules.{passes, refuses, tried, rule15, rule16}
use Rattle.refusal.proofs.Rules.{rule2_refuses, rule2_passes, rule3_refuses, coefficients_lead, rule15_refuses, rule15_passes}
use Rattle.refusal.proofs.Rules.{rule16_refuses, rule16_passes}
use Rattle.numbers.specs.inner.Usable.{Usable}
use Rattle.systems.specs.declared.Common.{Common}
use Rattle.systems.specs.declared.Held.{Held}
use Rattle.systems.specs.declared.System.{System}
use Rattle.systems.specs.Model.{Congruence, congruence, Model, is_held, without, solves_all, common}
use Rattle.systems.specs.Calls.{add_verdict, after_add, withdraw_verdict, after_withdraw}
use Rattle.systems.specs.State.{slots, blank, held_for, held_of, common_for, system_of, Holds, Changed, added_of, withdrawn_of}
use Rattle.systems.specs.inner.Slots.{Polynomials}
use Rattle.systems.proofs.HeldSlots.{slots_front, slots_put, slots_cleared}
use Rattle.systems.proofs.Tags.{kept, has_tag, position-held, Sought, sought, without-length, without-most, polynomials_next}
use Rattle.systems.proofs.Tags.{polynomials_without}
use Rattle.systems.proofs.Commons.{solves_next, list-one, list-few}
use Rattle.systems.proofs.Holding.{held-usable, held-polynomials, common-few}

-- A system that holds a model

module _ {s : System} {M : Model} (H : Holds s M) (tag : ℕ) where
  abbrev held : List Congruence
  held = M.held

  p_is : s.p ≡ M.p
  unfolding system_of
  p_is = ap (λ (x : System). x.p) H.kept

  n_is : s.n ≡ M.n
  unfolding system_of
  n_is = ap (λ (x : System). x.n) H.kept

  pub count_is : (count : ℕ) → count ≡ min s.count 16 → count ≡ length held
  unfolding system_of
  count_is count e = omega (arith, ap (λ (x : System). x.count) H.kept, H.few)

  held-is : s.held ≡ slots 16 blank (kept M.p M.n tag held)
  unfolding system_of
  held-is = ap (λ (x : System). x.held) H.kept

  common-is : s.common ≡ common_for (solves_all M.p M.n held) M.p M.n
  unfolding system_of
  common-is = ap (λ (x : System). x.common) H.kept

  -- the slots in use are those of the model
  front-is : (count : ℕ) → count ≡ length held → take count s.held ≡ kept M.p M.n tag held
  front-is count number =
      ap (take count) held-is
      ∙ slots_front 16 blank (kept M.p M.n tag held) count (number ∙ sym (length-map held (held_of M.p M.n)))

  -- what the search for the tag finds
  module _ (count : ℕ) (number : count ≡ length held) (at : Option ℕ)
      (found : at ≡ position (has_tag M.p M.n tag) (take count s.held)) where
    in-kept : position (has_tag M.p M.n tag) (kept M.p M.n tag held) ≡ at
    in-kept = ap (position (has_tag M.p M.n tag)) (sym (front-is count number)) ∙ sym found

    pub tag-held : is_some at ≡ is_held tag held
    tag-held = ap is_some (sym in-kept) ∙ position-held M.p M.n tag held

    pub tag_sought : (i : ℕ) → at ≡ Some i → Sought M.p M.n tag held i
    tag_sought i e = sought M.p M.n tag held i (in-kept ∙ e)

  -- Adding

  module _ (f : List ℤ) where
    -- a refusal gives the system back
    pub add-refused : (r : Refusal) → add_verdict M tag f ≡ refuses r
        → ◌≡◌ {A = Changed} (record { system = s; outcome = Err r }) (added_of M tag f)
    unfolding added_of after_add
    add-refused r e = rw (e, H.kept)

    pub add_none : length f ≡ 0 → add_verdict M tag f ≡ refuses NoCoefficient
    unfolding add_verdict
    add_none e = rw (rule2_refuses (length f) e)

    pub add-many : 65 < length f → add_verdict M tag f ≡ refuses TooManyCoefficients
    unfolding add_verdict
    add-many h = rw (rule2_passes (length f) (λ e. omega arith), rule3_refuses (length f) h)

    module _ (some : length f ≡ 0 → ⊥) (few : length f ≤ 65) where
      left-to-tag : add_verdict M tag f ≡ tried (rule15 (is_held tag held) ∷ rule16 (length held) ∷ [])
      unfolding add_verdict
      left-to-tag = coefficients_lead (length f) some few (rule15 (is_held tag held) ∷ rule16 (length held) ∷ [])

      pub add-held : is_held tag held ≡ true → add_verdict M tag f ≡ refuses Tag
      add-held e = left-to-tag ∙ rw (rule15_refuses (is_held tag held) e)

      pub add-full : is_held tag held ≡ false → length held ≡ 16 → add_verdict M tag f ≡ refuses Full
      add-full e h = left-to-tag ∙ rw (rule15_passes (is_held tag held) e, rule16_refuses (length held) (omega arith))

      add-passes : is_held tag held ≡ false → (length held ≡ 16 → ⊥) → add_verdict M tag f ≡ passes
      add-passes e h = left-to-tag ∙ rw (rule15_passes (is_held tag held) e, rule16_passes (length held) (omega (arith, H.few)))

      -- the list of the polynomial, and the common list cut by it, as the inner functions give them for the system's own p and n
      pub solved-is : {polynomial : Result Held Refusal}
          → (Usable s.p s.n (s.p ^ s.n) → 0 < length f → length f ≤ 65 → polynomial ≡ Ok (held_of s.p s.n (congruence tag f)))
          → polynomial ≡ Ok (held_of M.p M.n (congruence tag f))
      solved-is w = (rw (p_is, n_is) at w) (held-usable H) (omega (arith, some)) few

      pub cut-is : {polynomial : Held} {cut : Common} → length held < 16 → polynomial ≡ held_of M.p M.n (congruence tag f)
          → ((S T : ℕ → Bool) (t : ℕ) → Usable s.p s.n (s.p ^ s.n) → s.common ≡ common_for S s.p s.n
          → polynomial ≡ held_for t T s.p s.n → length (signed_list S s.p s.n) ≤ 1024 → length (signed_list T s.p s.n) ≤ 64
          → length (signed_list (both S T) s.p s.n) ≤ 1024 → cut ≡ common_for (both S T) s.p s.n)
          → cut ≡ common_for (both (solves_all M.p M.n held) (roots f M.p M.n)) M.p M.n
      unfolding common
      cut-is room polynomial-is w =
          let p = M.p in
          let n = M.n in
          let U = held-usable H in
          let S = solves_all p n held in
          let T = roots f p n in
          let fits : length (signed_list (both S T) p n) ≤ 1024 =
          rw (solves_next p n held (congruence tag f)) at (list-few p n U (held ++ (congruence tag f ∷ [])) more (omega (arith, number))) in
          (rw (p_is, n_is) at w) S T tag U common-is polynomial-is (common-few H) (list-one p n U (congruence tag f) few) fits
        where
          number : length (held ++ (congruence tag f ∷ [])) ≡ length held + 1
          number = length-append held (congruence tag f ∷ [])

          more : Polynomials (held ++ (congruence tag f ∷ []))
          more = polynomials_next held (congruence tag f) (held-polynomials H) (omega (arith, some)) few

      -- one polynomial more
      pub add_done : {count : ℕ} {polynomial : Held} {cut : Common} → count ≡ length held → is_held tag held ≡ false → (count ≡ 16 → ⊥)
          → polynomial ≡ held_of M.p M.n (congruence tag f)
          → cut ≡ common_for (both (solves_all M.p M.n held) (roots f M.p M.n)) M.p M.n
          → ◌≡◌ {A = Changed} (record {
            system = record { p = s.p; n = s.n; count = count + 1; held = set s.held count polynomial; common = cut };
            outcome = Ok tt;
          }) (added_of M tag f)
      unfolding added_of after_add system_of
      add_done {count} {polynomial} number free room polynomial-is cut-is =
          let p = M.p in
          let n = M.n in
          let c = congruence tag f in
          let L = kept p n tag held in
          let long : length L ≡ length held = length-map held (held_of p n) in
          let count_next : count + 1 ≡ length (held ++ (c ∷ [])) = omega (arith, number, length-append held (c ∷ [])) in
          let held_next : set s.held count polynomial ≡ slots 16 blank (map (held_of p n) (held ++ (c ∷ []))) =
          ap₂ (λ (l : List Held) (k : ℕ). set l k polynomial) held-is (number ∙ sym long)
          ∙ ap (set (slots 16 blank L) (length L)) polynomial-is
          ∙ slots_put 16 blank L (held_of p n c) (omega (arith, H.few, room))
          ∙ ap (slots 16 blank) (sym (map-append (held_of p n) held (c ∷ []))) in
          let common-next = cut-is ∙ ap (λ (R : ℕ → Bool). common_for R p n) (sym (solves_next p n held c)) in
          rw (add-passes free (λ e. room (number ∙ e))) (λ i. record {
            system = record { p = p_is i; n = n_is i; count = count_next i; held = held_next i; common = common-next i };
            outcome = Ok tt;
          })

  -- Withdrawing

  pub withdraw-refused : is_held tag held ≡ false → ◌≡◌ {A = Changed} (record { system = s; outcome = Err Tag }) (withdrawn_of M tag)
  unfolding withdrawn_of after_withdraw withdraw_verdict
  withdraw-refused e = rw (rule15_refuses (not (is_held tag held)) (ap not e), H.kept)

  module _ (at : ℕ) (found : Sought M.p M.n tag held at) where
    -- the slots without it
    pub left_is : (x : Held) → set (remove s.held at ++ (x ∷ [])) 15 blank ≡ slots 16 blank (kept M.p M.n tag (without tag held))
    left_is x =
        let long : length (kept M.p M.n tag held) ≡ length held = length-map held (held_of M.p M.n) in
        ap (λ (l : List Held). set (remove l at ++ (x ∷ [])) 15 blank) held-is
        ∙ slots_cleared 16 blank (kept M.p M.n tag held) at 15 x (omega (arith, found.inside)) (omega (arith, H.few)) refl
        ∙ ap (slots 16 blank) found.removed

    pub cut-all-is : (count : ℕ) {left : List Held} {cut : Common} → count ≡ length held
        → left ≡ slots 16 blank (kept M.p M.n tag (without tag held))
        → ((C : List Congruence) → Usable s.p s.n (s.p ^ s.n) → Polynomials C → length C ≤ 16
        → take (count - 1) left ≡ map (held_of s.p s.n) C → cut ≡ common_for (solves_all s.p s.n C) s.p s.n)
        → cut ≡ common_for (solves_all M.p M.n (without tag held)) M.p M.n
    cut-all-is count number left-is w =
        (rw (p_is, n_is) at w) (without tag held) (held-usable H) (polynomials_without tag held (held-polynomials H))
        (omega (arith, H.few, without-most tag held))
        (ap (take (count - 1)) left-is ∙ slots_front 16 blank (kept M.p M.n tag (without tag held)) (count - 1)
        (omega (arith, without-length tag held found.is_there, length-map (without tag held) (held_of M.p M.n))))

  pub withdraw-done : {count : ℕ} {left : List Held} {cut : Common} → count ≡ length held → is_held tag held ≡ true
      → left ≡ slots 16 blank (kept M.p M.n tag (without tag held))
      → cut ≡ common_for (solves_all M.p M.n (without tag held)) M.p M.n
      → ◌≡◌ {A = Changed} (record {
        system = record { p = s.p; n = s.n; count = count - 1; held = left; common = cut };
        outcome = Ok tt;
      }) (withdrawn_of M tag)
  unfolding withdrawn_of after_withdraw withdraw_verdict system_of
  withdraw-done {count} number e left_is cut-is =
      let count_next : count - 1 ≡ length (without tag held) = omega (arith, without-length tag held e) in
      rw (rule15_passes (not (is_held tag held)) (ap not e)) (λ i. record {
        system = record { p = p_is i; n = n_is i; count = count_next i; held = left_is i; common = cut-is i };
        outcome = Ok tt;
      })
