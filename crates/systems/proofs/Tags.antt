-- The tags of a set of congruences, in the set and in the slots of a system: the one sought, and the set without it.
use Rattle.std.proofs.Common.{◌≡◌, Bool, true, false, ◌==◌, eqb, List, [], ◌∷◌, ◌++◌, map, ℕ, suc, ◌+◌, ◌≤◌, ◌<◌, ℤ, length, Some}
use Rattle.std.proofs.Common.{is_some, ◌⊎◌, inl, inr, refl, sym, ap, ◌∙◌, add-one, arith}
use Rattle.std.specs.List.{position, position_or_len, remove}
use Rattle.std.proofs.lemmas.List.{length-map}
use borrow.Author.Tests.{lt-ltb, le-ltb}
use Rattle.theory.specs.Lists.{In, here, there}
use Rattle.theory.proofs.Lists.Names.{in-append, in-single}
use Rattle.refusal.specs.declared.Refusal.TheVariants.{Tag}
use Rattle.refusal.specs.Rules.{passes, rule2, rule3, rule15, rule16}
use Rattle.refusal.proofs.Rules.{tried-first, rule_passes}
use Rattle.systems.specs.declared.Held.{Held}
use Rattle.systems.specs.Model.{Congruence, Model, is_held, without}
use Rattle.systems.specs.Calls.{add_verdict}
use Rattle.systems.specs.State.{held_for, held_of}
use Rattle.systems.specs.inner.Slots.{Polynomials}

-- In the set

module _ (tag : ℕ) where
  pub without-length : (C : List Congruence) → is_held tag C ≡ true → length (without tag C) + 1 ≡ length C
  unfolding is_held without
  without-length [] e = let z : ◌≡◌ {A = ℕ} 0 1 = cc in absurd (omega arith)
  without-length (c ∷ C) e = go (without-length C) (eqb c.tag tag) refl
    where
      go : (is_held tag C ≡ true → length (without tag C) + 1 ≡ length C) → (b : Bool) → eqb c.tag tag ≡ b
          → length (without tag (c ∷ C)) + 1 ≡ suc (length C)
      go ih true q = rw (q, without) (add-one (length C))
      go ih false q = let e' : is_held tag C ≡ true = rw q at e in rw (q, without) (omega (arith, ih e'))

  pub without-most : (C : List Congruence) → length (without tag C) ≤ length C
  unfolding without
  without-most [] = omega arith
  without-most (c ∷ C) = go (without-most C) (eqb c.tag tag) refl
    where
      go : length (without tag C) ≤ length C → (b : Bool) → eqb c.tag tag ≡ b → length (without tag (c ∷ C)) ≤ suc (length C)
      go ih true q = rw (q, without) (omega arith)
      go ih false q = rw (q, without) (omega (arith, ih))

  pub in_without : (C : List Congruence) {c : Congruence} → In c (without tag C) → In c C
  unfolding without
  in_without [] u = u
  in_without (d ∷ C) {c} u = go (in_without C) (eqb d.tag tag) refl
    where
      under : (In c (without tag C) → In c C) → In c (d ∷ without tag C) → In c (d ∷ C)
      under ih (here e) = here e
      under ih (there v) = there (ih v)

      go : (In c (without tag C) → In c C) → (b : Bool) → eqb d.tag tag ≡ b → In c (d ∷ C)
      go ih true q = there (rw (q, without) at u)
      go ih false q = under ih (rw (q, without) at u)

-- In the slots

module _ (p n tag : ℕ) where
  abbrev pub kept : List Congruence → List Held
  kept = map (held_of p n)

  abbrev pub has_tag : Held → Bool
  has_tag h = h.tag == tag

  -- the first slot with the tag is in use exactly if the tag is held
  index-held : (C : List Congruence) → is_held tag C ≡ true → position_or_len has_tag (kept C) < length C
  unfolding is_held held_for
  index-held [] e = let z : ◌≡◌ {A = ℕ} 0 1 = cc in absurd (omega arith)
  index-held (c ∷ C) e = go (index-held C) (eqb c.tag tag) refl
    where
      go : (is_held tag C ≡ true → position_or_len has_tag (kept C) < length C) → (b : Bool) → eqb c.tag tag ≡ b
          → position_or_len has_tag (kept (c ∷ C)) < suc (length C)
      go ih true q = rw q (omega arith)
      go ih false q = let e' : is_held tag C ≡ true = rw q at e in rw q (omega (arith, ih e'))

  index-free : (C : List Congruence) → is_held tag C ≡ false → position_or_len has_tag (kept C) ≡ length C
  unfolding is_held held_for
  index-free [] e = refl
  index-free (c ∷ C) e = go (index-free C) (eqb c.tag tag) refl
    where
      go : (is_held tag C ≡ false → position_or_len has_tag (kept C) ≡ length C) → (b : Bool) → eqb c.tag tag ≡ b
          → position_or_len has_tag (kept (c ∷ C)) ≡ suc (length C)
      go ih true q = let f : true ≡ false = rw q at e in let z : ◌≡◌ {A = ℕ} 0 1 = cc in absurd (omega arith)
      go ih false q = let e' : is_held tag C ≡ false = rw q at e in rw q (omega (arith, ih e'))

  -- the slots without that one are those of the set without the congruence
  removed-kept : (C : List Congruence) → remove (kept C) (position_or_len has_tag (kept C)) ≡ kept (without tag C)
  unfolding without held_for
  removed-kept [] = refl
  removed-kept (c ∷ C) = go (removed-kept C) (eqb c.tag tag) refl
    where
      go : remove (kept C) (position_or_len has_tag (kept C)) ≡ kept (without tag C) → (b : Bool) → eqb c.tag tag ≡ b
          → remove (kept (c ∷ C)) (position_or_len has_tag (kept (c ∷ C))) ≡ kept (without tag (c ∷ C))
      go ih true q = rw (q, without)
      go ih false q =
          let next : 1 + position_or_len has_tag (kept C) ≡ suc (position_or_len has_tag (kept C)) = omega arith in
          rw (q, without, next) (ap (λ (l : List Held). held_of p n c ∷ l) ih)

  pub position-held : (C : List Congruence) → is_some (position has_tag (kept C)) ≡ is_held tag C
  position-held C = go (is_held tag C) refl
    where
      at : ℕ
      at = position_or_len has_tag (kept C)

      go : (b : Bool) → is_held tag C ≡ b → is_some (position has_tag (kept C)) ≡ is_held tag C
      go true q = rw (q, lt-ltb at (length (kept C)) (omega (arith, index-held C q, length-map C (held_of p n))))
      go false q = rw (q, le-ltb at (length (kept C)) (omega (arith, index-free C q, length-map C (held_of p n))))

  -- what the search for the tag finds
  pub record Sought (C : List Congruence) (at : ℕ) : Type 0 where
    pub is_there : is_held tag C ≡ true
    pub inside : at < length C
    pub removed : remove (kept C) at ≡ kept (without tag C)

  pub sought : (C : List Congruence) (at : ℕ) → position has_tag (kept C) ≡ Some at → Sought C at
  sought C at e =
      let there : is_held tag C ≡ true = sym (position-held C) ∙ ap is_some e in
      let k = position_or_len has_tag (kept C) in
      let inside = index-held C there in
      let found : Some k ≡ Some at = rw (lt-ltb k (length (kept C)) (omega (arith, inside, length-map C (held_of p n)))) at e in
      let same : k ≡ at = cc in
      record { is_there = there; inside = rw (← same) inside; removed = rw (← same) (removed-kept C) }

-- Polynomials that rules 2 and 3 pass, one more and one less

pub polynomials_next : (C : List Congruence) (c : Congruence) → Polynomials C → 0 < length c.coefficients → length c.coefficients ≤ 65
    → Polynomials (C ++ (c ∷ []))
polynomials_next C c P some few =
    record { some = λ d u. in_some d (in-append C u); few = λ d u. in-few d (in-append C u) }
  where
    in_some : (d : Congruence) → In d C ⊎ In d (c ∷ []) → 0 < length d.coefficients
    in_some d (inl u) = P.some d u
    in_some d (inr u) = rw (in-single u) some

    in-few : (d : Congruence) → In d C ⊎ In d (c ∷ []) → length d.coefficients ≤ 65
    in-few d (inl u) = P.few d u
    in-few d (inr u) = rw (in-single u) few

pub polynomials_without : (tag : ℕ) (C : List Congruence) → Polynomials C → Polynomials (without tag C)
polynomials_without tag C P = record { some = λ d u. P.some d (in_without tag C u); few = λ d u. P.few d (in_without tag C u) }

-- a tag under which a polynomial is added is not held before
pub passed_unheld : (M : Model) (tag : ℕ) (f : List ℤ) → add_verdict M tag f ≡ passes → is_held tag M.held ≡ false
unfolding add_verdict
passed_unheld M tag f e =
    let unheld = rule15 (is_held tag M.held) in
    let room = rule16 (length M.held) in
    let two = tried-first (rule2 (length f)) (rule3 (length f) ∷ unheld ∷ room ∷ []) e in
    let three = tried-first (rule3 (length f)) (unheld ∷ room ∷ []) two.1 in
    rule_passes (is_held tag M.held) Tag (tried-first unheld (room ∷ []) three.1).0
