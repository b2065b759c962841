-- Stepping through a set: the row of answers is what 01 claims.
use mathlib.Core.Path.{◌≡◌, refl, sym, ap, ap₂, ◌∙◌}
use mathlib.Core.Bool.{Bool, true, false}
use mathlib.Core.List.{List, [], ◌∷◌, ◌++◌, map, nil≢cons, head-eq_of_cons-eq, tail-eq_of_cons-eq}
use Prim.Native.Nat.{ℕ, zero, suc, ◌+◌, ◌-◌, ◌^◌, ◌≤◌, ◌<◌}
use native.Mathlib.Nat.{sub-zero, zero-sub, suc-sub-suc}
use native.Mathlib.Numerals.{add-one}
use native.Mathlib.Decide.{dec_lt}
use native.Mathlib.Omega.{arith}
use borrow.Author.Tests.{lt-ltb, le-ltb}
use lib.ListN.{length, take, replicate}
use Rattle.theory.specs.Lists.{here}
use Rattle.theory.specs.Range.{passing}
use Rattle.theory.specs.ClassList.{from}
use Rattle.theory.specs.Stepping.{Answer, root, none, refused, first_of, next_in, following, answers_from, later, claimed}
use Rattle.theory.proofs.Tests.{not_holding}
use Rattle.theory.proofs.Lists.Names.{in-nil}
use Rattle.theory.proofs.Range.{passing_on, passing_off, passing_sound, passing_complete}

-- after its first entry x, the list of those that pass is that from x + 1 on
passing_rest : (f : ℕ → Bool) (k i x : ℕ) (xs : List ℕ) → passing f k i ≡ x ∷ xs → xs ≡ passing f (i + k - suc x) (suc x)
unfolding passing
passing_rest f zero i x xs e = absurd (nil≢cons e)
passing_rest f (suc k) i x xs e = go (passing_rest f k (suc i) x xs) (f i) refl
  where
    go : (passing f k (suc i) ≡ x ∷ xs → xs ≡ passing f (suc i + k - suc x) (suc x)) → (b : Bool) → f i ≡ b
        → xs ≡ passing f (i + suc k - suc x) (suc x)
    go ih true q =
        let c : i ∷ passing f k (suc i) ≡ x ∷ xs = sym (passing_on f k i q) ∙ e in
        let h : i ≡ x = head-eq_of_cons-eq c in
        let n : i + suc k - suc x ≡ k = omega arith in
        sym (tail-eq_of_cons-eq c) ∙ ap₂ (passing f) (sym n) (ap suc h)
    go ih false q =
        let n : suc i + k - suc x ≡ i + suc k - suc x = omega arith in
        ih (sym (passing_off f k i q) ∙ e) ∙ ap (λ (j : ℕ). passing f j (suc x)) n

-- The answers

pub next_refused : (S : ℕ → Bool) (p n q : ℕ) → p ^ n ≤ q → next_in S p n q ≡ refused 8 0
unfolding next_in
next_refused S p n q h = rw (le-ltb q (p ^ n) h, next_in)

pub next_first : (S : ℕ → Bool) (p n q : ℕ) → q < p ^ n → next_in S p n q ≡ first_of (from S p n q)
unfolding next_in
next_first S p n q h = rw (lt-ltb q (p ^ n) h, next_in)

later_refused : (S : ℕ → Bool) (p n q : ℕ) → p ^ n ≤ q → later S p n q ≡ refused 8 0
unfolding later
later_refused S p n q h = rw (le-ltb q (p ^ n) h, later)

-- below pⁿ the later answers do not depend on the point
later-below : (S : ℕ → Bool) (p n q : ℕ) → q < p ^ n → later S p n q ≡ elim (S (p ^ n - 1)) [ true ↦ refused 8 0 | false ↦ none ]
unfolding later
later-below S p n q h = rw (lt-ltb q (p ^ n) h, later)

later_last : (S : ℕ → Bool) (p n q : ℕ) → q < p ^ n → S (p ^ n - 1) ≡ true → later S p n q ≡ refused 8 0
later_last S p n q h e = later-below S p n q h ∙ rw e

later_none : (S : ℕ → Bool) (p n q : ℕ) → q < p ^ n → S (p ^ n - 1) ≡ false → later S p n q ≡ none
later_none S p n q h e = later-below S p n q h ∙ rw e

module _ (S : ℕ → Bool) (p n : ℕ) where
  abbrev Answers : ℕ → ℕ → List Answer
  Answers q m = answers_from (next_in S p n) q m

  -- past pⁿ nothing is left, and each call is refused
  from_past : (q : ℕ) → p ^ n ≤ q → from S p n q ≡ []
  unfolding from passing
  from_past q h = let e : p ^ n - q ≡ 0 = omega arith in rw e

  answers-past : (q : ℕ) → p ^ n ≤ q → (m : ℕ) → Answers q m ≡ replicate m (refused 8 0)
  unfolding answers_from following
  answers-past q h zero = refl
  answers-past q h (suc m) = rw (next_refused S p n q h) (ap (λ xs. refused 8 0 ∷ xs) (answers-past q h m))

  -- where no element is left, each answer is none, and pⁿ − 1 is not in S
  answers-none : (q : ℕ) → q < p ^ n → from S p n q ≡ [] → (m : ℕ) → Answers q m ≡ replicate m none
  unfolding answers_from following first_of
  answers-none q h e zero = refl
  answers-none q h e (suc m) = rw (next_first S p n q h, e) (ap (λ xs. none ∷ xs) (answers-none q h e m))

  last-not : (q : ℕ) → q < p ^ n → from S p n q ≡ [] → S (p ^ n - 1) ≡ false
  unfolding from
  last-not q h e =
      not_holding (S (p ^ n - 1)) (λ s.
      in-nil (rw e at (passing_complete S (p ^ n - q) q (p ^ n - 1) s (omega arith) (omega arith))))

  -- the first element left: it is below pⁿ and in S, and the others are left from the next point on
  record First (q r : ℕ) (rs : List ℕ) : Type 0 where
    element : S r ≡ true
    below : r < p ^ n
    others : rs ≡ from S p n (r + 1)

  first : (q : ℕ) → q < p ^ n → (r : ℕ) (rs : List ℕ) → from S p n q ≡ r ∷ rs → First q r rs
  unfolding from
  first q h r rs e =
      let w = passing_sound S (p ^ n - q) q r (rw e (here refl)) in
      let n₁ : q + (p ^ n - q) - suc r ≡ p ^ n - (r + 1) = omega arith in
      record {
        element = w.passes;
        below = omega (arith, w.high);
        others = passing_rest S (p ^ n - q) q r rs e ∙ ap₂ (passing S) n₁ (sym (add-one r));
      }

  -- the later answers are the same from the point after an element on
  later_same : (q r : ℕ) → q < p ^ n → r < p ^ n → S r ≡ true → later S p n (r + 1) ≡ later S p n q
  later_same q r h l s = go (dec_lt (r + 1) (p ^ n))
    where
      go : Dec (r + 1 < p ^ n) → later S p n (r + 1) ≡ later S p n q
      go (yes k) = later-below S p n (r + 1) k ∙ sym (later-below S p n q h)
      go (no k) =
          let e : p ^ n - 1 ≡ r = omega arith in
          later_refused S p n (r + 1) (omega arith) ∙ sym (later_last S p n q h (rw e s))

  abbrev Claim : List ℕ → ℕ → Answer → List Answer
  Claim rs m after = map root (take m rs) ++ replicate (m - length rs) after

  -- one call that gives a root
  answers-step : (q r m : ℕ) (rs : List ℕ) (after : Answer) → next_in S p n q ≡ first_of (r ∷ rs) → Answers (r + 1) m ≡ Claim rs m after
      → Answers q (suc m) ≡ Claim (r ∷ rs) (suc m) after
  unfolding answers_from following first_of
  answers-step q r m rs after a w = rw (a, suc-sub-suc m (length rs)) (ap (λ xs. root r ∷ xs) w)

  -- the whole row, by the elements that are left
  answers_are : (rs : List ℕ) (q m : ℕ) → from S p n q ≡ rs → Answers q m ≡ Claim rs m (later S p n q)
  unfolding answers_from
  answers_are [] q m e = go (dec_lt q (p ^ n))
    where
      left : (after : Answer) → Answers q m ≡ replicate m after → Answers q m ≡ Claim [] m after
      left after w = w ∙ empty m
        where
          empty : (k : ℕ) → replicate k after ≡ map root (take k []) ++ replicate (k - 0) after
          empty zero = refl
          empty (suc k) = rw (sub-zero (suc k))

      go : Dec (q < p ^ n) → Answers q m ≡ Claim [] m (later S p n q)
      go (yes h) = rw (later_none S p n q h (last-not q h e)) (left none (answers-none q h e m))
      go (no h) = rw (later_refused S p n q (omega arith)) (left (refused 8 0) (answers-past q (omega arith) m))
  answers_are (r ∷ rs) q zero e = rw (zero-sub (length (r ∷ rs)))
  answers_are (r ∷ rs) q (suc m) e = go (answers_are rs (r + 1) m) (dec_lt q (p ^ n))
    where
      go : (from S p n (r + 1) ≡ rs → Answers (r + 1) m ≡ Claim rs m (later S p n (r + 1))) → Dec (q < p ^ n)
          → Answers q (suc m) ≡ Claim (r ∷ rs) (suc m) (later S p n q)
      go ih (no h) = absurd (nil≢cons (sym (from_past q (omega arith)) ∙ e))
      go ih (yes h) =
          let k = first q h r rs e in
          answers-step q r m rs (later S p n q) (next_first S p n q h ∙ ap first_of e)
          (ih (sym k.others) ∙ rw (later_same q r h k.below k.element))

  -- 01's claim about the whole row of calls
  pub stepping : (q m : ℕ) → answers_from (next_in S p n) q m ≡ claimed S p n q m
  unfolding claimed
  stepping q m = answers_are (from S p n q) q m refl
