-- Laws of the numbers of a range that pass a test.
use mathlib.Core.Path.{◌≡◌, refl, sym, ap, ap₂, ◌∙◌, subst}
use mathlib.Core.Logic.{◌⊎◌, inl, inr}
use mathlib.Core.Bool.{Bool, true, false, not, ◌||◌, true≢false}
use mathlib.Core.List.{[], ◌∷◌, ◌++◌}
use Prim.Native.Nat.{◌-◌, ℕ, zero, suc, ◌+◌, ◌≤◌, ◌<◌}
use native.Mathlib.Nat.{eq-or-lt_of_le, add-zero}
use native.Mathlib.Omega.{arith}
use lib.ListN.{length}
use borrow.Author.Tests.{not-true, not-false}
use Rattle.theory.specs.Lists.{In, here, there}
use Rattle.theory.proofs.Lists.Names.{in-cons, in-nil}
use Rattle.theory.specs.Range.{all_below, least, passing}
use Rattle.theory.proofs.Tests.{contradiction, same_test, not_holding, or_left, or_right}
use Rattle.theory.proofs.Lists.NoRepeat.{NoRepeat}

-- all_below

all_on : (f : ℕ → Bool) (k : ℕ) → f k ≡ true → all_below f (suc k) ≡ all_below f k
unfolding all_below
all_on f k e = rw (e, all_below)

all_off : (f : ℕ → Bool) (k : ℕ) → f k ≡ false → all_below f (suc k) ≡ false
unfolding all_below
all_off f k e = rw (e, all_below)

pub all_elim : (f : ℕ → Bool) (k i : ℕ) → all_below f k ≡ true → i < k → f i ≡ true
all_elim f zero i e h = absurd (omega arith)
all_elim f (suc k) i e h = go (all_elim f k i) (f k) refl (eq-or-lt_of_le h)
  where
    go : (all_below f k ≡ true → i < k → f i ≡ true) → (b : Bool) → f k ≡ b → (suc i ≡ suc k) ⊎ (suc i < suc k) → f i ≡ true
    go ih true q (inl s) = let s' : i ≡ k = omega arith in rw s' q
    go ih true q (inr l) = ih (sym (all_on f k q) ∙ e) (omega arith)
    go ih false q s = absurd (contradiction e (all_off f k q))

pub all_intro : (f : ℕ → Bool) (k : ℕ) → ((i : ℕ) → i < k → f i ≡ true) → all_below f k ≡ true
unfolding all_below
all_intro f zero h = refl
all_intro f (suc k) h = all_on f k (h k (omega arith)) ∙ all_intro f k (λ i l. h i (omega arith))

pub all_one : (f : ℕ → Bool) → all_below f 1 ≡ f 0
all_one f = same_test (all_below f 1) (f 0) (λ e. all_elim f 1 0 e (omega arith)) (λ e. all_intro f 1 (λ i h.
    let z : i ≡ 0 = omega arith in rw z e))

pub all_same : (f g : ℕ → Bool) (k : ℕ) → ((i : ℕ) → i < k → f i ≡ g i) → all_below f k ≡ all_below g k
all_same f g k h =
    same_test (all_below f k) (all_below g k)
    (λ e. all_intro g k (λ i l. sym (h i l) ∙ all_elim f k i e l))
    (λ e. all_intro f k (λ i l. h i l ∙ all_elim g k i e l))

-- a test that takes one value
pub all_constant : (f : ℕ → Bool) (k : ℕ) (b : Bool) → 0 < k → ((i : ℕ) → i < k → f i ≡ b) → all_below f k ≡ b
all_constant f k b pos h =
    same_test (all_below f k) b (λ e. sym (h 0 pos) ∙ all_elim f k 0 e pos) (λ e. all_intro f k (λ i l. h i l ∙ e))

-- where not all pass, one fails
pub some_fails : (f : ℕ → Bool) (k : ℕ) → all_below f k ≡ false → (i : ℕ) × (i < k) × (f i ≡ false)
unfolding all_below
some_fails f zero e = absurd (true≢false e)
some_fails f (suc k) e = go (some_fails f k) (f k) refl
  where
    go : (all_below f k ≡ false → (i : ℕ) × (i < k) × (f i ≡ false)) → (b : Bool) → f k ≡ b → (i : ℕ) × (i < suc k) × (f i ≡ false)
    go ih true q = let (i, l, w) = ih (sym (all_on f k q) ∙ e) in (i, omega arith, w)
    go ih false q = (k, omega arith, q)

-- "some" as "not all not"
pub some_passes : (f : ℕ → Bool) (k i : ℕ) → i < k → f i ≡ true → not (all_below (λ j. not (f j)) k) ≡ true
some_passes f k i h e = rw (not_holding (all_below (λ j. not (f j)) k) (λ a. contradiction (all_elim (λ j. not (f j)) k i a h) (rw e)))

pub some_found : (f : ℕ → Bool) (k : ℕ) → not (all_below (λ j. not (f j)) k) ≡ true → (i : ℕ) × (i < k) × (f i ≡ true)
some_found f k e =
    let (i, l, q) = some_fails (λ j. not (f j)) k (not-true (all_below (λ j. not (f j)) k) e) in
    (i, l, not-false (f i) q)

pub none_passes : (f : ℕ → Bool) (k : ℕ) → ((i : ℕ) → i < k → f i ≡ false) → not (all_below (λ j. not (f j)) k) ≡ false
none_passes f k h = rw (all_intro (λ j. not (f j)) k (λ i l. rw (h i l)))

pub none_found : (f : ℕ → Bool) (k : ℕ) → not (all_below (λ j. not (f j)) k) ≡ false → (i : ℕ) → i < k → f i ≡ false
none_found f k e i h = not-true (f i) (all_elim (λ j. not (f j)) k i (not-false (all_below (λ j. not (f j)) k) e) h)

-- least

pub least_on : (f : ℕ → Bool) (k i : ℕ) → f i ≡ true → least f (suc k) i ≡ i
unfolding least
least_on f k i e = rw (e, least)

pub least_off : (f : ℕ → Bool) (k i : ℕ) → f i ≡ false → least f (suc k) i ≡ least f k (suc i)
unfolding least
least_off f k i e = rw (e, least)

-- where some j of the range passes, the least passes and is at most j
pub least_passes : (f : ℕ → Bool) (k i j : ℕ) → i ≤ j → j < i + k → f j ≡ true → (f (least f k i) ≡ true) × (least f k i ≤ j)
least_passes f zero i j h b e = absurd (omega arith)
least_passes f (suc k) i j h b e = go (λ (q : i < j). least_passes f k (suc i) j q (omega arith) e) (f i) refl (eq-or-lt_of_le h)
  where
    go : (i < j → (f (least f k (suc i)) ≡ true) × (least f k (suc i) ≤ j)) → (c : Bool) → f i ≡ c → (i ≡ j) ⊎ (i < j)
        → (f (least f (suc k) i) ≡ true) × (least f (suc k) i ≤ j)
    go ih true q s = rw (least_on f k i q) (q, h)
    go ih false q (inl s) = absurd (contradiction e (rw (← s) q))
    go ih false q (inr s) = rw (least_off f k i q) (ih s)

-- nothing before the least passes
pub before_least : (f : ℕ → Bool) (k i j : ℕ) → i ≤ j → j < least f k i → f j ≡ false
unfolding least
before_least f zero i j h l = absurd (omega arith)
before_least f (suc k) i j h l = go (before_least f k (suc i) j) (f i) refl (eq-or-lt_of_le h)
  where
    go : (i < j → j < least f k (suc i) → f j ≡ false) → (b : Bool) → f i ≡ b → (i ≡ j) ⊎ (i < j) → f j ≡ false
    go ih true e w = absurd (omega (arith, rw (e, least) at l))
    go ih false e (inl w) = rw (← w) e
    go ih false e (inr w) = ih w (rw (e, least) at l)

pub least_range : (f : ℕ → Bool) (k i : ℕ) → (i ≤ least f k i) × (least f k i ≤ i + k)
unfolding least
least_range f zero i = omega arith
least_range f (suc k) i = go (least_range f k (suc i)) (f i) refl
  where
    go : (suc i ≤ least f k (suc i)) × (least f k (suc i) ≤ suc i + k) → (b : Bool) → f i ≡ b
        → (i ≤ least f (suc k) i) × (least f (suc k) i ≤ i + suc k)
    go ih true e = rw (least_on f k i e) (omega arith)
    go ih false e = rw (least_off f k i e) (omega arith)

-- where the least is of the range, it passes
pub least_found : (f : ℕ → Bool) (k i : ℕ) → least f k i < i + k → f (least f k i) ≡ true
unfolding least
least_found f zero i l = absurd (omega arith)
least_found f (suc k) i l = go (least_found f k (suc i)) (f i) refl
  where
    go : (least f k (suc i) < suc i + k → f (least f k (suc i)) ≡ true) → (b : Bool) → f i ≡ b → f (least f (suc k) i) ≡ true
    go ih true e = rw (least_on f k i e) e
    go ih false e = rw (least_off f k i e) (ih (omega (arith, rw (e, least) at l)))

-- two tests that agree up to a j that passes have one least
pub least_same : (f g : ℕ → Bool) (k i j : ℕ) → i ≤ j → j < i + k → f j ≡ true → ((x : ℕ) → x ≤ j → f x ≡ g x) → least f k i ≡ least g k i
least_same f g zero i j h b e x = absurd (omega arith)
least_same f g (suc k) i j h b e x = go (λ (q : i < j). least_same f g k (suc i) j q (omega arith) e x) (f i) refl (eq-or-lt_of_le h)
  where
    go : (i < j → least f k (suc i) ≡ least g k (suc i)) → (c : Bool) → f i ≡ c → (i ≡ j) ⊎ (i < j) → least f (suc k) i ≡ least g (suc k) i
    go ih true q s = least_on f k i q ∙ sym (least_on g k i (sym (x i h) ∙ q))
    go ih false q (inl s) = absurd (contradiction e (rw (← s) q))
    go ih false q (inr s) = least_off f k i q ∙ ih s ∙ sym (least_off g k i (sym (x i h) ∙ q))

pub least_agree : (f g : ℕ → Bool) (k i : ℕ) → ((x : ℕ) → i ≤ x → x < i + k → f x ≡ g x) → least f k i ≡ least g k i
unfolding least
least_agree f g zero i h = refl
least_agree f g (suc k) i h = go (least_agree f g k (suc i) (λ x l b. h x (omega arith) (omega arith))) (f i) refl
  where
    same : f i ≡ g i
    same = h i (omega arith) (omega arith)

    go : least f k (suc i) ≡ least g k (suc i) → (c : Bool) → f i ≡ c → least f (suc k) i ≡ least g (suc k) i
    go ih true q = least_on f k i q ∙ sym (least_on g k i (sym same ∙ q))
    go ih false q = least_off f k i q ∙ ih ∙ sym (least_off g k i (sym same ∙ q))

-- passing

pub passing_on : (f : ℕ → Bool) (k i : ℕ) → f i ≡ true → passing f (suc k) i ≡ i ∷ passing f k (suc i)
unfolding passing
passing_on f k i e = rw (e, passing)

pub passing_off : (f : ℕ → Bool) (k i : ℕ) → f i ≡ false → passing f (suc k) i ≡ passing f k (suc i)
unfolding passing
passing_off f k i e = rw (e, passing)

pub record Passed (f : ℕ → Bool) (k i x : ℕ) : Type 0 where
  pub passes : f x ≡ true
  pub low : i ≤ x
  pub high : x < i + k

-- a listed number passes and is of the range
pub passing_sound : (f : ℕ → Bool) (k i x : ℕ) → In x (passing f k i) → Passed f k i x
unfolding passing
passing_sound f zero i x m = absurd (in-nil m)
passing_sound f (suc k) i x m = go (passing_sound f k (suc i) x) (f i) refl
  where
    up : Passed f k (suc i) x → Passed f (suc k) i x
    up w = record { passes = w.passes; low = omega arith; high = omega arith }

    go : (In x (passing f k (suc i)) → Passed f k (suc i) x) → (c : Bool) → f i ≡ c → Passed f (suc k) i x
    go ih false q = up (ih (subst (In x) (passing_off f k i q) m))
    go ih true q = pick (in-cons (subst (In x) (passing_on f k i q) m))
      where
        pick : (x ≡ i) ⊎ In x (passing f k (suc i)) → Passed f (suc k) i x
        pick (inl s) = record { passes = rw s q; low = omega arith; high = omega arith }
        pick (inr w) = up (ih w)

-- a number of the range that passes is listed
pub passing_complete : (f : ℕ → Bool) (k i x : ℕ) → f x ≡ true → i ≤ x → x < i + k → In x (passing f k i)
passing_complete f zero i x e l h = absurd (omega arith)
passing_complete f (suc k) i x e l h = go (λ (q : i < x). passing_complete f k (suc i) x e q (omega arith)) (f i) refl (eq-or-lt_of_le l)
  where
    go : (i < x → In x (passing f k (suc i))) → (c : Bool) → f i ≡ c → (i ≡ x) ⊎ (i < x) → In x (passing f (suc k) i)
    go ih true q (inl s) = rw (passing_on f k i q) (here (sym s))
    go ih true q (inr s) = rw (passing_on f k i q) (there (ih s))
    go ih false q (inl s) = absurd (contradiction e (rw (← s) q))
    go ih false q (inr s) = rw (passing_off f k i q) (ih s)

pub passing_no_repeat : (f : ℕ → Bool) (k i : ℕ) → NoRepeat (passing f k i)
unfolding passing
passing_no_repeat f zero i = tt
passing_no_repeat f (suc k) i = go (passing_no_repeat f k (suc i)) (f i) refl
  where
    go : NoRepeat (passing f k (suc i)) → (c : Bool) → f i ≡ c → NoRepeat (passing f (suc k) i)
    go ih true q = rw (passing_on f k i q) ((λ m. let w = passing_sound f k (suc i) i m in omega arith), ih)
    go ih false q = rw (passing_off f k i q) ih

-- two tests that agree on the range list the same numbers
pub passing_same : (f g : ℕ → Bool) (k i : ℕ) → ((x : ℕ) → i ≤ x → x < i + k → f x ≡ g x) → passing f k i ≡ passing g k i
unfolding passing
passing_same f g zero i h = refl
passing_same f g (suc k) i h = go (passing_same f g k (suc i) (λ x l b. h x (omega arith) (omega arith))) (f i) refl
  where
    same : f i ≡ g i
    same = h i (omega arith) (omega arith)

    go : passing f k (suc i) ≡ passing g k (suc i) → (c : Bool) → f i ≡ c → passing f (suc k) i ≡ passing g (suc k) i
    go ih true q = passing_on f k i q ∙ ap (λ xs. i ∷ xs) ih ∙ sym (passing_on g k i (sym same ∙ q))
    go ih false q = passing_off f k i q ∙ ih ∙ sym (passing_off g k i (sym same ∙ q))

-- a range is its first part and its second
pub passing-append : (f : ℕ → Bool) (k m i : ℕ) → passing f (k + m) i ≡ passing f k i ++ passing f m (i + k)
unfolding passing
passing-append f zero m i =
    let e : 0 + m ≡ m = omega arith in
    rw (e, add-zero i)
passing-append f (suc k) m i = go (passing-append f k m (suc i)) (f i) refl
  where
    sum : suc k + m ≡ suc (k + m)
    sum = omega arith

    start : suc i + k ≡ i + suc k
    start = omega arith

    go : passing f (k + m) (suc i) ≡ passing f k (suc i) ++ passing f m (suc i + k) → (c : Bool) → f i ≡ c
        → passing f (suc k + m) i ≡ passing f (suc k) i ++ passing f m (i + suc k)
    go ih true q = rw (sum, passing_on f (k + m) i q, passing_on f k i q, ← start) (ap (λ xs. i ∷ xs) ih)
    go ih false q = rw (sum, passing_off f (k + m) i q, passing_off f k i q, ← start) ih

-- where none passes, none is listed
pub passing_none : (f : ℕ → Bool) (k i : ℕ) → ((x : ℕ) → i ≤ x → x < i + k → f x ≡ false) → passing f k i ≡ []
unfolding passing
passing_none f zero i h = refl
passing_none f (suc k) i h =
    passing_off f k i (h i (omega arith) (omega arith)) ∙ passing_none f k (suc i) (λ x l b. h x (omega arith) (omega arith))

-- where just one passes, it alone is listed
pub passing-one : (f : ℕ → Bool) (k i x : ℕ) → i ≤ x → x < i + k → f x ≡ true
    → ((y : ℕ) → i ≤ y → y < i + k → f y ≡ true → y ≡ x) → passing f k i ≡ x ∷ []
passing-one f zero i x l b e u = absurd (omega arith)
passing-one f (suc k) i x l b e u =
    go (λ (q : i < x). passing-one f k (suc i) x q (omega arith) e (λ y l' b'. u y (omega arith) (omega arith))) (f i) refl
  where
    go : (i < x → passing f k (suc i) ≡ x ∷ []) → (c : Bool) → f i ≡ c → passing f (suc k) i ≡ x ∷ []
    go ih true q =
        let s : i ≡ x = u i (omega arith) (omega arith) q in
        let rest : passing f k (suc i) ≡ [] =
        passing_none f k (suc i) (λ y l' b'. not_holding (f y) (λ h. omega (arith, u y (omega arith) (omega arith) h))) in
        passing_on f k i q ∙ ap₂ (λ y ys. y ∷ ys) s rest
    go ih false q = passing_off f k i q ∙ ih (pick (eq-or-lt_of_le l))
      where
        pick : (i ≡ x) ⊎ (i < x) → i < x
        pick (inl s) = absurd (contradiction e (rw (← s) q))
        pick (inr h) = h

-- two tests that never pass together list as many as both
pub passing_or : (f g : ℕ → Bool) (k i : ℕ) → ((x : ℕ) → i ≤ x → x < i + k → f x ≡ true → g x ≡ true → ⊥)
    → length (passing (λ x. f x || g x) k i) ≡ length (passing f k i) + length (passing g k i)
unfolding passing
passing_or f g zero i h = refl
passing_or f g (suc k) i h = go (passing_or f g k (suc i) (λ x l b. h x (omega arith) (omega arith))) (f i) (g i) refl refl
  where
    both : ℕ → Bool
    both x = f x || g x

    go : length (passing both k (suc i)) ≡ length (passing f k (suc i)) + length (passing g k (suc i))
        → (a b : Bool) → f i ≡ a → g i ≡ b → length (passing both (suc k) i) ≡ length (passing f (suc k) i) + length (passing g (suc k) i)
    go ih true true p q = absurd (h i (omega arith) (omega arith) p q)
    go ih true false p q =
        rw (passing_on both k i (or_left (f i) (g i) p), passing_on f k i p, passing_off g k i q) (omega (arith, ih))
    go ih false true p q =
        rw (passing_on both k i (or_right (f i) (g i) q), passing_off f k i p, passing_on g k i q) (omega (arith, ih))
    go ih false false p q =
        rw (passing_off both k i (rw (p, q)), passing_off f k i p, passing_off g k i q) ih
