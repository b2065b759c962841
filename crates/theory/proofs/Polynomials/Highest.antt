-- The highest coefficient that passes a test, and polynomials whose coefficients are all zero.
use mathlib.Core.Path.{◌≡◌, refl, sym, ap, ap₂, ◌∙◌}
use mathlib.Core.Logic.{◌⊎◌, inl, inr}
use mathlib.Core.Bool.{Bool, true, false, ◌&&◌, ◌||◌, and-true, and_assoc, true≢false, false≢true}
use mathlib.Core.List.{List, [], ◌∷◌, ◌++◌, map}
use Prim.Native.Nat.{ℕ, zero, suc, ◌<◌}
use native.Mathlib.Omega.{arith}
use borrow.Author.Tests.{eq-eqb, eqb-true, eqb-false}
use lib.Dec.{eqb}
use lib.ListN.{length}
use native.Mathlib.Decide.{dec_lt}
use Rattle.theory.proofs.Lists.Index.{index_of}
use Rattle.theory.specs.Lists.{In, here, there}
use Rattle.theory.specs.Degree.{some, every, highest, all_zero}
use Rattle.theory.proofs.Tests.{contradiction, not_holding, and_left, and_right, and_intro, or_cases, or_left, or_right}
use Rattle.theory.specs.inner.Polynomial.{coef}

pub some_in : (test : ℕ → Bool) (f : List ℕ) (a : ℕ) → In a f → test a ≡ true → some test f ≡ true
unfolding some
some_in test (b ∷ f) a (here q) e = or_left (test b) (some test f) (rw (← q) e)
some_in test (b ∷ f) a (there u) e = or_right (test b) (some test f) (some_in test f a u e)
some_in test [] a x'' e = elim x'' [ ]

in_some : (test : ℕ → Bool) (f : List ℕ) → some test f ≡ true → (a : ℕ) × In a f × (test a ≡ true)
unfolding some
in_some test [] e = absurd (false≢true e)
in_some test (b ∷ f) e = go (in_some test f) (or_cases (test b) (some test f) e)
  where
    go : (some test f ≡ true → (a : ℕ) × In a f × (test a ≡ true)) → (test b ≡ true) ⊎ (some test f ≡ true)
        → (a : ℕ) × In a (b ∷ f) × (test a ≡ true)
    go ih (inl q) = (b, here refl, q)
    go ih (inr q) = let (a, u, w) = ih q in (a, there u, w)

pub every_in : (test : ℕ → Bool) (l : List ℕ) → every test l ≡ true → (a : ℕ) → In a l → test a ≡ true
unfolding every
every_in test (b ∷ l) e a (here q) = rw q (and_left (test b) (every test l) e)
every_in test (b ∷ l) e a (there u) = every_in test l (and_right (test b) (every test l) e) a u
every_in test [] e a x'' = elim x'' [ ]

pub in_every : (test : ℕ → Bool) (l : List ℕ) → ((a : ℕ) → In a l → test a ≡ true) → every test l ≡ true
unfolding every
in_every test [] h = refl
in_every test (b ∷ l) h = and_intro (test b) (every test l) (h b (here refl)) (in_every test l (λ a u. h a (there u)))

not_every : (test : ℕ → Bool) (l : List ℕ) → every test l ≡ false → (a : ℕ) × In a l × (test a ≡ false)
unfolding every
not_every test [] e = absurd (true≢false e)
not_every test (b ∷ l) e = go (test b) refl (not_every test l)
  where
    go : (t : Bool) → test b ≡ t → (every test l ≡ false → (a : ℕ) × In a l × (test a ≡ false)) → (a : ℕ) × In a (b ∷ l) × (test a ≡ false)
    go false q ih = (b, here refl, q)
    go true q ih = let (a, u, w) = ih (rw q at e) in (a, there u, w)

-- of one entry more
pub every_next : (test : ℕ → Bool) (l : List ℕ) (a : ℕ) → every test (l ++ (a ∷ [])) ≡ (every test l && test a)
unfolding every
every_next test [] a = and-true (test a)
every_next test (b ∷ l) a = ap (λ (t : Bool). test b && t) (every_next test l a) ∙ sym (and_assoc (test b) (every test l) (test a))

-- a coefficient past the end is 0, and any other is an entry
pub coef_in : (f : List ℕ) (i : ℕ) → (coef f i ≡ 0) ⊎ In (coef f i) f
coef_in [] i = inl refl
coef_in (a ∷ f) zero = inr (here refl)
coef_in (a ∷ f) (suc i) = go (coef_in f i)
  where
    go : (coef f i ≡ 0) ⊎ In (coef f i) f → (coef f i ≡ 0) ⊎ In (coef f i) (a ∷ f)
    go (inl e) = inl e
    go (inr u) = inr (there u)

none_passes : (test : ℕ → Bool) (f : List ℕ) → test 0 ≡ false → some test f ≡ false → (i : ℕ) → test (coef f i) ≡ false
none_passes test f z e i = go (coef_in f i)
  where
    go : (coef f i ≡ 0) ⊎ In (coef f i) f → test (coef f i) ≡ false
    go (inl q) = ap test q ∙ z
    go (inr u) = not_holding (test (coef f i)) (λ h. contradiction (some_in test f (coef f i) u h) e)

highest_on : (test : ℕ → Bool) (a : ℕ) (f : List ℕ) → some test f ≡ true → highest test (a ∷ f) ≡ suc (highest test f)
unfolding highest
highest_on test a f e = rw (e, highest)

highest_off : (test : ℕ → Bool) (a : ℕ) (f : List ℕ) → some test f ≡ false → highest test (a ∷ f) ≡ 0
unfolding highest
highest_off test a f e = rw (e, highest)

pub highest_passes : (test : ℕ → Bool) (f : List ℕ) → some test f ≡ true → test (coef f (highest test f)) ≡ true
unfolding some
highest_passes test [] e = absurd (false≢true e)
highest_passes test (a ∷ f) e = go (highest_passes test f) (some test f) refl (or_cases (test a) (some test f) e)
  where
    go : (some test f ≡ true → test (coef f (highest test f)) ≡ true)
        → (b : Bool) → some test f ≡ b → (test a ≡ true) ⊎ (some test f ≡ true)
        → test (coef (a ∷ f) (highest test (a ∷ f))) ≡ true
    go ih true q w = rw (highest_on test a f q) (ih q)
    go ih false q (inl w) = rw (highest_off test a f q) w
    go ih false q (inr w) = absurd (contradiction w q)

pub above_highest : (test : ℕ → Bool) (f : List ℕ) → test 0 ≡ false → (i : ℕ) → highest test f < i → test (coef f i) ≡ false
above_highest test [] z i h = z
above_highest test (a ∷ f) z zero h = absurd (omega arith)
above_highest test (a ∷ f) z (suc i) h = go (above_highest test f z i) (some test f) refl
  where
    go : (highest test f < i → test (coef f i) ≡ false) → (b : Bool) → some test f ≡ b → test (coef f i) ≡ false
    go ih true q = ih (omega (arith, rw (highest_on test a f q) at h))
    go ih false q = none_passes test f z q i

pub highest-lt : (test : ℕ → Bool) (f : List ℕ) → some test f ≡ true → highest test f < length f
unfolding some
highest-lt test [] e = absurd (false≢true e)
highest-lt test (a ∷ f) e = go (highest-lt test f) (some test f) refl
  where
    go : (some test f ≡ true → highest test f < length f) → (b : Bool) → some test f ≡ b → highest test (a ∷ f) < suc (length f)
    go ih true q = omega (arith, ih q, highest_on test a f q)
    go ih false q = omega (arith, highest_off test a f q)

-- a coefficient that passes is an entry, where 0 does not pass
pub some-coef : (test : ℕ → Bool) (f : List ℕ) → test 0 ≡ false → (i : ℕ) → test (coef f i) ≡ true → some test f ≡ true
some-coef test f z i e = go (coef_in f i)
  where
    go : (coef f i ≡ 0) ⊎ In (coef f i) f → some test f ≡ true
    go (inl q) = absurd (contradiction e (ap test q ∙ z))
    go (inr u) = some_in test f (coef f i) u e

-- the highest is told by what passes
pub highest_is : (test : ℕ → Bool) (f : List ℕ) → test 0 ≡ false → (i : ℕ) → test (coef f i) ≡ true
    → ((j : ℕ) → i < j → test (coef f j) ≡ false) → highest test f ≡ i
highest_is test f z i e above = go (dec_lt (highest test f) i) (dec_lt i (highest test f))
  where
    go : Dec (highest test f < i) → Dec (i < highest test f) → highest test f ≡ i
    go (yes l) w = absurd (contradiction e (above_highest test f z i l))
    go (no l) (yes k) = absurd (contradiction (highest_passes test f (some-coef test f z i e)) (above (highest test f) k))
    go (no l) (no k) = omega arith

pub highest_none : (test : ℕ → Bool) (f : List ℕ) → ((i : ℕ) → test (coef f i) ≡ false) → highest test f ≡ 0
unfolding highest
highest_none test [] h = refl
highest_none test (a ∷ f) h = highest_off test a f (not_holding (some test f) (λ e.
    let (x, u, w) = in_some test f e in
    let (i, l, q) = index_of f 0 x u in
    contradiction w (ap test q ∙ h (suc i))))

-- of the images of the entries
pub some-map : (test : ℕ → Bool) (g : ℕ → ℕ) (f : List ℕ) → some test (map g f) ≡ some (λ a. test (g a)) f
unfolding some
some-map test g [] = refl
some-map test g (a ∷ f) = ap (λ (t : Bool). test (g a) || t) (some-map test g f)

pub highest-map : (test : ℕ → Bool) (g : ℕ → ℕ) (f : List ℕ) → highest test (map g f) ≡ highest (λ a. test (g a)) f
unfolding highest
highest-map test g [] = refl
highest-map test g (a ∷ f) =
    ap₂ (λ (t : Bool) (n : ℕ). elim t [ true ↦ suc n | false ↦ 0 ]) (some-map test g f) (highest-map test g f)

-- All coefficients zero

pub all_zero-coef : (f : List ℕ) → all_zero f ≡ true → (i : ℕ) → coef f i ≡ 0
unfolding all_zero
all_zero-coef f e i = go (coef_in f i)
  where
    go : (coef f i ≡ 0) ⊎ In (coef f i) f → coef f i ≡ 0
    go (inl q) = q
    go (inr u) = eqb-true (coef f i) 0 (every_in (λ a. eqb a 0) f e (coef f i) u)

pub not_all_zero : (f : List ℕ) → all_zero f ≡ false → (a : ℕ) × In a f × (0 < a)
unfolding all_zero
not_all_zero f e = let (a, u, w) = not_every (λ x. eqb x 0) f e in (a, u, positive a (eqb-false a 0 w))
  where
    positive : (a : ℕ) → (a ≡ 0 → ⊥) → 0 < a
    positive a h = omega arith

pub all_zero_intro : (f : List ℕ) → ((i : ℕ) → i < length f → coef f i ≡ 0) → all_zero f ≡ true
unfolding all_zero
all_zero_intro f h = in_every (λ a. eqb a 0) f (λ a u. let (i, l, q) = index_of f 0 a u in eq-eqb a 0 (q ∙ h i l))

pub all_zero_fails : (f : List ℕ) (i : ℕ) → (coef f i ≡ 0 → ⊥) → all_zero f ≡ false
all_zero_fails f i h = not_holding (all_zero f) (λ e. h (all_zero-coef f e i))
