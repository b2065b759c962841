-- The least number of a range that passes a test, from its two properties; of two tests, the smaller least.
use mathlib.Core.Path.{◌≡◌, refl, sym, ap, ◌∙◌}
use mathlib.Core.Bool.{Bool, true, false, ◌||◌}
use mathlib.Core.List.{List, ◌∷◌}
use Prim.Native.Nat.{ℕ, zero, suc, ◌+◌, ◌≤◌, ◌<◌, min}
use native.Mathlib.Decide.{dec_lt, dec_le}
use native.Mathlib.Omega.{arith}
use Rattle.theory.specs.Range.{least, passing}
use Rattle.theory.proofs.Tests.{contradiction, or_left, or_right}
use Rattle.theory.proofs.Range.{least_on, least_off, before_least, least_range, least_found, passing_on, passing_off}

-- nothing before j passes, and j does if it is of the range
pub least_is : (f : ℕ → Bool) (k i j : ℕ) → i ≤ j → j ≤ i + k → ((x : ℕ) → i ≤ x → x < j → f x ≡ false) → (j < i + k → f j ≡ true)
    → least f k i ≡ j
least_is f k i j low high before at = go (dec_lt (least f k i) j) (dec_lt j (least f k i))
  where
    range : (i ≤ least f k i) × (least f k i ≤ i + k)
    range = least_range f k i

    go : Dec (least f k i < j) → Dec (j < least f k i) → least f k i ≡ j
    go (yes l) w = absurd (contradiction (least_found f k i (omega (arith, range.1))) (before (least f k i) range.0 l))
    go (no l) (yes u) = absurd (contradiction (at (omega (arith, range.1))) (before_least f k i j low u))
    go (no l) (no u) = omega arith

-- where either test is enough
pub least_or : (f g : ℕ → Bool) (k i : ℕ) → least (λ x. f x || g x) k i ≡ min (least f k i) (least g k i)
least_or f g k i = least_is (λ x. f x || g x) k i (min a b) (omega (arith, ra.0, rb.0)) (omega (arith, ra.1)) before at
  where
    a : ℕ
    a = least f k i

    b : ℕ
    b = least g k i

    ra : (i ≤ a) × (a ≤ i + k)
    ra = least_range f k i

    rb : (i ≤ b) × (b ≤ i + k)
    rb = least_range g k i

    before : (x : ℕ) → i ≤ x → x < min a b → (f x || g x) ≡ false
    before x l h =
        let fx : f x ≡ false = before_least f k i x l (omega arith) in
        let gx : g x ≡ false = before_least g k i x l (omega arith) in
        rw (fx, gx)

    at : min a b < i + k → (f (min a b) || g (min a b)) ≡ true
    at h = pick (dec_le a b)
      where
        pick : Dec (a ≤ b) → (f (min a b) || g (min a b)) ≡ true
        pick (yes l) =
            let e : min a b ≡ a = omega arith in
            rw e (or_left (f a) (g a) (least_found f k i (omega arith)))
        pick (no l) =
            let e : min a b ≡ b = omega arith in
            rw e (or_right (f b) (g b) (least_found g k i (omega arith)))

-- The numbers that pass begin with the least

pub passing-first : (f : ℕ → Bool) (k i : ℕ) → least f k i < i + k → (rest : List ℕ) × (passing f k i ≡ least f k i ∷ rest)
unfolding least
passing-first f zero i h = absurd (omega arith)
passing-first f (suc k) i h = go (passing-first f k (suc i)) (f i) refl
  where
    go : (least f k (suc i) < suc i + k → (rest : List ℕ) × (passing f k (suc i) ≡ least f k (suc i) ∷ rest)) → (b : Bool) → f i ≡ b
        → (rest : List ℕ) × (passing f (suc k) i ≡ least f (suc k) i ∷ rest)
    go ih true e = (passing f k (suc i), passing_on f k i e ∙ ap (λ (x : ℕ). x ∷ passing f k (suc i)) (sym (least_on f k i e)))
    go ih false e =
        let (rest, w) = ih (omega (arith, least_off f k i e)) in
        (rest, passing_off f k i e ∙ w ∙ ap (λ (x : ℕ). x ∷ rest) (sym (least_off f k i e)))
