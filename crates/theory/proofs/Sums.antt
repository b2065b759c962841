-- Sums over a range and over the entries of a list.
use mathlib.Core.Path.{◌≡◌, refl, ap, ap₂, ◌∙◌}
use mathlib.Core.Bool.{Bool, true, false}
use mathlib.Core.List.{List, [], ◌∷◌, ◌++◌}
use Prim.Native.Nat.{ℕ, zero, suc, ◌+◌, ◌*◌, ◌≤◌, ◌<◌}
use native.Mathlib.Omega.{arith}
use lib.ListN.{length, get_or, take}
use Rattle.theory.specs.Range.{passing}
use Rattle.theory.specs.Live.{sum_over}
use Rattle.theory.proofs.Lists.Fill.{take_next}
use Rattle.theory.proofs.Range.{passing_on, passing_off}

-- Over a range

-- f c + f (c + 1) + …, k of them
unfoldable pub sum_from : (ℕ → ℕ) → ℕ → ℕ → ℕ
sum_from f c zero = 0
sum_from f c (suc k) = f c + sum_from f (suc c) k

pub sum-append : (f : ℕ → ℕ) (j k c : ℕ) → sum_from f c (j + k) ≡ sum_from f c j + sum_from f (c + j) k
unfolding sum_from
sum-append f zero k c =
    let e : 0 + k ≡ k = omega arith in
    let z : c + 0 ≡ c = omega arith in
    rw (e, z) (omega arith)
sum-append f (suc j) k c =
    let e : suc j + k ≡ suc (j + k) = omega arith in
    let z : suc c + j ≡ c + suc j = omega arith in
    rw (e, ← z) (omega (arith, sum-append f j k (suc c)))

pub sum_same : (f g : ℕ → ℕ) (k c : ℕ) → ((x : ℕ) → c ≤ x → x < c + k → f x ≡ g x) → sum_from f c k ≡ sum_from g c k
unfolding sum_from
sum_same f g zero c h = refl
sum_same f g (suc k) c h =
    ap₂ (λ (x y : ℕ). x + y) (h c (omega arith) (omega arith)) (sum_same f g k (suc c) (λ x l b. h x (omega arith) (omega arith)))

pub sum_none : (k c : ℕ) → sum_from (λ x. 0) c k ≡ 0
unfolding sum_from
sum_none zero c = refl
sum_none (suc k) c = omega (arith, sum_none k (suc c))

pub sum_both : (f g : ℕ → ℕ) (k c : ℕ) → sum_from (λ x. f x + g x) c k ≡ sum_from f c k + sum_from g c k
unfolding sum_from
sum_both f g zero c = refl
sum_both f g (suc k) c = omega (arith, sum_both f g k (suc c))

-- a range that starts later
pub sum_from_lem : (f : ℕ → ℕ) (k c i : ℕ) → sum_from f (c + i) k ≡ sum_from (λ x. f (x + i)) c k
unfolding sum_from
sum_from_lem f zero c i = refl
sum_from_lem f (suc k) c i =
    let e : suc (c + i) ≡ suc c + i = omega arith in
    ap (λ (s : ℕ). f (c + i) + s) (ap (λ (x : ℕ). sum_from f x k) e ∙ sum_from_lem f k (suc c) i)

-- Over the entries

sum_over-last : (f : ℕ → ℕ) (l : List ℕ) (a : ℕ) → sum_over f (l ++ (a ∷ [])) ≡ sum_over f l + f a
unfolding sum_over
sum_over-last f [] a = omega arith
sum_over-last f (b ∷ l) a = rw (sum_over-last f l a) (omega arith)

-- one entry more
pub sum_over_next : (f : ℕ → ℕ) (l : List ℕ) (i : ℕ) → i < length l → sum_over f (take (i + 1) l) ≡ sum_over f (take i l) + f (get_or l i 0)
sum_over_next f l i h = ap (sum_over f) (take_next l i 0 h) ∙ sum_over-last f (take i l) (get_or l i 0)

-- the first entries make no more than all
pub sum_over_taken : (f : ℕ → ℕ) (k : ℕ) (l : List ℕ) → sum_over f (take k l) ≤ sum_over f l
unfolding sum_over
sum_over_taken f zero l = omega arith
sum_over_taken f (suc k) [] = omega arith
sum_over_taken f (suc k) (a ∷ l) = omega (arith, sum_over_taken f k l)

pub sum_over_most : (f : ℕ → ℕ) (b : ℕ) (l : List ℕ) → ((a : ℕ) → f a ≤ b) → sum_over f l ≤ length l * b
unfolding sum_over
sum_over_most f b [] h = omega arith
sum_over_most f b (a ∷ l) h = omega (arith, h a, sum_over_most f b l h)

pub length-sum : (l : List ℕ) → length l ≡ sum_over (λ a. 1) l
unfolding sum_over
length-sum [] = refl
length-sum (a ∷ l) = omega (arith, length-sum l)

-- x where a test passes, else 0
unfoldable pub where_passes : Bool → ℕ → ℕ
where_passes true x = x
where_passes false x = 0

pub passes_on : (x : ℕ) → where_passes true x ≡ x
unfolding where_passes
passes_on x = refl

pub passes_off : (x : ℕ) → where_passes false x ≡ 0
unfolding where_passes
passes_off x = refl

-- over the numbers of a range that pass a test
pub sum_over-passing : (test : ℕ → Bool) (f : ℕ → ℕ) (k i : ℕ)
    → sum_over f (passing test k i) ≡ sum_from (λ c. where_passes (test c) (f c)) i k
unfolding sum_over passing sum_from where_passes
sum_over-passing test f zero i = refl
sum_over-passing test f (suc k) i = go (sum_over-passing test f k (suc i)) (test i) refl
  where
    go : sum_over f (passing test k (suc i)) ≡ sum_from (λ c. where_passes (test c) (f c)) (suc i) k → (b : Bool) → test i ≡ b
        → sum_over f (passing test (suc k) i) ≡ where_passes (test i) (f i) + sum_from (λ c. where_passes (test c) (f c)) (suc i) k
    go ih true e = rw (passing_on test k i e, e) (omega (arith, ih))
    go ih false e = rw (passing_off test k i e, e) (omega (arith, ih))
