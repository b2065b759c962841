-- The numbers below k that pass a test, as k grows, and how many they are.
use mathlib.Core.Path.{◌≡◌, refl, sym, ap, ◌∙◌}
use mathlib.Core.Bool.{Bool, true, false}
use mathlib.Core.List.{List, append-nil, [], ◌∷◌, ◌++◌}
use Prim.Native.Nat.{◌-◌, ℕ, zero, suc, ◌+◌, ◌≤◌, ◌<◌}
use native.Mathlib.Nat.{zero-add, sub-zero}
use native.Mathlib.Omega.{arith}
use lib.ListN.{get_or, take, length-append, length}
use lib.Seq.{get_or-take, length-take-le, take-take}
use Rattle.theory.specs.Range.{passing}
use Rattle.theory.proofs.Lists.Index.{in_at}
use Rattle.theory.proofs.Lists.Map.{map_in}
use Rattle.theory.proofs.Lists.Permutation.{perm_in}
use Rattle.theory.proofs.Lists.Pigeonhole.{pigeonhole-full}
use Rattle.theory.proofs.Range.{passing_on, passing_off, passing-append, passing_sound, passing_complete, passing_no_repeat}

-- one number more
pub passing_next_on : (f : ℕ → Bool) (k : ℕ) → f k ≡ true → passing f (k + 1) 0 ≡ passing f k 0 ++ (k ∷ [])
unfolding passing
passing_next_on f k e =
    passing-append f k 1 0 ∙ ap (λ xs. passing f k 0 ++ xs) (rw (zero-add k) (passing_on f 0 k e))

pub passing_next_off : (f : ℕ → Bool) (k : ℕ) → f k ≡ false → passing f (k + 1) 0 ≡ passing f k 0
unfolding passing
passing_next_off f k e =
    passing-append f k 1 0 ∙ ap (λ xs. passing f k 0 ++ xs) (rw (zero-add k) (passing_off f 0 k e)) ∙ append-nil (passing f k 0)

-- how many there are in j numbers and the k after them
pub passing-sum : (f : ℕ → Bool) (j k i : ℕ) → length (passing f (j + k) i) ≡ length (passing f j i) + length (passing f k (i + j))
passing-sum f j k i = ap length (passing-append f j k i) ∙ length-append (passing f j i) (passing f k (i + j))

-- a shorter range lists no more
pub passing_shorter : (f : ℕ → Bool) (j k : ℕ) → j ≤ k → length (passing f j 0) ≤ length (passing f k 0)
passing_shorter f j k h =
    let e : j + (k - j) ≡ k = omega arith in
    rw (← e) (omega (arith, passing-sum f j (k - j) 0))

-- no more are listed than there are numbers
pub passing_most : (f : ℕ → Bool) (k i : ℕ) → length (passing f k i) ≤ k
unfolding passing
passing_most f zero i = omega arith
passing_most f (suc k) i = go (passing_most f k (suc i)) (f i) refl
  where
    go : length (passing f k (suc i)) ≤ k → (b : Bool) → f i ≡ b → length (passing f (suc k) i) ≤ suc k
    go ih true e = omega (arith, ih, ap length (passing_on f k i e))
    go ih false e = omega (arith, ih, ap length (passing_off f k i e))

-- the entries before one are those below it
pub passing_prefix : (f : ℕ → Bool) (k i j : ℕ) → j < length (passing f k i)
    → take j (passing f k i) ≡ passing f (get_or (passing f k i) j 0 - i) i
unfolding passing
passing_prefix f zero i j h = absurd (omega arith)
passing_prefix f (suc k) i j h = go (passing_prefix f k (suc i)) (f i) refl
  where
    rest : List ℕ
    rest = passing f k (suc i)

    step : ((t : ℕ) → t < length rest → take t rest ≡ passing f (get_or rest t 0 - suc i) (suc i)) → (t : ℕ) → t < length rest
        → (suc (get_or rest t 0 - suc i) ≡ get_or rest t 0 - i) × (take t rest ≡ passing f (get_or rest t 0 - suc i) (suc i))
    step ih t l =
        let w = passing_sound f k (suc i) (get_or rest t 0) (in_at rest t 0 l) in
        (omega (arith, w.low), ih t l)

    on : ((t : ℕ) → t < length rest → take t rest ≡ passing f (get_or rest t 0 - suc i) (suc i)) → f i ≡ true → (t : ℕ) → t < suc
        (length rest)
        → take t (i ∷ rest) ≡ passing f (get_or (i ∷ rest) t 0 - i) i
    on ih e zero l = let z : i - i ≡ 0 = omega arith in rw z
    on ih e (suc t) l =
        let (n, w) = step ih t (omega arith) in
        ap (λ xs. i ∷ xs) w ∙ sym (passing_on f (get_or rest t 0 - suc i) i e) ∙ ap (λ (x : ℕ). passing f x i) n

    go : ((t : ℕ) → t < length rest → take t rest ≡ passing f (get_or rest t 0 - suc i) (suc i)) → (b : Bool) → f i ≡ b
        → take j (passing f (suc k) i) ≡ passing f (get_or (passing f (suc k) i) j 0 - i) i
    go ih true e = rw (passing_on f k i e) (on ih e j (omega (arith, ap length (passing_on f k i e))))
    go ih false e =
        let (n, w) = step ih j (omega (arith, ap length (passing_off f k i e))) in
        rw (passing_off f k i e) (w ∙ sym (passing_off f (get_or rest j 0 - suc i) i e) ∙ ap (λ (x : ℕ). passing f x i) n)

-- the same of the first entries of a longer list
pub taken_prefix : (f : ℕ → Bool) (k n i : ℕ) (l : List ℕ) → take n l ≡ passing f k 0 → n ≤ length l → i < n
    → (get_or l i 0 < k) × (take i l ≡ passing f (get_or l i 0) 0)
taken_prefix f k n i l e fits h =
    let long : length (passing f k 0) ≡ n = sym (ap length e) ∙ length-take-le n l fits in
    let entry : get_or (passing f k 0) i 0 ≡ get_or l i 0 = sym (ap (λ (xs : List ℕ). get_or xs i 0) e) ∙ get_or-take n l i 0 h in
    let inside = passing_sound f k 0 (get_or (passing f k 0) i 0) (in_at (passing f k 0) i 0 (omega arith)) in (
      omega (arith, inside.high),
      sym (take-take i n l (omega arith))
          ∙ ap (take i) e
          ∙ passing_prefix f k 0 i (omega arith)
          ∙ ap (λ (x : ℕ). passing f x 0) (sub-zero (get_or (passing f k 0) i 0) ∙ entry),
    )

-- the list has k entries exactly if all k numbers pass
pub passing_full : (f : ℕ → Bool) (k : ℕ) → length (passing f k 0) ≡ k → (c : ℕ) → c < k → f c ≡ true
passing_full f k e c h = go (f c) refl
  where
    go : (b : Bool) → f c ≡ b → f c ≡ true
    go true q = q
    go false q =
        let short : length (passing f (c + 1) 0) ≤ c = omega (arith, ap length (passing_next_off f c q), passing_most f c 0) in
        let n : c + 1 + (k - (c + 1)) ≡ k = omega arith in
        absurd (omega (
          arith,
          ap (λ (x : ℕ). length (passing f x 0)) n,
          passing-sum f (c + 1) (k - (c + 1)) 0,
          passing_most f (k - (c + 1)) (0 + (c + 1)),
        ))

pub passing-all : (f : ℕ → Bool) (k i : ℕ) → ((c : ℕ) → i ≤ c → c < i + k → f c ≡ true) → length (passing f k i) ≡ k
unfolding passing
passing-all f zero i h = refl
passing-all f (suc k) i h =
    ap length (passing_on f k i (h i (omega arith) (omega arith)))
    ∙ ap suc (passing-all f k (suc i) (λ c l b. h c (omega arith) (omega arith)))

-- a test that passes no number that another fails, and as many as it, passes the same
pub passing_as_many : (f g : ℕ → Bool) (k i : ℕ) → ((x : ℕ) → i ≤ x → x < i + k → f x ≡ true → g x ≡ true)
    → length (passing f k i) ≡ length (passing g k i) → (x : ℕ) → i ≤ x → x < i + k → g x ≡ true → f x ≡ true
passing_as_many f g k i sub e x low high q =
    let same : ℕ → ℕ = λ y. y in
    let d = pigeonhole-full same (passing f k i) (passing g k i) (passing_no_repeat f k i) (λ y u.
    let w = passing_sound f k i y u in
    (y, passing_complete g k i y (sub y w.low w.high w.passes) w.low w.high, refl)) e in
    (passing_sound f k i x (perm_in d (map_in same (passing g k i) x (passing_complete g k i x q low high)))).passes
