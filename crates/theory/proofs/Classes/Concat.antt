-- Lists of classes that are put one after the other.
use mathlib.Core.Path.{refl, sym, ◌∙◌, ap, ◌≡◌}
use mathlib.Core.Logic.{◌⊎◌, inl, inr}
use mathlib.Core.List.{append_assoc, append-nil, [], ◌∷◌, List, ◌++◌}
use Prim.Native.Nat.{◌+◌, ℕ, zero, suc, ◌<◌}
use native.Mathlib.Nat.{eq-or-lt_of_le}
use native.Mathlib.Omega.{arith}
use mathlib.Core.Bool.{Bool, true, false}
use native.Mathlib.Numerals.{add-one}
use Rattle.theory.proofs.Passing.{passing_next_off, passing_next_on}
use Rattle.theory.specs.Range.{passing}
use Rattle.theory.specs.Lists.{In, here, there}
use Rattle.theory.specs.Class.{Class}
use Rattle.theory.specs.inner.Tree.{concat_below, flat}
use Rattle.theory.proofs.Lists.Names.{in-nil, in-append, in_left, in_right}
use Rattle.theory.proofs.Lists.NoRepeat.{NoRepeat, no_repeat_append}

pub in_concat : (f : ℕ → List Class) (k : ℕ) (e : Class) → In e (concat_below f k) → (c : ℕ) × (c < k) × In e (f c)
unfolding concat_below
in_concat f zero e m = absurd (in-nil m)
in_concat f (suc k) e m = go (in_concat f k e) (in-append (concat_below f k) m)
  where
    go : (In e (concat_below f k) → (c : ℕ) × (c < k) × In e (f c)) → In e (concat_below f k) ⊎ In e (f k)
        → (c : ℕ) × (c < suc k) × In e (f c)
    go ih (inl u) = let (c, l, w) = ih u in (c, omega arith, w)
    go ih (inr u) = (k, omega arith, u)

pub concat_in : (f : ℕ → List Class) (k c : ℕ) (e : Class) → c < k → In e (f c) → In e (concat_below f k)
unfolding concat_below
concat_in f zero c e h m = absurd (omega arith)
concat_in f (suc k) c e h m = go (λ (l : c < k). concat_in f k c e l m) (eq-or-lt_of_le h)
  where
    go : (c < k → In e (concat_below f k)) → (suc c ≡ suc k) ⊎ (suc c < suc k) → In e (concat_below f k ++ f k)
    go ih (inl q) = let q' : c ≡ k = omega arith in in_right (concat_below f k) (rw q' at m)
    go ih (inr l) = in_left (f k) (ih (omega arith))

pub no_repeat_concat : (f : ℕ → List Class) (k : ℕ) → ((c : ℕ) → c < k → NoRepeat (f c))
    → ((c d : ℕ) (e : Class) → c < k → d < k → In e (f c) → In e (f d) → c ≡ d) → NoRepeat (concat_below f k)
unfolding concat_below
no_repeat_concat f zero each apart = tt
no_repeat_concat f (suc k) each apart =
    no_repeat_append (concat_below f k) (f k)
    (no_repeat_concat f k (λ c l. each c (omega arith)) (λ c d e l l' u v. apart c d e (omega arith) (omega arith) u v))
    (each k (omega arith))
    (λ e u v. let (c, l, w) = in_concat f k e u in omega (arith, apart c k e (omega arith) (omega arith) w v))

-- The lists of the entries of a list

pub flat_next : {A : Type 0} (f : A → List Class) (l : List A) (c : A) → flat f (l ++ (c ∷ [])) ≡ flat f l ++ f c
unfolding flat
flat_next f [] c = append-nil (f c)
flat_next f (x ∷ l) c = ap (λ r. f x ++ r) (flat_next f l c) ∙ sym (append_assoc (f x) (flat f l) (f c))

pub in_flat : {A : Type 0} (f : A → List Class) (l : List A) (e : Class) → In e (flat f l) → (c : A) × In c l × In e (f c)
unfolding flat
in_flat f [] e u = absurd (in-nil u)
in_flat {A} f (x ∷ l) e u = go (in_flat f l e) (in-append (f x) u)
  where
    go : (In e (flat f l) → (c : A) × In c l × In e (f c)) → In e (f x) ⊎ In e (flat f l) → (c : A) × In c (x ∷ l) × In e (f c)
    go ih (inl w) = (x, here refl, w)
    go ih (inr w) = let (c, v, m) = ih w in (c, there v, m)

pub flat_in : {A : Type 0} (f : A → List Class) (l : List A) (c : A) (e : Class) → In c l → In e (f c) → In e (flat f l)
unfolding flat
flat_in f (x ∷ l) c e (here q) m = let w : In e (f x) = rw (← q) m in in_left (flat f l) w
flat_in f (x ∷ l) c e (there u) m = in_right (f x) (flat_in f l c e u m)
flat_in {A = A} f [] c e x'' m = elim x'' [ ]

pub no_repeat_flat : {A : Type 0} (f : A → List Class) (l : List A) → NoRepeat l → ((c : A) → In c l → NoRepeat (f c))
    → ((c d : A) (e : Class) → In c l → In d l → In e (f c) → In e (f d) → c ≡ d) → NoRepeat (flat f l)
unfolding flat
no_repeat_flat f [] nr each apart = tt
no_repeat_flat f (x ∷ l) nr each apart =
    no_repeat_append (f x) (flat f l) (each x (here refl))
    (no_repeat_flat f l nr.1 (λ c u. each c (there u)) (λ c d e u v. apart c d e (there u) (there v)))
    (λ e u v.
    let (d, w, m) = in_flat f l e v in
    let q : x ≡ d = apart x d e (here refl) (there w) u m in
    nr.0 (rw q w))

-- digits that fail the test may be left out where their lists are empty
pub concat-passing : (f : ℕ → List Class) (test : ℕ → Bool) (k : ℕ) → ((c : ℕ) → c < k → test c ≡ false → f c ≡ [])
    → concat_below f k ≡ flat f (passing test k 0)
unfolding concat_below flat passing
concat-passing f test zero none = refl
concat-passing f test (suc k) none = go (concat-passing f test k (λ c h e. none c (omega arith) e)) (test k) refl
  where
    one : suc k ≡ k + 1
    one = sym (add-one k)

    go : concat_below f k ≡ flat f (passing test k 0) → (b : Bool) → test k ≡ b → concat_below f k ++ f k ≡ flat f (passing test (suc k) 0)
    go ih true e =
        ap (λ r. r ++ f k) ih
        ∙ sym (flat_next f (passing test k 0) k)
        ∙ ap (flat f) (sym (passing_next_on test k e))
        ∙ ap (λ (j : ℕ). flat f (passing test j 0)) (sym one)
    go ih false e =
        ap (λ r. concat_below f k ++ r) (none k (omega arith) e)
        ∙ append-nil (concat_below f k)
        ∙ ih
        ∙ ap (flat f) (sym (passing_next_off test k e))
        ∙ ap (λ (j : ℕ). flat f (passing test j 0)) (sym one)
