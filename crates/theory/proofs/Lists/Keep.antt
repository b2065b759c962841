-- Laws of `keep`.
use mathlib.Core.Path.{◌≡◌, refl, sym, ap, ◌∙◌, subst}
use mathlib.Core.Logic.{◌⊎◌, inl, inr}
use mathlib.Core.Bool.{Bool, true, false}
use mathlib.Core.List.{List, [], ◌∷◌, ◌++◌, append-nil}
use Prim.Native.Nat.{suc, ◌≤◌}
use native.Mathlib.Omega.{arith}
use lib.ListN.{length}
use Rattle.theory.specs.Lists.{In, here, there}
use Rattle.theory.specs.inner.Keep.{keep}
use Rattle.theory.proofs.Lists.Names.{in-cons, in-nil}
use Rattle.theory.proofs.Lists.NoRepeat.{NoRepeat}

module _ {A : Type 0} (f : A → Bool) where
  pub keep-on : (x : A) (l : List A) → f x ≡ true → keep f (x ∷ l) ≡ x ∷ keep f l
  unfolding keep
  keep-on x l e = rw (e, keep)

  pub keep-off : (x : A) (l : List A) → f x ≡ false → keep f (x ∷ l) ≡ keep f l
  unfolding keep
  keep-off x l e = rw (e, keep)

  -- an entry kept is an entry, and passes
  pub in-keep : (l : List A) (x : A) → In x (keep f l) → In x l × (f x ≡ true)
  unfolding keep
  in-keep [] x u = absurd (in-nil u)
  in-keep (y ∷ l) x u = go (in-keep l x) (f y) refl
    where
      go : (In x (keep f l) → In x l × (f x ≡ true)) → (b : Bool) → f y ≡ b → In x (y ∷ l) × (f x ≡ true)
      go ih false q = let (v, e) = ih (subst (In x) (keep-off y l q) u) in (there v, e)
      go ih true q = pick (in-cons (subst (In x) (keep-on y l q) u))
        where
          pick : (x ≡ y) ⊎ In x (keep f l) → In x (y ∷ l) × (f x ≡ true)
          pick (inl s) = (here s, ap f s ∙ q)
          pick (inr w) = let (v, e) = ih w in (there v, e)

  -- and an entry that passes is kept
  pub keep-in : (l : List A) (x : A) → In x l → f x ≡ true → In x (keep f l)
  keep-in (y ∷ l) x (here s) e = rw (keep-on y l (ap f (sym s) ∙ e)) (here s)
  keep-in (y ∷ l) x (there u) e = go (keep-in l x u e) (f y) refl
    where
      go : In x (keep f l) → (b : Bool) → f y ≡ b → In x (keep f (y ∷ l))
      go ih true q = rw (keep-on y l q) (there ih)
      go ih false q = rw (keep-off y l q) ih
  keep-in [] x x4 e = elim x4 [ ]

  pub keep-no-repeat : (l : List A) → NoRepeat l → NoRepeat (keep f l)
  unfolding keep
  keep-no-repeat [] nr = tt
  keep-no-repeat (y ∷ l) nr = go (keep-no-repeat l nr.1) (f y) refl
    where
      go : NoRepeat (keep f l) → (b : Bool) → f y ≡ b → NoRepeat (keep f (y ∷ l))
      go ih true q = rw (keep-on y l q) ((λ u. nr.0 (in-keep l y u).0), ih)
      go ih false q = rw (keep-off y l q) ih

  pub keep-length : (l : List A) → length (keep f l) ≤ length l
  unfolding keep
  keep-length [] = omega arith
  keep-length (y ∷ l) = go (keep-length l) (f y) refl
    where
      go : length (keep f l) ≤ length l → (b : Bool) → f y ≡ b → length (keep f (y ∷ l)) ≤ suc (length l)
      go ih true q = omega (arith, ih, ap length (keep-on y l q))
      go ih false q = omega (arith, ih, ap length (keep-off y l q))

  pub keep_append : (l m : List A) → keep f (l ++ m) ≡ keep f l ++ keep f m
  unfolding keep
  keep_append [] m = refl
  keep_append (y ∷ l) m = go (keep_append l m) (f y) refl
    where
      go : keep f (l ++ m) ≡ keep f l ++ keep f m → (b : Bool) → f y ≡ b → keep f (y ∷ l ++ m) ≡ keep f (y ∷ l) ++ keep f m
      go ih true q = rw (keep-on y (l ++ m) q, keep-on y l q) (ap (λ xs. y ∷ xs) ih)
      go ih false q = rw (keep-off y (l ++ m) q, keep-off y l q) ih

  -- one entry more
  pub keep-next-on : (l : List A) (x : A) → f x ≡ true → keep f (l ++ (x ∷ [])) ≡ keep f l ++ (x ∷ [])
  unfolding keep
  keep-next-on l x e = keep_append l (x ∷ []) ∙ ap (λ xs. keep f l ++ xs) (keep-on x [] e)

  pub keep-next-off : (l : List A) (x : A) → f x ≡ false → keep f (l ++ (x ∷ [])) ≡ keep f l
  unfolding keep
  keep-next-off l x e = keep_append l (x ∷ []) ∙ ap (λ xs. keep f l ++ xs) (keep-off x [] e) ∙ append-nil (keep f l)
