-- The number of live classes is the length of a list that holds exactly these, each once.
use mathlib.Core.Path.{◌≡◌, refl, sym, ap, ◌∙◌, fun_ext}
use mathlib.Core.Logic.{◌⊎◌, inl, inr}
use mathlib.Core.List.{List, [], ◌∷◌}
use Prim.Native.Nat.{ℕ, zero, suc, ◌+◌, ◌*◌, ◌%◌, ◌^◌, ◌≤◌, ◌<◌}
use native.Mathlib.Omega.{arith}
use native.Mathlib.Nat.{le_refl, mod-mod_of_dvd, mod-eq_of_lt, eq_of_mul-eq-mul_left}
use lib.IntN.{ℤ}
use lib.ListN.{length, length-append}
use Rattle.theory.specs.Lists.{In, here, there}
use Rattle.theory.specs.Prime.{Prime}
use Rattle.theory.specs.Polynomial.{reduced}
use Rattle.theory.specs.Class.{Class, class}
use Rattle.theory.specs.Live.{class_polynomial, live_digits, child_at, Live, everything_live, child_live, sum_over, live_from, live}
use Rattle.theory.proofs.Lists.Names.{in-cons, in-nil, in-single}
use Rattle.theory.proofs.Lists.NoRepeat.{NoRepeat}
use Rattle.theory.proofs.Numbers.Power.{pow_pos, pow_dvd}
use Rattle.theory.proofs.Numbers.Prime.{prime_pos}
use Rattle.theory.specs.inner.Tree.{flat}
use Rattle.theory.proofs.Classes.Concat.{in_flat, flat_in, no_repeat_flat}
use Rattle.theory.proofs.Classes.Digit.{digit_lt, digit-mod}
use Rattle.theory.proofs.Live.Digits.{digits_lt, digits_no_repeat, no-digits}

flat-length : (f : ℕ → List Class) (l : List ℕ) → length (flat f l) ≡ sum_over (λ c. length (f c)) l
unfolding flat sum_over
flat-length f [] = refl
flat-length f (x ∷ l) = length-append (f x) (flat f l) ∙ ap (λ (k : ℕ). length (f x) + k) (flat-length f l)

-- d and the live classes below it, down to so many levels
live_below : List ℕ → ℕ → ℕ → (levels : ℕ) → Class → List Class
live_below f p n zero d = d ∷ []
live_below f p n (suc levels) d = d ∷ flat (λ c. live_below f p n levels (child_at p d c)) (live_digits p (class_polynomial f p n d))

module _ (f : List ℕ) (p n : ℕ) where
  -- the digits at which a class has a live class below it
  abbrev digits_at : Class → List ℕ
  digits_at d = live_digits p (class_polynomial f p n d)

  -- the lists that stand below d
  abbrev children_of : ℕ → Class → ℕ → List Class
  children_of levels d c = live_below f p n levels (child_at p d c)

  length-is : (levels : ℕ) (d : Class) → length (live_below f p n levels d) ≡ live_from f p n levels d
  unfolding live_below live_from
  length-is zero d = refl
  length-is (suc levels) d =
      ap suc (flat-length (children_of levels d) (digits_at d)
      ∙ ap (λ (h : ℕ → ℕ). sum_over h (digits_at d)) (fun_ext (λ c. length-is levels (child_at p d c))))

  -- d comes first
  first : (levels : ℕ) (d : Class) → In d (live_below f p n levels d)
  unfolding live_below
  first zero d = here refl
  first (suc levels) d = here refl

  -- only live classes are listed
  sound : (levels : ℕ) (d e : Class) → Live f p n d → In e (live_below f p n levels d) → Live f p n e
  unfolding live_below
  sound zero d e h u = rw (in-single u) h
  sound (suc levels) d e h u = go (λ c w. sound levels (child_at p d c) e (child_live d c h w)) (in-cons u)
    where
      go : ((c : ℕ) → In c (digits_at d) → In e (children_of levels d c) → Live f p n e)
          → (e ≡ d) ⊎ In e (flat (children_of levels d) (digits_at d)) → Live f p n e
      go ih (inl q) = rw q h
      go ih (inr w) = let (c, v, m) = in_flat (children_of levels d) (digits_at d) e w in ih c v m

  module _ (P : Prime p) where
    hp : 0 < p
    hp = prime_pos P

    -- down to level n, with a class the list holds those live below it
    closed : (levels : ℕ) (x d : Class) (c : ℕ) → n ≤ x.level + levels → In d (live_below f p n levels x) → In c (digits_at d)
        → In (child_at p d c) (live_below f p n levels x)
    unfolding live_below
    closed zero x d c deep u w = absurd (in-nil (rw (in-single u, no-digits p P.two f n x (omega arith)) at w))
    closed (suc levels) x d c deep u w = go (λ y v. closed levels (child_at p x y) d c (omega arith) v w) (in-cons u)
      where
        go : ((y : ℕ) → In d (children_of levels x y) → In (child_at p d c) (children_of levels x y))
            → (d ≡ x) ⊎ In d (flat (children_of levels x) (digits_at x))
            → In (child_at p d c) (x ∷ flat (children_of levels x) (digits_at x))
        go ih (inl q) =
            let v : In c (digits_at x) = rw q at w in
            rw q (there (flat_in (children_of levels x) (digits_at x) c (child_at p x c) v (first levels (child_at p x c))))
        go ih (inr m) =
            let (y, v, k) = in_flat (children_of levels x) (digits_at x) d m in
            there (flat_in (children_of levels x) (digits_at x) y (child_at p d c) v (ih y k))

    -- so every live class is listed
    complete : (e : Class) → Live f p n e → In e (live_below f p n n (class 0 0))
    complete e everything_live = first n (class 0 0)
    complete e (child_live d c h u) = closed n (class 0 0) d c (omega arith) (complete d h) u

    -- a class listed below d lies inside it
    inside : (levels : ℕ) (d e : Class) → d.residue < p ^ d.level → In e (live_below f p n levels d)
        → (d.level ≤ e.level) × (e.residue % p ^ d.level ≡ d.residue)
    unfolding live_below
    inside zero d e h u = rw (in-single u) (le_refl d.level, mod-eq_of_lt h)
    inside (suc levels) d e h u = go (λ c w. inside levels (child_at p d c) e (digit_lt p hp d.residue d.level c h w)) (in-cons u)
      where
        t : ℕ
        t = d.level

        go : ((c : ℕ) → c < p → In e (children_of levels d c) → (suc t ≤ e.level) × (e.residue % p ^ suc t ≡ d.residue + p ^ t * c))
            → (e ≡ d) ⊎ In e (flat (children_of levels d) (digits_at d)) → (t ≤ e.level) × (e.residue % p ^ t ≡ d.residue)
        go ih (inl q) = rw q (le_refl d.level, mod-eq_of_lt h)
        go ih (inr m) =
            let (c, v, k) = in_flat (children_of levels d) (digits_at d) e m in
            let w = ih c (digits_lt p (class_polynomial f p n d) c v) k in (
              omega (arith, w.0),
              sym (mod-mod_of_dvd (p ^ t) e.residue (pow_dvd p {t = t} {n = suc t} (omega arith)))
                  ∙ ap (λ (x : ℕ). x % p ^ t) w.1
                  ∙ digit-mod p hp d.residue t c h,
            )

    -- so none is listed twice
    no_repeat : (levels : ℕ) (d : Class) → d.residue < p ^ d.level → NoRepeat (live_below f p n levels d)
    unfolding live_below
    no_repeat zero d h = ((λ u. in-nil u), tt)
    no_repeat (suc levels) d h = (
      (λ u.
          let (c, v, k) = in_flat (children_of levels d) (digits_at d) d u in
          omega (arith, (inside levels (child_at p d c) d (low c v) k).0)),
      no_repeat_flat (children_of levels d) (digits_at d) (digits_no_repeat p (class_polynomial f p n d))
          (λ c u. no_repeat levels (child_at p d c) (low c u))
          (λ c x e u v w m.
          let q : d.residue + p ^ d.level * c ≡ d.residue + p ^ d.level * x =
          sym (inside levels (child_at p d c) e (low c u) w).1 ∙ (inside levels (child_at p d x) e (low x v) m).1 in
          eq_of_mul-eq-mul_left (p ^ d.level) (pow_pos p hp d.level) c x (omega arith)),
    )
      where
        low : (c : ℕ) → In c (digits_at d) → d.residue + p ^ d.level * c < p ^ suc d.level
        low c u = digit_lt p hp d.residue d.level c h (digits_lt p (class_polynomial f p n d) c u)

-- the entries of l are the live classes, each once
pub record LiveClasses (f : List ℕ) (p n : ℕ) (l : List Class) : Type 0 where
  pub once : NoRepeat l
  pub only : (e : Class) → In e l → Live f p n e
  pub all : (e : Class) → Live f p n e → In e l

-- "the number of live classes, equal to this definition's"
pub live-counted : (f : List ℤ) (p n : ℕ) → Prime p → (l : List Class) × LiveClasses (reduced f p n) p n l × (length l ≡ live f p n)
unfolding live
live-counted f p n P =
    let w = reduced f p n in (
      live_below w p n n (class 0 0),
      record {
        once = no_repeat w p n P n (class 0 0) (pow_pos p (prime_pos P) 0);
        only = λ e u. sound w p n n (class 0 0) e everything_live u;
        all = complete w p n P;
      },
      length-is w p n n (class 0 0),
    )
