-- The members of a list of classes, as a set.
use mathlib.Core.Path.{◌≡◌, refl, ap, ap₂}
use mathlib.Core.Logic.{◌⊎◌, inl, inr}
use mathlib.Core.Bool.{Bool, true, false, ◌||◌, false≢true}
use mathlib.Core.List.{List, [], ◌∷◌, ◌++◌}
use Prim.Native.Nat.{ℕ, ◌-◌, ◌%◌, ◌^◌, ◌≤◌, ◌<◌}
use native.Mathlib.Nat.{mod-mod_of_dvd}
use native.Mathlib.Omega.{arith}
use borrow.Author.Tests.{eqb-true, eq-eqb}
use lib.Dec.{eqb}
use Rattle.theory.specs.Lists.{In, here, there}
use Rattle.theory.specs.Class.{Class, is_member}
use Rattle.theory.specs.ClassList.{members, from}
use Rattle.theory.specs.Rival.{Rival}
use Rattle.theory.proofs.Tests.{same_test, or_cases, or_left, or_right}
use Rattle.theory.proofs.Numbers.Power.{pow_dvd}
use Rattle.theory.proofs.Range.{passing_same}

pub member_congruent : (p : ℕ) (c : Class) (r : ℕ) → is_member p c r ≡ true → r % p ^ c.level ≡ c.residue
unfolding is_member
member_congruent p c r e = eqb-true (r % p ^ c.level) c.residue e

pub congruent_member : (p : ℕ) (c : Class) (r : ℕ) → r % p ^ c.level ≡ c.residue → is_member p c r ≡ true
unfolding is_member
congruent_member p c r e = eq-eqb (r % p ^ c.level) c.residue e

-- a member of the list is a member of an entry
pub members_sound : (p : ℕ) (l : List Class) (r : ℕ) → members p l r ≡ true → (c : Class) × In c l × (is_member p c r ≡ true)
unfolding members
members_sound p [] r e = absurd (false≢true e)
members_sound p (c ∷ l) r e = go (members_sound p l r) (or_cases (is_member p c r) (members p l r) e)
  where
    go : (members p l r ≡ true → (d : Class) × In d l × (is_member p d r ≡ true)) → (is_member p c r ≡ true) ⊎ (members p l r ≡ true)
        → (d : Class) × In d (c ∷ l) × (is_member p d r ≡ true)
    go ih (inl q) = (c, here refl, q)
    go ih (inr q) = let (d, u, w) = ih q in (d, there u, w)

-- and a member of an entry is one of the list
pub members_complete : (p : ℕ) (l : List Class) (r : ℕ) (c : Class) → In c l → is_member p c r ≡ true → members p l r ≡ true
unfolding members
members_complete p (d ∷ l) r c (here q) e = or_left (is_member p d r) (members p l r) (rw (← q) e)
members_complete p (d ∷ l) r c (there u) e = or_right (is_member p d r) (members p l r) (members_complete p l r c u e)
members_complete p [] r c x'' e = elim x'' [ ]

-- the members of a rival are the set
pub rival_members : (S : ℕ → Bool) (p n : ℕ) (R : List Class) → Rival S p n R → (r : ℕ) → r < p ^ n → members p R r ≡ S r
rival_members S p n R rival r h =
    same_test (members p R r) (S r)
    (λ e. let (c, u, q) = members_sound p R r e in rival.no_other c u r (record { below = h; congruent = member_congruent p c r q }))
    (λ e.
    let w = rival.every r h e in
    members_complete p R r w.entry w.listed (congruent_member p w.entry r w.member.congruent))

-- "the least member at or after the point": from any point on, a rival's members are those of the set
pub rival_from : (S : ℕ → Bool) (p n : ℕ) (R : List Class) → Rival S p n R → (q : ℕ) → from (members p R) p n q ≡ from S p n q
unfolding from
rival_from S p n R rival q = passing_same (members p R) S (p ^ n - q) q (λ r l b. rival_members S p n R rival r (omega arith))

-- the members with one class more
pub members_snoc : (p : ℕ) (l : List Class) (c : Class) (r : ℕ) → members p (l ++ (c ∷ [])) r ≡ (members p l r || is_member p c r)
unfolding members
members_snoc p [] c r = go (is_member p c r) refl
  where
    go : (b : Bool) → is_member p c r ≡ b → (is_member p c r || false) ≡ is_member p c r
    go true e = rw e
    go false e = rw e
members_snoc p (d ∷ l) c r = go (members_snoc p l c r) (is_member p d r) refl
  where
    go : members p (l ++ (c ∷ [])) r ≡ (members p l r || is_member p c r) → (b : Bool) → is_member p d r ≡ b
        → (is_member p d r || members p (l ++ (c ∷ [])) r) ≡ (is_member p d r || members p l r || is_member p c r)
    go ih true e = rw e
    go ih false e = rw e ih

-- levels up to n: the residue modulo pⁿ tells
pub members_modulo : (p n : ℕ) (l : List Class) → ((c : Class) → In c l → c.level ≤ n) → (r : ℕ) → members p l (r % p ^ n) ≡ members p l r
unfolding members is_member
members_modulo p n [] fits r = refl
members_modulo p n (c ∷ l) fits r =
    ap₂ (λ (a b : Bool). a || b)
    (ap (λ (x : ℕ). eqb x c.residue) (mod-mod_of_dvd (p ^ c.level) r (pow_dvd p (fits c (here refl)))))
    (members_modulo p n l (λ d u. fits d (there u)) r)
