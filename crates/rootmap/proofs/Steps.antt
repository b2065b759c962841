-- The members a, a + q, a + 2·q, … of a residue class, one after another.
use mathlib.Core.Path.{◌≡◌, sym, ◌∙◌}
use mathlib.Core.Logic.{◌⊎◌, inl, inr}
use mathlib.Core.Bool.{Bool, true, false, ◌&&◌, ◌||◌}
use Prim.Native.Nat.{ℕ, suc, ◌+◌, ◌/◌, ◌%◌, ◌≤◌, ◌<◌}
use native.Mathlib.Nat.{div-add-mod', mul-le-mul_right, mod-eq_of_lt}
use native.Mathlib.Decide.{dec_le, dec_lt, ℕ_discrete}
use native.Mathlib.Omega.{arith}
use borrow.Author.Tests.{ltb-true, lt-ltb, eqb-true, eq-eqb}
use lib.Dec.{eqb, ltb}
use Rattle.theory.proofs.Tests.{same_test, not_holding, and_left, and_right, and_intro, or_cases, or_left, or_right}

-- two numbers of one residue are q apart, or more
apart : (q r s : ℕ) → r % q ≡ s % q → r < s → r + q ≤ s
apart q r s e h = go (dec_le (suc (r / q)) (s / q))
  where
    go : Dec (suc (r / q) ≤ s / q) → r + q ≤ s
    go (yes l) = omega (arith, div-add-mod' r q, div-add-mod' s q, mul-le-mul_right q l)
    go (no l) =
        let k : s / q ≤ r / q = omega arith in
        absurd (omega (arith, div-add-mod' r q, div-add-mod' s q, mul-le-mul_right q k))

-- s is below r and has the residue a
abbrev pub member_below : ℕ → ℕ → ℕ → ℕ → Bool
member_below a q r s = ltb s r && eqb (s % q) a

module _ (a q r s : ℕ) where
  member-lt : member_below a q r s ≡ true → s < r
  member-lt e = ltb-true s r (and_left (ltb s r) (eqb (s % q) a) e)

  member-mod : member_below a q r s ≡ true → s % q ≡ a
  member-mod e = eqb-true (s % q) a (and_right (ltb s r) (eqb (s % q) a) e)

  member_is : s < r → s % q ≡ a → member_below a q r s ≡ true
  member_is h e = and_intro (ltb s r) (eqb (s % q) a) (lt-ltb s r h) (eq-eqb (s % q) a e)

-- no member is below a
pub members-first : (a q s : ℕ) → a < q → member_below a q a s ≡ false
members-first a q s h =
    not_holding (member_below a q a s)
    (λ e. let l = member-lt a q a s e in omega (arith, member-mod a q a s e, mod-eq_of_lt {n = s} {m = q} (omega arith)))

-- after a member r the next is r + q
pub members_next : (a q r s : ℕ) → 0 < q → r % q ≡ a → (member_below a q r s || eqb s r) ≡ member_below a q (r + q) s
members_next a q r s pos e =
    same_test (member_below a q r s || eqb s r) (member_below a q (r + q) s) (λ h. up (or_cases (member_below a q r s) (eqb s r) h)) down
  where
    up : (member_below a q r s ≡ true) ⊎ (eqb s r ≡ true) → member_below a q (r + q) s ≡ true
    up (inl h) = member_is a q (r + q) s (omega (arith, member-lt a q r s h)) (member-mod a q r s h)
    up (inr h) = let same = eqb-true s r h in member_is a q (r + q) s (omega arith) (rw same e)

    down : member_below a q (r + q) s ≡ true → (member_below a q r s || eqb s r) ≡ true
    down h = go (dec_lt s r) (ℕ_discrete s r)
      where
        go : Dec (s < r) → Dec (s ≡ r) → (member_below a q r s || eqb s r) ≡ true
        go (yes l) d = or_left (member_below a q r s) (eqb s r) (member_is a q r s l (member-mod a q (r + q) s h))
        go (no l) (yes d) = or_right (member_below a q r s) (eqb s r) (eq-eqb s r d)
        go (no l) (no d) =
            absurd (omega (arith, member-lt a q (r + q) s h, apart q r s (e ∙ sym (member-mod a q (r + q) s h)) (omega arith)))

-- the members below the first that is not below m are those below m
pub members-last : (a q m r s : ℕ) → r % q ≡ a → m ≤ r → r < m + q → member_below a q r s ≡ member_below a q m s
members-last a q m r s e low high =
    same_test (member_below a q r s) (member_below a q m s)
    (λ h.
    let x = member-mod a q r s h in
    member_is a q m s (omega (arith, apart q s r (x ∙ sym e) (member-lt a q r s h))) x)
    (λ h. member_is a q r s (omega (arith, member-lt a q m s h)) (member-mod a q m s h))
