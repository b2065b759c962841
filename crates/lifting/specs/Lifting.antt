-- Simple roots lift in one way (02, 2.14), for an accepted call of the solver and the lists that it left. This is Hensel's lemma, 000's and
-- 002's Hensel lifting: "we know how to 'lift' a root, of multiplicity one, of f mod p to a root of f mod p^k, in a unique way" (002).
use Rattle.std.specs.Prelude.{◌≡◌, ◌⊎◌, Bool, true, false, [], ◌∷◌, ℕ, ◌-◌, ◌%◌, ◌^◌, ◌<◌, pos, get_or}
use Rattle.theory.specs.Polynomial.{roots}
use Rattle.theory.specs.Class.{Class, Member, member_count}
use Rattle.theory.specs.Shortest.{count}
use Rattle.theory.specs.SignedClass.{signed_class, natural, signed_slot}
use Rattle.theory.specs.Simple.{content_valuation, is_above, is_exceptional}
use Rattle.stepping.specs.Call.{Input, first_levels, first_marks, first_slots}

-- s
abbrev pub exponent : Input → ℕ
exponent x = content_valuation x.f x.p x.n

-- "roots of f modulo pⁿ … congruent to c modulo p"
abbrev pub is_lift : Input → ℕ → ℕ → Bool
is_lift x c = is_above (roots x.f x.p x.n) x.p c

-- the class in slot i of the list, with 01's residue from 0 up
abbrev pub class_in : Input → (k i : ℕ) → Class
class_in x k i = natural x.p (signed_slot (first_slots x k) i)

-- the class in slot i has no other members than these p^s roots, its level is n − s, and its mark is 1
pub record LiftsAlone (x : Input) (k c i : ℕ) : Type 0 where
  pub members : (r : ℕ) → Member x.p x.n (class_in x k i) r → is_lift x c r ≡ true
  pub size : member_count x.p x.n (class_in x k i) ≡ x.p ^ exponent x
  pub level : get_or (first_levels x k) i 0 ≡ x.n - exponent x
  pub mark : get_or (first_marks x k) i 0 ≡ 1

-- the list is the one class 0/0, and its mark is 1 or 2
pub record EverythingListed (x : Input) (k : ℕ) : Type 0 where
  pub list : first_slots x k ≡ signed_class (pos 0) 0 ∷ []
  pub mark : (get_or (first_marks x k) 0 0 ≡ 1) ⊎ (get_or (first_marks x k) 0 0 ≡ 2)

-- the roots above a digit c and their class in the list. Theorem `simple-roots-lift` has it for every digit c with `SimpleDigit`
pub record Lifts (x : Input) (k c : ℕ) : Type 0 where
  -- "with s below n"
  pub below : exponent x < x.n
  -- "exactly p^s roots of f modulo pⁿ are congruent to c modulo p"
  pub number : count (is_lift x c) x.p x.n ≡ x.p ^ exponent x
  -- "Show this of the lists as they now come out": the class in one slot has them as members
  pub slot : ℕ
  pub used : slot < k
  pub holds : (r : ℕ) → r < x.p ^ x.n → is_lift x c r ≡ true → Member x.p x.n (class_in x k slot) r
  -- and the class in no other slot has a member congruent to c
  pub alone : (i : ℕ) → i < k → (r : ℕ) → Member x.p x.n (class_in x k i) r → r % x.p ≡ c → i ≡ slot
  -- these are all its members, unless n − s is 1 and p divides g at every digit: then everything is a root
  pub usual : is_exceptional x.f x.p x.n ≡ false → LiftsAlone x k c slot
  pub exceptional : is_exceptional x.f x.p x.n ≡ true → EverythingListed x k
