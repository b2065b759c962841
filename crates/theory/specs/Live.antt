-- Live classes, 02's term (2.8).
use Rattle.std.specs.Prelude.{true, false, List, [], ◌∷◌, map, ℕ, zero, suc, ◌+◌, ◌*◌, ◌%◌, ◌^◌, ℤ}
use Rattle.theory.specs.Lists.{In}
use Rattle.theory.specs.Range.{passing}
use Rattle.theory.specs.Polynomial.{reduced, vanishes}
use Rattle.theory.specs.Taylor.{stretch, taylor, shifted}
use Rattle.theory.specs.Degree.{all_zero, primitive}
use Rattle.theory.specs.Class.{Class, class}

-- "A live class a/t has the polynomial f(a + p^t × y), coefficients modulo pⁿ"
unfoldable pub class_polynomial : List ℕ → ℕ → ℕ → Class → List ℕ
unfolding stretch taylor
class_polynomial f p n d = map (λ a. a % p ^ n) (shifted d.residue (p ^ d.level) f)

-- "if they are all zero the class is finished. Otherwise divide by the largest power of p common to them, and for each digit c from 0 to
-- p − 1 where the quotient is a multiple of p": these digits, for the polynomial g of a class
unfoldable pub live_digits : ℕ → List ℕ → List ℕ
unfolding all_zero primitive passing vanishes
live_digits p g = elim (all_zero g) [ true ↦ [] | false ↦ passing (vanishes p (primitive p g)) p 0 ]

-- "the class of a + p^t × c at level t + 1"
abbrev pub child_at : ℕ → Class → ℕ → Class
child_at p d c = class (d.residue + p ^ d.level * c) (suc d.level)

-- "Call everything live. A live class … for each digit c … the class … is live"
pub data Live (f : List ℕ) (p n : ℕ) : Class → Type 0 where
  everything_live : Live f p n (class 0 0)
  child_live : (d : Class) (c : ℕ) → Live f p n d → In c (live_digits p (class_polynomial f p n d)) → Live f p n (child_at p d c)

-- f at each entry, added up
unfoldable pub sum_over : (ℕ → ℕ) → List ℕ → ℕ
sum_over f [] = 0
sum_over f (a ∷ l) = f a + sum_over f l

-- how many classes are live where d is: d itself and those below it, down to so many levels
unfoldable pub live_from : List ℕ → ℕ → ℕ → (levels : ℕ) → Class → ℕ
unfolding class_polynomial live_digits sum_over
live_from f p n zero d = 1
live_from f p n (suc levels) d = suc (sum_over (λ c. live_from f p n levels (child_at p d c)) (live_digits p (class_polynomial f p n d)))

-- from everything down, for coefficients that are reduced
abbrev pub live_of : List ℕ → ℕ → ℕ → (levels : ℕ) → ℕ
live_of w p n levels = live_from w p n levels (class 0 0)

-- "the number of live classes": n levels hold them all, by the theorem `live-counted`
unfoldable pub live : List ℤ → ℕ → ℕ → ℕ
unfolding reduced live_from
live f p n = live_of (reduced f p n) p n n
