-- Polynomials with their simple digits, s, the number of roots above each digit, the list, and whether it is the exception (02, 2.14).
use Rattle.std.specs.Prelude.{Bool, true, false, List, [], ◌∷◌, map, ℕ, ℤ, pos, negsuc}
use Rattle.theory.specs.Range.{passing}
use Rattle.theory.specs.Polynomial.{roots}
use Rattle.theory.specs.Shortest.{count}
use Rattle.theory.specs.SignedClass.{SignedClass, signed_class}
use Rattle.theory.specs.SignedList.{signed_list}
use Rattle.theory.specs.Simple.{content_valuation, primitive_part, is_simple_root, is_above, is_exceptional}
use Rattle.theory.specs.Examples.{Problem}

pub record Outcome : Type 0 where
  pub digits : List ℕ
  pub exponent : ℕ
  pub numbers : List ℕ
  pub classes : List SignedClass
  pub exceptional : Bool

-- what the definitions give
unfoldable pub outcome : Problem → Outcome
unfolding passing is_simple_root primitive_part content_valuation count is_above roots signed_list is_exceptional
outcome c =
    let S = roots c.f c.p c.n in
    let digits = passing (is_simple_root c.p (primitive_part c.f c.p c.n)) c.p 0 in
    record {
      digits = digits;
      exponent = content_valuation c.f c.p c.n;
      numbers = map (λ d. count (is_above S c.p d) c.p c.n) digits;
      classes = signed_list S c.p c.n;
      exceptional = is_exceptional c.f c.p c.n;
    }

pub record Case : Type 0 where
  pub given : Problem
  pub expected : Outcome

abbrev case : List ℤ → ℕ → ℕ → List ℕ → ℕ → List ℕ → List SignedClass → Bool → Case
case f p n digits s numbers L b =
    record {
      given = record { f = f; p = p; n = n };
      expected = record { digits = digits; exponent = s; numbers = numbers; classes = L; exceptional = b };
    }

unfoldable pub table : List Case
table =
    -- x² + 1, p = 5, n = 2
    case (pos 1 ∷ pos 0 ∷ pos 1 ∷ []) 5 2 (2 ∷ 3 ∷ []) 0 (1 ∷ 1 ∷ []) (signed_class (negsuc 6) 2 ∷ signed_class (pos 7) 2 ∷ []) false
    -- 3x² − 3, p = 3, n = 3
    ∷ case (negsuc 2 ∷ pos 0 ∷ pos 3 ∷ []) 3 3 (1 ∷ 2 ∷ []) 1 (3 ∷ 3 ∷ []) (signed_class (negsuc 0) 2 ∷ signed_class (pos 1) 2 ∷ []) false
    -- x³ − x², p = 3, n = 3: 0 is a double root
    ∷ case (pos 0 ∷ pos 0 ∷ negsuc 0 ∷ pos 1 ∷ []) 3 3 (1 ∷ []) 0 (1 ∷ []) (signed_class (pos 0) 2 ∷ signed_class (pos 1) 3 ∷ []) false
    -- 2x² + 2x, p = 2, n = 2: n − s is 1, and x² + x vanishes at both digits
    ∷ case (pos 0 ∷ pos 2 ∷ pos 2 ∷ []) 2 2 (0 ∷ 1 ∷ []) 1 (2 ∷ 2 ∷ []) (signed_class (pos 0) 0 ∷ []) true
    ∷ []
