-- The zeros of a polynomial of degree 0 or 1 modulo p.
use mathlib.Core.Path.{◌≡◌, refl, sym, ap, ◌∙◌}
use mathlib.Core.Logic.{◌⊎◌, inl, inr}
use mathlib.Core.Bool.{true}
use mathlib.Core.List.{List, [], ◌∷◌}
use Prim.Native.Nat.{ℕ, ◌+◌, ◌-◌, ◌*◌, ◌%◌, ◌≤◌, ◌<◌}
use native.Mathlib.Nat.{dvd-zero, dvd_refl, eq-zero-or-pos, mul-one, zero-mod, mod-eq_of_lt, le_refl}
use native.Mathlib.Omega.{arith}
use lib.ListN.{length}
use Rattle.theory.specs.Lists.{In}
use Rattle.theory.specs.Prime.{Prime}
use Rattle.theory.specs.Polynomial.{value, vanishes}
use Rattle.theory.specs.inner.Polynomial.{coef, Degree}
use Rattle.theory.proofs.Lists.Names.{in-nil, in-single}
use Rattle.theory.proofs.Range.{passing_complete}
use Rattle.theory.proofs.Numbers.Congruence.{Congruent, cong_refl, cong_trans, cong_of_eq, cong_add, cong_mul, cong_mod, dvd_cong}
use Rattle.solver.specs.inner.Table.{zero_digits}
use Rattle.solver.proofs.Zeros.{few, vanishes_on}

none : (l : List ℕ) → length l ≤ 0 → l ≡ []
none [] h = refl
none (x ∷ l) h = absurd (omega arith)

pub constant_none : (p : ℕ) (f : List ℕ) → Prime p → Degree p f 0 → zero_digits p f ≡ []
constant_none p f P D = none (zero_digits p f) (few p 0 f P D p (le_refl p))

pub lead_pos : {p d : ℕ} {f : List ℕ} → Degree p f d → 0 < coef f d
lead_pos {p} {d} {f} D = go (eq-zero-or-pos (coef f d))
  where
    go : (coef f d ≡ 0) ⊎ (0 < coef f d) → 0 < coef f d
    go (inl e) = absurd (D.lead (rw e (dvd-zero p)))
    go (inr h) = h

value_two : (g : List ℕ) (c : ℕ) → length g ≡ 2 → value g c ≡ coef g 0 + c * coef g 1
unfolding value
value_two [] c n = omega arith
value_two (a ∷ []) c n = omega arith
value_two (a ∷ b ∷ []) c n = omega arith
value_two (a ∷ b ∷ d ∷ g) c n = absurd (omega arith)

-- with x the inverse of the leading coefficient, the negated constant times x is a zero
zero_at : (p : ℕ) (g : List ℕ) (x : ℕ) → length g ≡ 2 → 1 < p → coef g 0 < p → x * coef g 1 % p ≡ 1
    → vanishes p g ((p - coef g 0) * x % p) ≡ true
zero_at p g x n two small ex =
    vanishes_on p g ((p - a) * x % p)
    (rw (value_two g ((p - a) * x % p) n) (cong_trans (cong_add (cong_refl {x = a}) times) whole).same ∙ zero-mod p)
  where
    a : ℕ
    a = coef g 0

    b : ℕ
    b = coef g 1

    times : Congruent p ((p - a) * x % p * b) (p - a)
    times =
        let order : (p - a) * x * b ≡ (p - a) * (x * b) = omega arith in
        cong_trans (cong_mul (cong_mod p ((p - a) * x)) (cong_refl {x = b}))
        (cong_trans (cong_of_eq order)
        (cong_trans (cong_mul (cong_refl {x = p - a}) (record { same = ex ∙ sym (mod-eq_of_lt two) })) (cong_of_eq (mul-one (p - a)))))

    whole : Congruent p (a + (p - a)) 0
    whole =
        let sum : a + (p - a) ≡ p = omega arith in
        cong_trans (cong_of_eq sum) (dvd_cong (dvd_refl p))

only : (l : List ℕ) (c : ℕ) → length l ≤ 1 → In c l → l ≡ c ∷ []
only [] c h u = absurd (in-nil u)
only (x ∷ []) c h u = ap (λ (y : ℕ). y ∷ []) (sym (in-single u))
only (x ∷ y ∷ l) c h u = absurd (omega arith)

-- and there is no other
pub linear-zeros : (p : ℕ) (g : List ℕ) (x : ℕ) → length g ≡ 2 → Prime p → Degree p g 1 → coef g 0 < p → x * coef g 1 % p ≡ 1
    → (p - coef g 0) * x % p < p → zero_digits p g ≡ (p - coef g 0) * x % p ∷ []
linear-zeros p g x n P D small ex low =
    only (zero_digits p g) ((p - coef g 0) * x % p) (few p 1 g P D p (le_refl p))
    (passing_complete (vanishes p g) p 0 ((p - coef g 0) * x % p) (zero_at p g x n P.two small ex) (omega arith) (omega arith))
