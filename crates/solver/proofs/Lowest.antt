-- The least valuation, found by lowering a bound with one coefficient after the other.
use mathlib.Core.Path.{◌≡◌, refl, sym, ap, ◌∙◌}
use mathlib.Core.Bool.{Bool, true, false}
use mathlib.Core.List.{List, [], ◌∷◌, ◌++◌, map, foldr}
use Prim.Native.Nat.{ℕ, ◌≤◌, ◌<◌, min}
use native.Mathlib.Nat.{pow-le-pow_left}
use native.Mathlib.Omega.{arith}
use borrow.Author.Tests.{eq-eqb, ne_eqb}
use lib.Dec.{eqb}
use Rattle.theory.specs.Lists.{In}
use Rattle.theory.specs.Degree.{valuation, nonzero, least_valuation, all_zero}
use Rattle.theory.proofs.Polynomials.Degree.{least-valuation-fold, least-valuation-lt}
use Rattle.solver.specs.inner.Table.{lower_of}

pub lower_zero : (p best x : ℕ) → x ≡ 0 → lower_of p best x ≡ best
unfolding lower_of
lower_zero p best x e = rw (eq-eqb x 0 e, lower_of)

pub lower_min : (p best x : ℕ) → (x ≡ 0 → ⊥) → lower_of p best x ≡ min (valuation p x) best
unfolding lower_of
lower_min p best x h = rw (ne_eqb x 0 h, lower_of)

-- the bound, lowered by every entry
abbrev pub lowest : ℕ → ℕ → List ℕ → ℕ
lowest p best f = foldr min best (map (valuation p) (nonzero f))

lowest-first : (p best x : ℕ) (f : List ℕ) → lowest p best (x ∷ f) ≡ lower_of p (lowest p best f) x
unfolding nonzero lower_of
lowest-first p best x f = go (eqb x 0)
  where
    go : (b : Bool) → foldr min best (map (valuation p) (elim b [ true ↦ nonzero f | false ↦ x ∷ nonzero f ]))
        ≡ elim b [ true ↦ lowest p best f | false ↦ min (valuation p x) (lowest p best f) ]
    go true = refl
    go false = refl

-- in any order
lower_swap : (p best x y : ℕ) → lower_of p (lower_of p best x) y ≡ lower_of p (lower_of p best y) x
unfolding lower_of
lower_swap p best x y = go (eqb x 0) (eqb y 0)
  where
    by : Bool → ℕ → ℕ → ℕ
    by b v z = elim b [ true ↦ v | false ↦ min (valuation p z) v ]

    go : (b c : Bool) → by c (by b best x) y ≡ by b (by c best y) x
    go true c = refl
    go false true = refl
    go false false = omega arith

pub lowest_next : (p best : ℕ) (f : List ℕ) (x : ℕ) → lowest p best (f ++ (x ∷ [])) ≡ lower_of p (lowest p best f) x
lowest_next p best [] x = lowest-first p best x []
lowest_next p best (y ∷ f) x =
    lowest-first p best y (f ++ (x ∷ []))
    ∙ ap (λ (v : ℕ). lower_of p v y) (lowest_next p best f x)
    ∙ lower_swap p (lowest p best f) x y
    ∙ ap (λ (v : ℕ). lower_of p v x) (sym (lowest-first p best y f))

pub lowest-least : (p : ℕ) (f : List ℕ) → 2 ≤ p → all_zero f ≡ false → ((a : ℕ) → In a f → a < 4294967296)
    → lowest p 64 f ≡ least_valuation p f
lowest-least p f two some small =
    least-valuation-fold p two f some 64 (omega (
      arith,
      least-valuation-lt p two f some 64 (λ a u. omega (arith, small a u, pow-le-pow_left two 64)),
    ))
