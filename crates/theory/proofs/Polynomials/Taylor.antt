-- Taylor's expansion, as an exact equation of values.
use mathlib.Core.Path.{◌≡◌, refl, sym, ap, ◌∙◌}
use mathlib.Core.List.{List, [], ◌∷◌}
use Prim.Native.Nat.{ℕ, suc, ◌+◌, ◌*◌, ◌≤◌}
use native.Mathlib.Nat.{add-zero}
use native.Mathlib.Omega.{arith}
use lib.ListN.{length}
use Rattle.theory.specs.Polynomial.{value}
use Rattle.theory.specs.Taylor.{scale, taylor, shifted}
use Rattle.theory.specs.inner.Polynomial.{coef}
use Rattle.theory.proofs.Polynomials.Arithmetic.{value-plus, value-scale, value-stretch, value_zero, coef-plus, coef-scale}

pub value-taylor : (c : ℕ) (f : List ℕ) (y : ℕ) → value (taylor c f) y ≡ value f (c + y)
unfolding value taylor
value-taylor c [] y = refl
value-taylor c (a ∷ f) y =
    value-plus (a ∷ taylor c f) (scale c (taylor c f)) y ∙ rw (value-scale c (taylor c f) y, value-taylor c f y) (omega arith)

-- the constant coefficient is the value at c
pub taylor_constant : (c : ℕ) (f : List ℕ) → coef (taylor c f) 0 ≡ value f c
taylor_constant c f = sym (value_zero (taylor c f)) ∙ value-taylor c f 0 ∙ ap (value f) (add-zero c)

pub coef-taylor : (c a : ℕ) (f : List ℕ) (i : ℕ)
    → coef (taylor c (a ∷ f)) i ≡ coef (a ∷ taylor c f) i + c * coef (taylor c f) i
unfolding taylor
coef-taylor c a f i = coef-plus (a ∷ taylor c f) (scale c (taylor c f)) i ∙ rw (coef-scale c (taylor c f) i)

-- it is as long as f
pub taylor_beyond : (c : ℕ) (f : List ℕ) (i : ℕ) → length f ≤ i → coef (taylor c f) i ≡ 0
unfolding taylor
taylor_beyond c [] i h = refl
taylor_beyond c (a ∷ f) (suc i) h =
    coef-taylor c a f (suc i) ∙ rw (taylor_beyond c f i (omega arith), taylor_beyond c f (suc i) (omega arith)) (omega arith)
taylor_beyond c (a ∷ f) Prim.Native.Nat.zero h = elim h [ ]

pub value_shifted : (a q : ℕ) (f : List ℕ) (y : ℕ) → value (shifted a q f) y ≡ value f (a + q * y)
value_shifted a q f y = value-stretch q (taylor a f) y ∙ value-taylor a f (q * y)
