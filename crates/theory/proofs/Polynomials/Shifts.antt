-- Shifts of sums, multiples and shifts, coefficient by coefficient.
use mathlib.Core.Path.{◌≡◌, refl, sym, ◌∙◌}
use mathlib.Core.List.{List, [], ◌∷◌}
use Prim.Native.Nat.{ℕ, zero, suc, ◌+◌, ◌*◌, ◌^◌}
use native.Mathlib.Omega.{arith}
use native.Mathlib.Nat.{pow-zero, pow-succ'}
use Rattle.theory.specs.Taylor.{plus, scale, stretch, taylor, shifted}
use Rattle.theory.specs.inner.Polynomial.{coef}
use Rattle.theory.proofs.Numbers.Power.{pow-mul, one-pow}
use Rattle.theory.proofs.Numbers.Congruence.{Congruent, cong_refl, cong_trans, cong_of_eq, cong_add, cong_mul}
use Rattle.theory.proofs.Polynomials.Arithmetic.{coef-stretch}
use Rattle.theory.proofs.Polynomials.Taylor.{coef-taylor}
use Rattle.theory.proofs.Polynomials.Congruence.{SameModulo}

-- Coefficients of a shift by c

pub taylor-plus : (c : ℕ) (f g : List ℕ) (i : ℕ) → coef (taylor c (plus f g)) i ≡ coef (taylor c f) i + coef (taylor c g) i
unfolding plus taylor
taylor-plus c [] g i = omega arith
taylor-plus c (a ∷ f) [] i = omega arith
taylor-plus c (a ∷ f) (b ∷ g) zero =
    coef-taylor c (a + b) (plus f g) 0 ∙ rw (taylor-plus c f g 0, coef-taylor c a f 0, coef-taylor c b g 0) (omega arith)
taylor-plus c (a ∷ f) (b ∷ g) (suc i) =
    coef-taylor c (a + b) (plus f g) (suc i)
    ∙ rw (taylor-plus c f g i, taylor-plus c f g (suc i), coef-taylor c a f (suc i), coef-taylor c b g (suc i)) (omega arith)

pub taylor-scale : (c q : ℕ) (f : List ℕ) (i : ℕ) → coef (taylor c (scale q f)) i ≡ q * coef (taylor c f) i
unfolding scale taylor
taylor-scale c q [] i = omega arith
taylor-scale c q (a ∷ f) zero = coef-taylor c (q * a) (scale q f) 0 ∙ rw (taylor-scale c q f 0, coef-taylor c a f 0) (omega arith)
taylor-scale c q (a ∷ f) (suc i) =
    coef-taylor c (q * a) (scale q f) (suc i)
    ∙ rw (taylor-scale c q f i, taylor-scale c q f (suc i), coef-taylor c a f (suc i)) (omega arith)

-- f(a + (b + y)) is f((a + b) + y)
pub taylor-taylor : (a b : ℕ) (f : List ℕ) (i : ℕ) → coef (taylor b (taylor a f)) i ≡ coef (taylor (a + b) f) i
unfolding taylor
taylor-taylor a b [] i = refl
taylor-taylor a b (x ∷ f) zero =
    taylor-plus b (x ∷ taylor a f) (scale a (taylor a f)) 0
    ∙ rw (coef-taylor b x (taylor a f) 0, taylor-scale b a (taylor a f) 0, taylor-taylor a b f 0, coef-taylor (a + b) x f 0) (omega arith)
taylor-taylor a b (x ∷ f) (suc i) =
    taylor-plus b (x ∷ taylor a f) (scale a (taylor a f)) (suc i)
    ∙ rw (
      coef-taylor b x (taylor a f) (suc i),
      taylor-scale b a (taylor a f) (suc i),
      taylor-taylor a b f i,
      taylor-taylor a b f (suc i),
      coef-taylor (a + b) x f (suc i),
    ) (omega arith)

-- f(q·(c + y)) is f(q·c + q·y)
pub taylor-stretch : (c q : ℕ) (f : List ℕ) (i : ℕ) → coef (taylor c (stretch q f)) i ≡ q ^ i * coef (taylor (q * c) f) i
unfolding stretch taylor
taylor-stretch c q [] i = omega arith
taylor-stretch c q (a ∷ f) zero =
    coef-taylor c a (scale q (stretch q f)) 0
    ∙ rw (taylor-scale c q (stretch q f) 0, taylor-stretch c q f 0, coef-taylor (q * c) a f 0, pow-zero q) (omega arith)
taylor-stretch c q (a ∷ f) (suc i) =
    coef-taylor c a (scale q (stretch q f)) (suc i)
    ∙ rw (
      taylor-scale c q (stretch q f) i,
      taylor-scale c q (stretch q f) (suc i),
      taylor-stretch c q f i,
      taylor-stretch c q f (suc i),
      coef-taylor (q * c) a f (suc i),
      pow-succ' q i,
    ) (omega arith)

-- f(a + q·(c + r·y)) is f((a + q·c) + (q·r)·y)
pub shifted-shifted : (a q c r : ℕ) (f : List ℕ) (i : ℕ) → coef (shifted c r (shifted a q f)) i ≡ coef (shifted (a + q * c) (q * r) f) i
shifted-shifted a q c r f i =
    coef-stretch r (taylor c (stretch q (taylor a f))) i
    ∙ rw (
      taylor-stretch c q (taylor a f) i,
      taylor-taylor a (q * c) f i,
      coef-stretch (q * r) (taylor (a + q * c) f) i,
      pow-mul q r i,
    ) (omega arith)

-- f(0 + 1·y) is f
taylor_none : (f : List ℕ) (i : ℕ) → coef (taylor 0 f) i ≡ coef f i
unfolding taylor
taylor_none [] i = refl
taylor_none (a ∷ f) zero = coef-taylor 0 a f 0 ∙ omega arith
taylor_none (a ∷ f) (suc i) = coef-taylor 0 a f (suc i) ∙ rw (taylor_none f i) (omega arith)

pub shifted_none : (f : List ℕ) (i : ℕ) → coef (shifted 0 1 f) i ≡ coef f i
shifted_none f i = coef-stretch 1 (taylor 0 f) i ∙ rw (taylor_none f i, one-pow i) (omega arith)

pub shifted-scale : (a q c : ℕ) (f : List ℕ) (i : ℕ) → coef (shifted a q (scale c f)) i ≡ c * coef (shifted a q f) i
shifted-scale a q c f i =
    coef-stretch q (taylor a (scale c f)) i
    ∙ rw (taylor-scale a c f i, coef-stretch q (taylor a f) i) (omega arith)

-- Congruent coefficients stay so

-- one step of Horner's rule
step_cong : {m : ℕ} (c a b : ℕ) (F G f g : List ℕ) → ((i : ℕ) → coef F i ≡ coef (a ∷ f) i + c * coef f i)
    → ((i : ℕ) → coef G i ≡ coef (b ∷ g) i + c * coef g i) → Congruent m a b → SameModulo m f g → SameModulo m F G
step_cong {m} c a b F G f g F-is G-is h same i =
    cong_trans (cong_of_eq (F-is i))
    (cong_trans (cong_add (heads i) (cong_mul (cong_refl {x = c}) (same i))) (cong_of_eq (sym (G-is i))))
  where
    heads : SameModulo m (a ∷ f) (b ∷ g)
    heads = elim [ zero ↦ h | suc i ↦ same i ]

-- the polynomial 0, as a constant
none_is : (c i : ℕ) → coef [] i ≡ coef (0 ∷ []) i + c * coef [] i
none_is c zero = omega arith
none_is c (suc i) = omega arith

taylor_cong : {m : ℕ} (c : ℕ) (f g : List ℕ) → SameModulo m f g → SameModulo m (taylor c f) (taylor c g)
unfolding taylor
taylor_cong c [] [] h = h
taylor_cong c [] (b ∷ g) h =
    step_cong c 0 b [] (taylor c (b ∷ g)) [] (taylor c g) (none_is c) (coef-taylor c b g) (h 0) (taylor_cong c [] g (λ i. h (suc i)))
taylor_cong c (a ∷ f) [] h =
    step_cong c a 0 (taylor c (a ∷ f)) [] (taylor c f) [] (coef-taylor c a f) (none_is c) (h 0) (taylor_cong c f [] (λ i. h (suc i)))
taylor_cong c (a ∷ f) (b ∷ g) h =
    step_cong c a b (taylor c (a ∷ f)) (taylor c (b ∷ g)) (taylor c f) (taylor c g) (coef-taylor c a f) (coef-taylor c b g) (h 0)
    (taylor_cong c f g (λ i. h (suc i)))

pub shifted_cong : {m : ℕ} (a q : ℕ) (f g : List ℕ) → SameModulo m f g → SameModulo m (shifted a q f) (shifted a q g)
shifted_cong a q f g h i =
    cong_trans (cong_of_eq (coef-stretch q (taylor a f) i))
    (cong_trans (cong_mul (cong_refl {x = q ^ i}) (taylor_cong a f g h i)) (cong_of_eq (sym (coef-stretch q (taylor a g) i))))
