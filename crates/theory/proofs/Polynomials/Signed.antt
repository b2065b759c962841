-- Values over the integers: a divisor of pⁿ divides one exactly if it divides the value with reduced coefficients.
use mathlib.Core.Path.{◌≡◌, sym, ap, ◌∙◌}
use mathlib.Core.Logic.{◌↔◌}
use mathlib.Core.Bool.{true}
use mathlib.Core.List.{List, [], ◌∷◌, map}
use Prim.Native.Nat.{ℕ, zero, suc, ◌%◌, ◌^◌, ◌<◌, ◌∣◌}
use native.Mathlib.Nat.{mod-eq_of_lt, zero-mod}
use borrow.Author.Tests.{eqb-true, eq-eqb}
use lib.IntN.{ℤ, pos, ◌*ℤ◌}
use Rattle.theory.specs.Prime.{divides}
use Rattle.theory.specs.Polynomial.{reduce, reduced, value, weighted, derivative, zeros, roots}
use Rattle.theory.specs.Polynomial.{valueℤ, weightedℤ, derivativeℤ, Multiple}
use Rattle.theory.proofs.Numbers.Power.{pow_pos}
use Rattle.theory.proofs.Numbers.Congruence.{Congruent, cong_refl, cong_sym, cong_trans, cong_of_eq, cong_add, cong_mul}
use Rattle.theory.proofs.Numbers.Congruence.{cong_down, cong_dvd}
use Rattle.theory.proofs.Numbers.Reduction.{reduce-lt, reduce-sum, reduce-product, multiple_dvd, multiple-reduces, reduces-multiple}
use Rattle.theory.proofs.Polynomials.Congruence.{SameModulo, cong_coefficients}

module _ (m : ℕ) (hm : 0 < m) where
  -- the reduced value is the value of the reduced coefficients, modulo m
  pub reduce-value : (f : List ℤ) (x : ℕ) → Congruent m (reduce m (valueℤ f x)) (value (map (reduce m) f) x)
  unfolding valueℤ value reduce
  reduce-value [] x = cong_of_eq (zero-mod m)
  reduce-value (a ∷ f) x =
      cong_trans (reduce-sum m hm a (pos x *ℤ valueℤ f x))
      (cong_add cong_refl (cong_trans (reduce-product m hm x (valueℤ f x)) (cong_mul cong_refl (reduce-value f x))))

  -- and so is the derivative's
  weighted-same : (k : ℕ) (f : List ℤ) → SameModulo m (map (reduce m) (weightedℤ k f)) (weighted k (map (reduce m) f))
  unfolding weightedℤ weighted
  weighted-same k [] i = cong_refl
  weighted-same k (a ∷ f) zero = reduce-product m hm k a
  weighted-same k (a ∷ f) (suc i) = weighted-same (suc k) f i

  pub derivative-same : (f : List ℤ) → SameModulo m (map (reduce m) (derivativeℤ f)) (derivative (map (reduce m) f))
  unfolding derivativeℤ derivative
  derivative-same [] i = cong_refl
  derivative-same (a ∷ f) i = weighted-same 1 f i

  -- a divisor q of m divides the value exactly if it divides that of the reduced coefficients
  module _ (q : ℕ) (hq : 0 < q) (d : q ∣ m) where
    pub value-multiple : (f : List ℤ) (g : List ℕ) → SameModulo m (map (reduce m) f) g → (x : ℕ) → Multiple q (valueℤ f x) ↔ (q ∣ value g x)
    value-multiple f g same x =
        let to : Congruent q (reduce m (valueℤ f x)) (value g x) =
        cong_down d (cong_trans (reduce-value f x) (cong_coefficients (map (reduce m) f) g x same)) in (
          (λ k. cong_dvd to ((multiple_dvd q m hq hm d (valueℤ f x)).0 k)),
          (λ v. (multiple_dvd q m hq hm d (valueℤ f x)).1 (cong_dvd (cong_sym to) v)),
        )

-- "A root is a residue … at which the value of f is a multiple of pⁿ", with the coefficients as they were given
pub root_signed : (f : List ℤ) (p n r : ℕ) → 0 < p → (roots f p n r ≡ true) ↔ Multiple (p ^ n) (valueℤ f r)
unfolding roots zeros divides reduced
root_signed f p n r hp = (there-way, back)
  where
    m : ℕ
    m = p ^ n

    hm : 0 < p ^ n
    hm = pow_pos p hp n

    there-way : roots f p n r ≡ true → Multiple (p ^ n) (valueℤ f r)
    there-way e =
        reduces-multiple (p ^ n) hm (valueℤ f r)
        (sym (mod-eq_of_lt (reduce-lt (p ^ n) hm (valueℤ f r)))
        ∙ (reduce-value (p ^ n) hm f r).same
        ∙ eqb-true (value (map (reduce (p ^ n)) f) r % p ^ n) 0 e)

    back : Multiple (p ^ n) (valueℤ f r) → roots f p n r ≡ true
    back k =
        eq-eqb (value (map (reduce (p ^ n)) f) r % p ^ n) 0
        (sym (reduce-value (p ^ n) hm f r).same
        ∙ ap (λ (x : ℕ). x % p ^ n) (multiple-reduces (p ^ n) hm (valueℤ f r) k)
        ∙ zero-mod (p ^ n))
