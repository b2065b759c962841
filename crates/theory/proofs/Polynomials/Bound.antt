-- The number of classes is at most the degree.
use mathlib.Core.Path.{◌≡◌, refl, sym, ap, ◌∙◌, subst₂}
use mathlib.Core.Logic.{◌⊎◌, inl, inr}
use mathlib.Core.Bool.{Bool, true, false}
use mathlib.Core.List.{List, [], ◌∷◌}
use Prim.Native.Nat.{ℕ, zero, suc, ◌+◌, ◌-◌, ◌*◌, ◌^◌, ◌≤◌, ◌<◌, ◌∣◌}
use native.Mathlib.Nat.{dvd-zero, dvd-mul_right, dvd-mul_right_of_dvd, dvd_trans, dvd_of_mul-dvd-mul_left, mul-dvd-mul_left, pow-suc}
use native.Mathlib.Nat.{pow-succ', zero-add, add-zero}
use native.Mathlib.Decide.{ℕ_discrete, dec_dvd, dec_le}
use native.Mathlib.Omega.{arith}
use borrow.Author.Tests.{eq-eqb, ne_eqb}
use lib.Dec.{eqb}
use lib.ListN.{length, length-append, length-map}
use Rattle.theory.specs.Range.{all_below}
use Rattle.theory.specs.Polynomial.{zeros, divided}
use Rattle.theory.specs.Class.{Class}
use Rattle.theory.specs.inner.Tree.{concat_below, branch, deeper, tree}
use Rattle.theory.proofs.Numbers.Power.{pow_pos, pow-one, pow_dvd}
use Rattle.theory.specs.Prime.{Prime}
use Rattle.theory.proofs.Numbers.Prime.{prime_pos}
use Rattle.theory.proofs.Range.{all_elim, all_intro}
use Rattle.theory.proofs.Classes.Tree.{below, tree_whole, tree_none, tree_split}
use Rattle.theory.specs.Taylor.{taylor, shifted}
use Rattle.theory.specs.inner.Polynomial.{coef, Degree}
use Rattle.theory.proofs.Polynomials.Arithmetic.{scale-divided, coef-scale, coef-stretch, value_zero}
use Rattle.theory.proofs.Polynomials.Zeros.{zero_dvd, zeros-branch, zeros-divided, zeros-everything}
use Rattle.theory.proofs.Sums.{sum_from, sum-append, sum_same}
use Rattle.theory.proofs.Polynomials.Orders.{AtMostOrder, orders-at-most-degree}

-- Lengths of the tree's list

length-everything : (S : ℕ → Bool) (p l : ℕ) → ((y : ℕ) → S y ≡ true) → length (tree S p l) ≡ 1
length-everything S p l h = ap length (tree_whole S p l (all_intro S (p ^ l) (λ y u. h y)))

-- the length is 1, where 0 is in S, or the number of the classes below
length_node : (S : ℕ → Bool) (p l d : ℕ) → 0 < p → (S 0 ≡ true → 1 ≤ d) → length (concat_below (below S p l) p) ≤ d
    → length (tree S p (suc l)) ≤ d
length_node S p l d hp h k = go (all_below S (p ^ suc l)) refl
  where
    go : (b : Bool) → all_below S (p ^ suc l) ≡ b → length (tree S p (suc l)) ≤ d
    go true e = rw (tree_whole S p (suc l) e) (h (all_elim S (p ^ suc l) 0 e (pow_pos p hp (suc l))))
    go false e = rw (tree_split S p l e) k

length_leaf : (S : ℕ → Bool) (p d : ℕ) → 0 < p → (S 0 ≡ true → 1 ≤ d) → length (tree S p 0) ≤ d
length_leaf S p d hp h = go (all_below S (p ^ 0)) refl
  where
    go : (b : Bool) → all_below S (p ^ 0) ≡ b → length (tree S p 0) ≤ d
    go true e = rw (tree_whole S p 0 e) (h (all_elim S (p ^ 0) 0 e (pow_pos p hp 0)))
    go false e = rw (tree_none S p e) (omega arith)

pub length-concat : (f : ℕ → List Class) (k c : ℕ)
    → length (concat_below f (c + k)) ≡ length (concat_below f c) + sum_from (λ x. length (f x)) c k
unfolding concat_below sum_from
length-concat f zero c = rw (add-zero c) (omega arith)
length-concat f (suc k) c =
    let e : c + suc k ≡ suc c + k = omega arith in
    ap (λ (x : ℕ). length (concat_below f x)) e ∙ length-concat f k (suc c) ∙ rw (length-append (concat_below f c) (f c)) (omega arith)

-- f with n at c
at : ℕ → ℕ → (ℕ → ℕ) → ℕ → ℕ
at c n f x = elim (eqb x c) [ true ↦ n | false ↦ f x ]

at_same : (c n : ℕ) (f : ℕ → ℕ) → at c n f c ≡ n
unfolding at
at_same c n f = rw (eq-eqb c c refl, at)

at_other : (c n : ℕ) (f : ℕ → ℕ) (x : ℕ) → (x ≡ c → ⊥) → at c n f x ≡ f x
unfolding at
at_other c n f x h = rw (ne_eqb x c h, at)

-- q divides all coefficients, or there is a last one that it does not divide
pub degree? : (q : ℕ) (f : List ℕ) → ((i : ℕ) → q ∣ coef f i) ⊎ ((d : ℕ) × Degree q f d)
degree? q [] = inl (λ i. dvd-zero q)
degree? q (a ∷ f) = go (degree? q f) (dec_dvd q a)
  where
    go : ((i : ℕ) → q ∣ coef f i) ⊎ ((d : ℕ) × Degree q f d) → Dec (q ∣ a)
        → ((i : ℕ) → q ∣ coef (a ∷ f) i) ⊎ ((d : ℕ) × Degree q (a ∷ f) d)
    go (inr w) u =
        inr (
          suc w.0,
          record {
            lead = w.1.lead;
            above = elim [ zero ↦ λ h. absurd (omega arith) | suc i ↦ λ h. w.1.above i (omega arith) ];
          },
        )
    go (inl w) (yes u) = inl (elim [ zero ↦ u | suc i ↦ w i ])
    go (inl w) (no u) = inr (0, record { lead = u; above = elim [ zero ↦ λ h. absurd (omega arith) | suc i ↦ λ h. w i ] })

module _ (p : ℕ) (P : Prime p) where
  hp : 0 < p
  hp = prime_pos P

  coef-divided : (f : List ℕ) → ((i : ℕ) → p ∣ coef f i) → (i : ℕ) → coef f i ≡ p * coef (divided p f) i
  coef-divided f h i = ap (λ (g : List ℕ). coef g i) (sym (scale-divided p f h)) ∙ coef-scale p (divided p f) i

  degree-divided : (f : List ℕ) (k d : ℕ) → ((i : ℕ) → p ∣ coef f i) → Degree (p ^ suc k) f d → Degree (p ^ k) (divided p f) d
  degree-divided f k d h D =
      record {
        lead = λ u. D.lead (rw (coef-divided f h d, pow-succ' p k) (mul-dvd-mul_left (p ^ k) p u));
        above = λ i l.
            dvd_of_mul-dvd-mul_left (p ^ k) hp (subst₂ (λ (a b : ℕ). a ∣ b) (pow-succ' p k) (coef-divided f h i) (D.above i l));
      }

  zeros-divided-once : (f : List ℕ) (e : ℕ) → ((i : ℕ) → p ∣ coef f i) → zeros f p (suc e) ≡ zeros (divided p f) p e
  zeros-divided-once f e h =
      let one : 1 + e ≡ suc e = omega arith in
      ap (zeros f p) (sym one)
      ∙ zeros-divided f p 1 e hp (λ i. rw (pow-one p) (h i))
      ∙ ap (λ (q : ℕ). zeros (divided q f) p e) (pow-one p)

  -- the degree below the digit c: each m with p not dividing the m-th Taylor coefficient
  pub degree-shifted : (f : List ℕ) (c m : ℕ) → ¬ (p ∣ coef (taylor c f) m) → Degree (p ^ suc m) (shifted c p f) m
  degree-shifted f c m w =
      record {
        lead = λ u.
            w (dvd_of_mul-dvd-mul_left p (pow_pos p hp m) (subst₂ (λ (a b : ℕ). a ∣ b) (pow-suc p m) (coef-stretch p (taylor c f) m) u));
        above = λ i l. rw (coef-stretch p (taylor c f) i) (dvd-mul_right_of_dvd (p ^ suc m) (pow_dvd p l) (coef (taylor c f) i));
      }

  -- with a zero at 0 the degree is not 0
  zero-degree : (f : List ℕ) (k e d : ℕ) → Degree (p ^ suc k) f d → (d ≡ 0 → k < e) → zeros f p e 0 ≡ true → 1 ≤ d
  zero-degree f k e zero D g h =
      absurd (D.lead (rw (← value_zero f) (dvd_trans (p ^ suc k) (pow_dvd p (g refl)) (zero_dvd f p e 0 h))))
  zero-degree f k e (suc d) D g h = omega arith

  abbrev Bound : ℕ → Type 0
  Bound l = (k e : ℕ) (f : List ℕ) (d : ℕ) → Degree (p ^ suc k) f d → (d ≡ 0 → k < e) → length (tree (zeros f p e) p l) ≤ d

  -- the classes below a digit are no more than the order there
  below-order : (l : ℕ) → Bound l → (e : ℕ) (f : List ℕ) (c : ℕ) → 0 < e → AtMostOrder p (length (below (zeros f p e) p l c)) (taylor c f)
  below-order l ih e f c h m w =
      rw (length-map (tree (branch (zeros f p e) p c) p l) (deeper p c), zeros-branch f p e c)
      (ih m e (shifted c p f) m (degree-shifted f c m w) (λ z. omega arith))

  all-below : (l : ℕ) → Bound l → (e : ℕ) (f : List ℕ) (d : ℕ) → 0 < e → Degree p f d → length (concat_below (below (zeros f p e) p l) p) ≤ d
  unfolding concat_below
  all-below l ih e f d h D =
      omega (
        arith,
        rw (zero-add p) at (length-concat (below (zeros f p e) p l) p 0),
        orders-at-most-degree p P (λ c. length (below (zeros f p e) p l c)) d f D (λ c u. below-order l ih e f c h),
      )

  degree-p-smaller : (f : List ℕ) (k d m : ℕ) → Degree (p ^ suc k) f d → Degree p f m → m ≤ d
  degree-p-smaller f k d m D M = go (dec_le m d)
    where
      go : Dec (m ≤ d) → m ≤ d
      go (yes u) = u
      go (no u) = absurd (M.lead (dvd_trans p (rw (pow-succ' p k) (dvd-mul_right p (p ^ k))) (D.above m (omega arith))))

  node : (l : ℕ) → Bound l → Bound (suc l)
  node l ih k zero f d D g =
      omega (arith, length-everything (zeros f p 0) p (suc l) (zeros-everything f p), zero-degree f k 0 d D g (zeros-everything f p 0))
  node l ih zero (suc e) f d D g =
      length_node (zeros f p (suc e)) p l d hp (zero-degree f 0 (suc e) d D g)
      (all-below l ih (suc e) f d (omega arith) (rw (pow-one p) at D))
  node l ih (suc k) (suc e) f d D g = go (node l ih k e (divided p f) d) (degree? p f)
    where
      go : (Degree (p ^ suc k) (divided p f) d → (d ≡ 0 → k < e) → length (tree (zeros (divided p f) p e) p (suc l)) ≤ d)
          → ((i : ℕ) → p ∣ coef f i) ⊎ ((m : ℕ) × Degree p f m) → length (tree (zeros f p (suc e)) p (suc l)) ≤ d
      go rec (inl h) = rw (zeros-divided-once f e h) (rec (degree-divided f (suc k) d h D) (λ z. omega (arith, g z)))
      go rec (inr (m, M)) =
          length_node (zeros f p (suc e)) p l d hp (zero-degree f (suc k) (suc e) d D g)
          (omega (arith, degree-p-smaller f (suc k) d m D M, all-below l ih (suc e) f m (omega arith) M))

  bound : (l : ℕ) → Bound l
  bound zero = λ k e f d D g. length_leaf (zeros f p e) p d hp (zero-degree f k e d D g)
  bound (suc l) = node l (bound l)

  -- for any s < e: where p^(s + 1) does not divide the coefficient of index d and divides all above it, there are at most d classes
  pub tree-at-most : (e l s d : ℕ) (f : List ℕ) → s < e → Degree (p ^ suc s) f d → length (tree (zeros f p e) p l) ≤ d
  tree-at-most e l s d f h D = bound l s e f d D (λ z. h)

  -- the classes below a digit are no more than the order there
  pub below-at-most-order : (e l : ℕ) (f : List ℕ) (c : ℕ) → 0 < e → AtMostOrder p (length (below (zeros f p e) p l c)) (taylor c f)
  below-at-most-order e l f c h = below-order l (bound l) e f c h

  -- the classes below the digits before c, with a number that is at most the order at c, are at most the degree
  pub before-digit : (e l d c n : ℕ) (f : List ℕ) → 0 < e → Degree p f d → c < p → AtMostOrder p n (taylor c f)
      → length (concat_below (below (zeros f p e) p l) c) + n ≤ d
  unfolding concat_below sum_from
  before-digit e l d c n f pos D h b =
      let size : ℕ → ℕ = λ x. length (below (zeros f p e) p l x) in
      let t = at c n size in
      let all : c + suc (p - suc c) ≡ p = omega arith in
      let front : sum_from t 0 c ≡ sum_from size 0 c = sum_same t size c 0 (λ x u v. at_other c n size x (λ e. omega arith)) in
      omega (
        arith,
        rw (all, zero-add c) at (sum-append t c (suc (p - suc c)) 0),
        front,
        at_same c n size,
        rw (zero-add c) at (length-concat (below (zeros f p e) p l) c 0),
        orders-at-most-degree p P t d f D (λ x u. order x (ℕ_discrete x c)),
      )
    where
      order : (x : ℕ) → Dec (x ≡ c) → AtMostOrder p (at c n (λ y. length (below (zeros f p e) p l y)) x) (taylor x f)
      order x (yes q) i w = rw (q, at_same c n) (b i (λ u. w (rw q u)))
      order x (no q) i w = rw (at_other c n (λ y. length (below (zeros f p e) p l y)) x q) (below-at-most-order e l f x pos i w)
