-- Marks from the derivative modulo p.
use mathlib.Core.Path.{◌≡◌, refl, sym, ap, ◌∙◌}
use mathlib.Core.Logic.{◌⊎◌, inl, inr}
use mathlib.Core.Bool.{Bool, true, false, not}
use mathlib.Core.List.{List}
use Prim.Native.Nat.{ℕ, suc, ◌-◌, ◌%◌, ◌^◌, ◌≤◌, ◌<◌, ◌∣◌}
use native.Mathlib.Nat.{dvd-zero, eq-zero-or-pos, mod-eq_of_lt}
use native.Mathlib.Omega.{arith}
use borrow.Author.Tests.{eq-eqb, ne_eqb}
use lib.Dec.{eqb}
use lib.IntN.{ℤ}
use lib.ListN.{length, get_or-eq_default}
use Rattle.theory.specs.Range.{all_below}
use Rattle.theory.specs.Polynomial.{reduce, value, vanishes, derivative}
use Rattle.theory.specs.Degree.{all_zero, primitive}
use Rattle.theory.specs.SignedClass.{SignedClass, natural}
use Rattle.theory.specs.Mark.{mark_by, mark_of}
use Rattle.theory.specs.inner.Polynomial.{coef}
use Rattle.theory.proofs.Numbers.Power.{pow_pos, base_dvd}
use Rattle.theory.proofs.Numbers.Congruence.{Congruent}
use Rattle.theory.proofs.Numbers.Reduction.{reduce-lt, reduce-down}
use Rattle.theory.proofs.Polynomials.Derivative.{coef-derivative}
use Rattle.theory.proofs.Polynomials.Congruence.{vanishes_same}
use Rattle.theory.proofs.Polynomials.Highest.{all_zero-coef}
use Rattle.theory.proofs.Classes.Periodic.{Periodic}
use Rattle.theory.proofs.Mark.{mark_by_told, mark-constant, mark-mixed, mark-deep, mark-top, vanishes_periodic}
use Rattle.theory.proofs.Mark.{zero_vanishes, mark-over}
use Rattle.solver.specs.inner.Table.{Residues}
use Rattle.solver.specs.inner.Marks.{mark_at, mark_of_digits, mark_from}
use Rattle.solver.proofs.Tables.{residues_same}
use Rattle.solver.proofs.Zeros.{vanishes_on, vanishes_off}

-- One value

pub mark_zero : (p a : ℕ) (f : List ℕ) → value f a % p ≡ 0 → 0 ≡ mark_at p f a
unfolding mark_by
mark_zero p a f e = rw (vanishes_on p f a e)

pub mark-one : (p a : ℕ) (f : List ℕ) → (value f a % p ≡ 0 → ⊥) → 1 ≡ mark_at p f a
unfolding mark_by
mark-one p a f ne = rw (vanishes_off p f a ne)

-- The p digits

module _ (p : ℕ) (d : List ℕ) (hp : 0 < p) where
  pub digits-zero : all_zero d ≡ true → 0 ≡ mark_of_digits p d
  unfolding mark_by
  digits-zero z = sym (mark-constant (vanishes p d) p true hp (λ c l. zero_vanishes p d (all_zero-coef d z) c))

  pub digits_same : ((c : ℕ) → c < p → mark_at p d c ≡ mark_at p d 0) → mark_at p d 0 ≡ mark_of_digits p d
  digits_same h =
      sym (mark-constant (vanishes p d) p (vanishes p d 0) hp (λ c l. mark_by_told (vanishes p d c) (vanishes p d 0) (h c l)))

  pub digits-differ : (c : ℕ) → c < p → (mark_at p d c ≡ mark_at p d 0 → ⊥) → 2 ≡ mark_of_digits p d
  digits-differ c l ne = go (vanishes p d c) (vanishes p d 0) refl refl
    where
      go : (a b : Bool) → vanishes p d c ≡ a → vanishes p d 0 ≡ b → 2 ≡ mark_of_digits p d
      go true true e f = absurd (ne (ap (λ (t : Bool). mark_by (not t) t) (e ∙ sym f)))
      go false false e f = absurd (ne (ap (λ (t : Bool). mark_by (not t) t) (e ∙ sym f)))
      go true false e f = sym (mark-mixed (vanishes p d) p c 0 l e hp f)
      go false true e f = sym (mark-mixed (vanishes p d) p 0 c hp f l e)

-- The mark of a class

pub mark_top_from : (p : ℕ) (d : List ℕ) (c : SignedClass) → c.level ≡ 0 → mark_of_digits p d ≡ mark_from p d c
unfolding mark_from
mark_top_from p d c e = rw (eq-eqb c.level 0 e, mark_from)

pub mark_deep_from : (p : ℕ) (d : List ℕ) (c : SignedClass) → (c.level ≡ 0 → ⊥) → mark_at p d (reduce p c.residue) ≡ mark_from p d c
unfolding mark_from
mark_deep_from p d c ne = rw (ne_eqb c.level 0 ne, mark_from)

-- the derivative has no coefficient past its length
derivative_beyond : (f : List ℕ) (i : ℕ) → length f - 1 ≤ i → coef (derivative f) i ≡ 0
derivative_beyond f i h = coef-derivative f i ∙ rw (get_or-eq_default f 0 {n = suc i} (omega arith)) (omega arith)

-- it may be taken modulo p
pub mark-residues : (p : ℕ) (g d : List ℕ) → length d ≡ length g - 1 → Residues p d (derivative g) → (c : SignedClass)
    → mark_from p d c ≡ mark_from p (derivative g) c
unfolding mark_from
mark-residues p g d n r c =
    let same = vanishes_same d (derivative g) (residues_same r (λ i h. rw (derivative_beyond g i (omega arith)) (dvd-zero p))) in
    ap (λ (S : ℕ → Bool). elim (eqb c.level 0) [
      | true ↦ mark_by (all_below (λ x. not (S x)) p) (all_below S p)
      | false ↦ mark_by (not (S (reduce p c.residue))) (S (reduce p c.residue))
    ]) same

-- a residue modulo p^t is the one modulo p, for t at least 1
residue_digit : (p t : ℕ) → 0 < p → 0 < t → (z : ℤ) → Congruent p (reduce (p ^ t) z) (reduce p z)
residue_digit p t hp ht z =
    let d : p ∣ p ^ t = base_dvd p ht in
    record { same = reduce-down p (p ^ t) hp (pow_pos p hp t) d z ∙ sym (mod-eq_of_lt (reduce-lt p hp z)) }

-- and of g = f / p^s it gives the mark over all members
pub mark_is : (w : List ℕ) (p n : ℕ) → 0 < p → 0 < n → (c : SignedClass)
    → mark_from p (derivative (primitive p w)) c ≡ mark_of w p n (natural p c)
unfolding natural
mark_is w p n hp hn c = go (eq-zero-or-pos c.level)
  where
    d : List ℕ
    d = derivative (primitive p w)

    periodic : Periodic (vanishes p d) p
    periodic = vanishes_periodic p d

    go : (c.level ≡ 0) ⊎ (0 < c.level) → mark_from p d c ≡ mark_of w p n (natural p c)
    go (inl z) =
        sym (mark_top_from p d c z) ∙ sym (mark-top (vanishes p d) p n hp periodic (natural p c) z hn)
        ∙ sym (mark-over w p n hp (natural p c))
    go (inr h) =
        sym (mark_deep_from p d c (λ z. omega arith))
        ∙ ap (λ (b : Bool). mark_by (not b) b) (sym (periodic _ _ (residue_digit p c.level hp h c.residue)))
        ∙ sym (mark-deep (vanishes p d) p n hp periodic (natural p c) h)
        ∙ sym (mark-over w p n hp (natural p c))
