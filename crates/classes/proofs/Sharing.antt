-- Two classes share a member exactly if one is the class of its level around the other, or they are equal.
use mathlib.Core.Path.{◌≡◌, refl, sym, ap, ◌∙◌}
use mathlib.Core.Bool.{true}
use Prim.Native.Nat.{ℕ, ◌^◌, ◌≤◌, ◌<◌, min}
use native.Mathlib.Nat.{min-eq_left}
use native.Mathlib.Omega.{arith}
use borrow.Author.Tests.{eqb-true, eq-eqb}
use lib.Dec.{eqb}
use lib.IntN.{ℤ, pos, negsuc}
use Rattle.theory.specs.Polynomial.{reduce}
use Rattle.theory.specs.Class.{share}
use Rattle.theory.specs.Centered.{centered}
use Rattle.theory.specs.SignedClass.{SignedClass, IsSignedClass, natural}
use Rattle.theory.proofs.Tests.{and_left, and_right, and_intro}
use Rattle.theory.proofs.Numbers.Power.{pow_pos}
use Rattle.theory.proofs.Numbers.Reduction.{reduce-lt}
use Rattle.theory.proofs.Signed.Centered.{reduce-centered, centered-reduce, centered_unique}
use Rattle.theory.proofs.Signed.Classes.{signed_equal, share-natural}
use Rattle.classes.specs.inner.Search.{eq_z, same_class, around}

-- The test on classes

eq_z_true : (a b : ℤ) → eq_z a b ≡ true → a ≡ b
eq_z_true (pos a) (pos b) e = ap pos (eqb-true a b e)
eq_z_true (pos a) (negsuc b) e = let z : ◌≡◌ {A = ℕ} 0 1 = cc in absurd (omega arith)
eq_z_true (negsuc a) (pos b) e = let z : ◌≡◌ {A = ℕ} 0 1 = cc in absurd (omega arith)
eq_z_true (negsuc a) (negsuc b) e = ap negsuc (eqb-true a b e)

eq_z_refl : (a : ℤ) → eq_z a a ≡ true
eq_z_refl (pos a) = eq-eqb a a refl
eq_z_refl (negsuc a) = eq-eqb a a refl

pub same_equal : (c d : SignedClass) → same_class c d ≡ true → c ≡ d
unfolding same_class
same_equal c d e =
    let a = eq_z c.residue d.residue in
    let b = eqb c.level d.level in
    signed_equal (eq_z_true c.residue d.residue (and_left a b e)) (eqb-true c.level d.level (and_right a b e))

pub equal_same : (c d : SignedClass) → c ≡ d → same_class c d ≡ true
unfolding same_class
equal_same c d e =
    rw e
    (and_intro (eq_z d.residue d.residue) (eqb d.level d.level) (eq_z_refl d.residue) (eq-eqb d.level d.level refl))

-- Shared members

module _ (p n : ℕ) (hp : 0 < p) (c d : SignedClass) where
  abbrev low : ℕ
  low = min c.level d.level

  shared : share p (natural p c) (natural p d) ≡ true → reduce (p ^ low) c.residue ≡ reduce (p ^ low) d.residue
  shared e = eqb-true (reduce (p ^ low) c.residue) (reduce (p ^ low) d.residue) (sym (share-natural p hp c d) ∙ e)

  -- a class that shares a member with one of no lower level is the one around it
  pub shared-around : IsSignedClass p n c → c.level ≤ d.level → share p (natural p c) (natural p d) ≡ true → c ≡ around p d c.level
  unfolding around
  shared-around k l e =
      let q : min c.level d.level ≡ c.level = min-eq_left l in
      signed_equal
      (sym (centered-reduce (p ^ c.level) c.residue (pow_pos p hp c.level) k.residue_fits)
      ∙ ap (centered (p ^ c.level)) (rw q at (shared e))) refl

  -- classes of one level that share a member are equal
  pub shared-equal : IsSignedClass p n c → IsSignedClass p n d → c.level ≡ d.level → share p (natural p c) (natural p d) ≡ true
      → c.residue ≡ d.residue
  shared-equal kc kd l e =
      let q : min c.level d.level ≡ d.level = omega arith in
      centered_unique (p ^ d.level) c.residue d.residue (pow_pos p hp d.level) (rw l at kc.residue_fits) kd.residue_fits
      (rw q at (shared e))

  -- the class around another shares a member with it
  pub around-shares : c.level ≤ d.level → c ≡ around p d c.level → share p (natural p c) (natural p d) ≡ true
  unfolding around
  around-shares l e =
      let q : min c.level d.level ≡ c.level = min-eq_left l in
      let t = c.level in
      let r = reduce (p ^ t) d.residue in
      let a : c.residue ≡ centered (p ^ t) r = λ i. (e i).residue in
      share-natural p hp c d
      ∙ eq-eqb (reduce (p ^ low) c.residue) (reduce (p ^ low) d.residue)
      (rw q (ap (reduce (p ^ t)) a ∙ reduce-centered (p ^ t) r (reduce-lt (p ^ t) (pow_pos p hp t) d.residue)))
