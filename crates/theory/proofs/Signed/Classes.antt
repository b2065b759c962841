-- Classes with residues of least size and 01's classes are the same classes: `signed` and `natural` undo each other.
use mathlib.Core.Path.{◌≡◌, refl, ap₂, ◌∙◌}
use mathlib.Core.Logic.{◌↔◌}
use mathlib.Core.Bool.{true}
use mathlib.Core.List.{List, map}
use Prim.Native.Nat.{ℕ, ◌%◌, ◌^◌, ◌≤◌, ◌<◌, min}
use native.Mathlib.Nat.{min-le_left, min-le_right, pow-le-pow_right}
use lib.Dec.{eqb}
use lib.IntN.{ℤ, pos, ◌-ℤ◌}
use Rattle.theory.specs.Lists.{In}
use Rattle.theory.specs.Polynomial.{reduce, Multiple}
use Rattle.theory.specs.Class.{Class, IsClass, Member, share}
use Rattle.theory.specs.Centered.{is_centered}
use Rattle.theory.specs.SignedClass.{SignedClass, signed_class, IsSignedClass, signed, natural, naturals, levels_of}
use Rattle.theory.proofs.Lists.Map.{map-map, map_kept}
use Rattle.theory.proofs.Numbers.Power.{pow_pos}
use Rattle.theory.proofs.Numbers.Reduction.{reduce-lt, reduce_lower, congruent-multiple, multiple-congruent}
use Rattle.theory.proofs.Classes.Equal.{class_equal}
use Rattle.theory.proofs.Classes.Sum.{levels}
use Rattle.theory.proofs.Signed.Centered.{range_wider, reduce-centered, centered-range, centered-reduce}

pub signed_equal : {a b : ℤ} {t u : ℕ} → a ≡ b → t ≡ u → signed_class a t ≡ signed_class b u
signed_equal e f = λ i. signed_class (e i) (f i)

-- a class's level is the same in both ways of writing it
pub natural-levels : (p : ℕ) (L : List SignedClass) → levels (naturals p L) ≡ levels_of L
unfolding natural
natural-levels p L = map-map (λ (c : Class). c.level) (natural p) L

module _ (p n : ℕ) (hp : 0 < p) where
  hq : (t : ℕ) → 0 < p ^ t
  hq t = pow_pos p hp t

  pub natural-class : (c : SignedClass) → c.level ≤ n → IsClass p n (natural p c)
  unfolding natural
  natural-class c h = record { level_fits = h; residue_fits = reduce-lt (p ^ c.level) (hq c.level) c.residue }

  pub signed-class : (c : Class) → IsClass p n c → IsSignedClass p n (signed p c)
  unfolding signed
  signed-class c k = record { level_fits = k.level_fits; residue_fits = centered-range (p ^ c.level) c.residue k.residue_fits }

  -- the residue of a class is in the range of pⁿ too
  pub class-wide : (c : SignedClass) → IsSignedClass p n c → is_centered (p ^ n) c.residue ≡ true
  class-wide c k =
      range_wider (p ^ c.level) (p ^ n) (pow-le-pow_right hp k.level_fits) c.residue k.residue_fits

  pub signed-natural : (c : SignedClass) → IsSignedClass p n c → signed p (natural p c) ≡ c
  unfolding signed natural
  signed-natural c k = signed_equal (centered-reduce (p ^ c.level) c.residue (hq c.level) k.residue_fits) refl

  pub natural-signed : (c : Class) → IsClass p n c → natural p (signed p c) ≡ c
  unfolding signed natural
  natural-signed c k = class_equal (reduce-centered (p ^ c.level) c.residue k.residue_fits) refl

  -- "Its members are the residues r below pⁿ with r ≡ a mod p^t", for the signed a
  pub signed-member : (c : SignedClass) (r : ℕ)
      → Member p n (natural p c) r ↔ ((r < p ^ n) × Multiple (p ^ c.level) (pos r -ℤ c.residue))
  unfolding natural
  signed-member c r =
      let q = p ^ c.level in (
        (λ k. (k.below, congruent-multiple q (hq c.level) r c.residue k.congruent)),
        (λ k. record { below = k.0; congruent = multiple-congruent q (hq c.level) r c.residue k.1 }),
      )

  -- the maps for lists
  pub all-signed-natural : (R : List SignedClass) → ((c : SignedClass) → In c R → IsSignedClass p n c) → map (signed p) (naturals p R) ≡ R
  all-signed-natural R ok =
      map-map (signed p) (natural p) R ∙ map_kept (λ c. signed p (natural p c)) R (λ c u. signed-natural c (ok c u))

  pub all-natural-signed : (R : List Class) → ((c : Class) → In c R → IsClass p n c) → naturals p (map (signed p) R) ≡ R
  all-natural-signed R ok =
      map-map (natural p) (signed p) R ∙ map_kept (λ c. natural p (signed p c)) R (λ c u. natural-signed c (ok c u))

-- two classes share a member exactly if their residues are congruent at the lower of their levels
pub share-natural : (p : ℕ) → 0 < p → (c d : SignedClass)
    → share p (natural p c) (natural p d)
    ≡ eqb (reduce (p ^ min c.level d.level) c.residue) (reduce (p ^ min c.level d.level) d.residue)
unfolding share natural
share-natural p hp c d =
    let m = min c.level d.level in
    let at : (e : SignedClass) → m ≤ e.level → reduce (p ^ e.level) e.residue % p ^ m ≡ reduce (p ^ m) e.residue =
    λ e l. reduce_lower p hp m e.level l e.residue in
    ap₂ eqb (at c (min-le_left c.level d.level)) (at d (min-le_right c.level d.level))
