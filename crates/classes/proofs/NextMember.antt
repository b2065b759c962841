-- The least member of a class, and of a list of classes, at or after a point.
use mathlib.Core.Path.{◌≡◌, refl, sym, ap, ◌∙◌}
use mathlib.Core.Bool.{◌||◌}
use mathlib.Core.List.{List, [], ◌∷◌, ◌++◌}
use Prim.Native.Nat.{ℕ, ◌+◌, ◌-◌, ◌*◌, ◌/◌, ◌%◌, ◌^◌, ◌≤◌, ◌<◌, min}
use native.Mathlib.Nat.{mod-lt, mod-eq_of_lt, add-mul-mod_self_right, div-add-mod', mul-le-mul_right}
use native.Mathlib.Decide.{dec_le, dec_lt}
use native.Mathlib.Omega.{arith}
use borrow.Author.Tests.{le-leb, lt-leb, eq-eqb, ne_eqb}
use lib.IntN.{ℤ, pos}
use lib.ListN.{length, get_or, take}
use Rattle.theory.specs.Range.{least}
use Rattle.theory.specs.Class.{Class, class, is_member}
use Rattle.theory.specs.ClassList.{members}
use Rattle.theory.specs.Polynomial.{reduce}
use Rattle.theory.specs.SignedClass.{signed_class, natural, naturals}
use Rattle.theory.proofs.Lists.Fill.{take_next}
use Rattle.theory.proofs.Range.{least_agree, least_range}
use Rattle.theory.proofs.Numbers.Power.{pow_pos}
use Rattle.theory.proofs.Numbers.Reduction.{reduce-lt}
use Rattle.classes.specs.Rule7.{classes_of}
use Rattle.classes.specs.inner.Search.{member_from}
use Rattle.classes.proofs.Entries.{lent_length, lent-slot}
use Rattle.theory.proofs.Least.{least_is, least_or}
use Rattle.theory.proofs.Classes.Members.{members_snoc}

-- One class: the numbers congruent to a modulo q

module _ (a q point : ℕ) (h : a < q) where
  at_once : point ≤ a → member_from a q point ≡ a
  unfolding member_from
  at_once l = rw (le-leb point a l, member_from)

  steps : ℕ
  steps = (point - a + (q - 1)) / q

  later : a < point → member_from a q point ≡ a + steps * q
  unfolding member_from steps
  later l = rw (lt-leb point a l, member_from)

  -- the number of steps is enough and no more
  steps-range : a < point → (point ≤ a + steps * q) × (a + steps * q < point + q)
  unfolding steps
  steps-range l =
      let d = point - a + (q - 1) in
      let e = div-add-mod' d q in
      let r : d % q < q = mod-lt d (omega arith) in
      (omega arith, omega arith)

  -- it is not before the point
  pub from-point : point ≤ member_from a q point
  from-point = go (dec_le point a)
    where
      go : Dec (point ≤ a) → point ≤ member_from a q point
      go (yes l) = rw (at_once l) l
      go (no l) = let s : a < point = omega arith in rw (later s) (steps-range s).0

  -- it is a member
  pub from-congruent : member_from a q point % q ≡ a
  from-congruent = go (dec_le point a)
    where
      go : Dec (point ≤ a) → member_from a q point % q ≡ a
      go (yes l) = rw (at_once l) (mod-eq_of_lt h)
      go (no l) = let s : a < point = omega arith in rw (later s) (add-mul-mod_self_right a steps q ∙ mod-eq_of_lt h)

  -- a smaller number that is congruent to a is smaller by q at least
  gap : (x k : ℕ) → x < a + k * q → x % q ≡ a → x + q ≤ a + k * q
  gap x k l e = go (dec_lt (x / q) k)
    where
      whole : x / q * q + a ≡ x
      whole = ap (λ (y : ℕ). x / q * q + y) (sym e) ∙ div-add-mod' x q

      go : Dec (x / q < k) → x + q ≤ a + k * q
      go (yes u) = omega (arith, whole, mul-le-mul_right q u)
      go (no u) = let v : k ≤ x / q = omega arith in absurd (omega (arith, whole, mul-le-mul_right q v))

  -- and no member from the point on is smaller
  pub from-least : (x : ℕ) → point ≤ x → x < member_from a q point → (x % q ≡ a → ⊥)
  from-least x low l e = go (dec_le point a)
    where
      go : Dec (point ≤ a) → ⊥
      go (yes s) =
          let u : x < a = rw (at_once s) at l in
          let v : x % q ≡ x = mod-eq_of_lt (omega arith) in
          omega arith
      go (no s) =
          let s' : a < point = omega arith in
          let u : x < a + steps * q = rw (later s') at l in
          omega (arith, gap x steps u e, (steps-range s').1)

-- so it is the least member of the class, where it is below m
pub member_least : (p : ℕ) (c : Class) (point m : ℕ) → c.residue < p ^ c.level → point ≤ m
    → least (is_member p c) (m - point) point ≡ min (member_from c.residue (p ^ c.level) point) m
unfolding is_member
member_least p c point m fits h =
    least_is (is_member p c) (m - point) point (min v m) (omega (arith, from-point a q point fits)) (omega arith)
    (λ x low l. ne_eqb (x % q) a (from-least a q point fits x low (omega arith)))
    (λ l. let e : min v m ≡ v = omega arith in rw e (eq-eqb (v % q) a (from-congruent a q point fits)))
  where
    a : ℕ
    a = c.residue

    q : ℕ
    q = p ^ c.level

    v : ℕ
    v = member_from a q point

-- A list of classes

-- no class
pub least_of_none : (p point m : ℕ) → point ≤ m → least (members p []) (m - point) point ≡ m
unfolding members
least_of_none p point m h = least_is (members p []) (m - point) point m h (omega arith) (λ x low l. refl) (λ l. absurd (omega arith))

-- one class more
pub least_of_snoc : (p : ℕ) (l : List Class) (c : Class) (point m : ℕ) → c.residue < p ^ c.level → point ≤ m
    → least (members p (l ++ (c ∷ []))) (m - point) point
    ≡ min (least (members p l) (m - point) point) (member_from c.residue (p ^ c.level) point)
least_of_snoc p l c point m fits h =
    let k = m - point in
    let best = least (members p l) k point in
    let v = member_from c.residue (p ^ c.level) point in
    let top : best ≤ m = omega (arith, (least_range (members p l) k point).1) in
    let e : min best (min v m) ≡ min best v = omega arith in
    least_agree (members p (l ++ (c ∷ []))) (λ x. members p l x || is_member p c x) k point (λ x low b. members_snoc p l c x)
    ∙ least_or (members p l) (is_member p c) k point
    ∙ ap (λ (x : ℕ). min best x) (member_least p c point m fits h)
    ∙ e

-- entry i of a lent list is taken in
pub least_of_next : (p : ℕ) → 0 < p → (residues : List ℤ) (levels : List ℕ) → length residues ≡ length levels
    → (i point m : ℕ) → i < length residues → point ≤ m
    → least (members p (take (i + 1) (naturals p (classes_of residues levels)))) (m - point) point
    ≡ min (least (members p (take i (naturals p (classes_of residues levels)))) (m - point) point)
    (member_from (reduce (p ^ get_or levels i 0) (get_or residues i (pos 0))) (p ^ get_or levels i 0) point)
unfolding natural
least_of_next p hp residues levels same i point m h l =
    let N = naturals p (classes_of residues levels) in
    let c = natural p (signed_class (get_or residues i (pos 0)) (get_or levels i 0)) in
    let w : take (i + 1) N ≡ take i N ++ (c ∷ []) =
    take_next N i (class 0 0) (omega (arith, lent_length p residues levels same))
    ∙ ap (λ (d : Class). take i N ++ (d ∷ [])) (lent-slot p residues levels same i h) in
    ap (λ (k : List Class). least (members p k) (m - point) point) w
    ∙ least_of_snoc p (take i N) c point m
    (reduce-lt (p ^ get_or levels i 0) (pow_pos p hp (get_or levels i 0)) (get_or residues i (pos 0))) l
