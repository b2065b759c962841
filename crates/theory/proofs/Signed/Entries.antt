-- The list with residues of least size: its entries, their member numbers, and what determines it.
use mathlib.Core.Path.{◌≡◌, refl, sym, ap, ◌∙◌}
use mathlib.Core.Bool.{Bool}
use mathlib.Core.List.Permᴰ
use mathlib.Core.List.{List, [], ◌∷◌, map}
use Prim.Native.Nat.{ℕ, ◌^◌, ◌≤◌, ◌<◌}
use native.Mathlib.Omega.{arith}
use lib.IntN.{pos}
use lib.ListN.{length, length-map}
use Rattle.theory.specs.Lists.{In, Permutation}
use Rattle.theory.specs.Class.{Class, class}
use Rattle.theory.specs.ClassList.{member_total}
use Rattle.theory.specs.Shortest.{shortest, count, Maximal}
use Rattle.theory.specs.Centered.{centered}
use Rattle.theory.specs.SignedClass.{SignedClass, signed_class, IsSignedClass, signed, natural, naturals, levels_of}
use Rattle.theory.specs.SignedList.{signed_list}
use Rattle.theory.specs.inner.Tree.{tree}
use Rattle.theory.proofs.Lists.Names.{same-nil, same_head, swapped, in-cast, in-nil, perm-trans, perm-sym}
use Rattle.theory.proofs.Lists.Map.{in_map, map_in}
use Rattle.theory.proofs.Lists.Permutation.{perm_length}
use Rattle.theory.proofs.Lists.Rising.{rising-perm}
use Rattle.theory.proofs.Classes.Agree.{shortest-agree}
use Rattle.theory.proofs.Classes.Cover.{listed}
use Rattle.theory.proofs.Classes.Entries.{maximal-listed, listed-maximal}
use Rattle.theory.proofs.Classes.Sum.{shortest_total}
use Rattle.theory.proofs.Classes.Tree.{tree-perm}
use Rattle.theory.proofs.Signed.Centered.{centered_low}
use Rattle.theory.proofs.Signed.Classes.{natural-levels, signed-class, natural-signed, signed-natural}
use Rattle.theory.proofs.Signed.List.{SignedEarlier, signed_earlier_strict, signed-rising, list-shortest}
use Rattle.theory.proofs.Signed.List.{shortest-list, natural-shortest, signed-permutation}

module _ (S : ℕ → Bool) (p n : ℕ) (hp : 0 < p) where
  pub signed-length : length (signed_list S p n) ≡ length (shortest S p n)
  signed-length = perm_length (signed-permutation S p n hp) ∙ length-map (shortest S p n) (signed p)

  -- as 01's classes they are those of `shortest`
  pub natural-permutation : Permutation (naturals p (signed_list S p n)) (shortest S p n)
  natural-permutation = rw (natural-shortest S p n hp) at (Permᴰ.map (natural p) (signed-permutation S p n hp))

  module _ (c : SignedClass) (u : In c (signed_list S p n)) where
    source : (d : Class) × In d (shortest S p n) × (c ≡ signed p d)
    source = in_map (signed p) (shortest S p n) c (list-shortest S p n hp c u)

    -- each is a class of 02
    pub list-class : IsSignedClass p n c
    list-class = let (d, v, e) = source in rw e (signed-class p n hp d (listed S p n hp d v).is_class)

    -- whole, and in no larger whole class
    pub list-maximal : Maximal S p n (natural p c)
    list-maximal =
        let (d, v, e) = source in
        rw (e, natural-signed p n hp d (listed S p n hp d v).is_class) (listed-maximal S p n hp d v)

  -- and conversely: "The list holds the whole classes that lie in no larger whole class"
  pub maximal-list : (c : SignedClass) → IsSignedClass p n c → Maximal S p n (natural p c) → In c (signed_list S p n)
  maximal-list c k m =
      in-cast (sym (signed-natural p n hp c k))
      (shortest-list S p n hp (signed p (natural p c))
      (map_in (signed p) (shortest S p n) (natural p c) (maximal-listed S p n hp (natural p c) m)))

-- the tree's classes, with residues of least size, are the list's
pub tree-signed : (S : ℕ → Bool) (p n : ℕ) → 2 ≤ p → Permutation (map (signed p) (tree S p n)) (signed_list S p n)
tree-signed S p n two =
    perm-trans (Permᴰ.map (signed p) (tree-perm p (omega arith) two S n)) (perm-sym (signed-permutation S p n (omega arith)))

-- sets that agree below pⁿ have the same list
pub signed_agree : (S R : ℕ → Bool) (p n : ℕ) → 0 < p → ((r : ℕ) → r < p ^ n → S r ≡ R r) → signed_list S p n ≡ signed_list R p n
signed_agree S R p n hp agree =
    rising-perm SignedEarlier signed_earlier_strict (signed_list S p n) (signed_list R p n) (signed-rising S p n) (signed-rising R p n)
    (perm-trans (rw (shortest-agree S R p n hp agree) at (signed-permutation S p n hp)) (perm-sym (signed-permutation R p n hp)))

-- where `shortest` is the one class of everything, so is the list
pub signed-everything : (S : ℕ → Bool) (p n : ℕ) → 0 < p → shortest S p n ≡ class 0 0 ∷ [] → signed_list S p n ≡ signed_class (pos 0) 0 ∷ []
unfolding signed
signed-everything S p n hp e =
    let zero : centered (p ^ 0) 0 ≡ pos 0 = centered_low (p ^ 0) 0 (omega arith) in
    rising-perm SignedEarlier signed_earlier_strict (signed_list S p n) (signed_class (pos 0) 0 ∷ []) (signed-rising S p n)
    ((λ d u. absurd (in-nil u)), tt) (rw (e, zero) at (signed-permutation S p n hp))

-- "the root count is the sum of the member numbers"

perm_total : (p n : ℕ) {l m : List ℕ} → Permutation l m → member_total p n l ≡ member_total p n m
unfolding member_total
perm_total p n same-nil = refl
perm_total p n (same_head {l₁ = l} {l₂ = m} e d) = rw (e, perm_total p n d)
perm_total p n (swapped {l = l} e f) = rw (e, f) (omega arith)
perm_total p n (perm-trans d e) = perm_total p n d ∙ perm_total p n e

pub signed_total : (S : ℕ → Bool) (p n : ℕ) → 0 < p → member_total p n (levels_of (signed_list S p n)) ≡ count S p n
signed_total S p n hp =
    ap (member_total p n) (sym (natural-levels p (signed_list S p n)))
    ∙ perm_total p n (Permᴰ.map (λ (c : Class). c.level) (natural-permutation S p n hp))
    ∙ shortest_total S p n hp
