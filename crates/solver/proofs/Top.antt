-- The class of everything, at which the recursion starts, and what is there when it ends.
use Rattle.std.specs.Prelude.{IsPermutation, IsSortedByKey}
use Rattle.std.specs.Ordering.{int_cmp}
use mathlib.Core.Path.{◌≡◌, sym, ap, ◌∙◌}
use mathlib.Core.List.{List, map}
use Prim.Native.Nat.{ℕ, ◌≤◌}
use native.Mathlib.Nat.{pow-zero, zero-add}
use native.Mathlib.Omega.{arith}
use lib.ListN.{length, length-map, take}
use Rattle.theory.specs.Polynomial.{zeros}
use Rattle.theory.specs.Class.{Class}
use Rattle.theory.specs.Shortest.{shortest}
use Rattle.theory.specs.SignedClass.{signed}
use Rattle.theory.specs.inner.Tree.{tree}
use Rattle.theory.proofs.Lists.Map.{map-map, map_same}
use Rattle.theory.proofs.Lists.Permutation.{perm_length}
use Rattle.theory.proofs.Numbers.Prime.{prime_pos}
use Rattle.theory.proofs.Classes.Equal.{class_equal}
use Rattle.theory.proofs.Classes.Tree.{tree-perm}
use Rattle.theory.proofs.Signed.List.{signed-rising}
use Rattle.theory.proofs.Signed.Entries.{tree-signed}
use Rattle.numbers.specs.inner.Usable.{Usable}
use Rattle.solver.specs.declared.entry.Entry.{Entry}
use Rattle.solver.specs.declared.tree.Settled.{Settled}
use Rattle.solver.specs.inner.Table.{Below}
use Rattle.solver.specs.inner.Entry.{entry}
use Rattle.solver.specs.inner.Recursion.{over, everything, AtNode, Done, most_classes, within, entries_within}
use Rattle.solver.specs.inner.Reduced.{zero_classes}
use Rattle.solver.proofs.Entries.{residue, put_in_order}
use Rattle.solver.proofs.Most.{most-length, tree-most}

-- it holds each class as it is
codes_top : (p n : ℕ) (L : List Class) → entries_within p (everything n) L ≡ map entry (map (signed p) L)
unfolding within
codes_top p n L =
    map_same (λ (c : Class). entry (signed p (within (everything n) c))) (λ (c : Class). entry (signed p c)) L
    (λ c u. ap (λ (d : Class). entry (signed p d)) (class_equal (omega arith) (omega arith)))
    ∙ sym (map-map entry (signed p) L)

module _ {w : List ℕ} {p n m : ℕ} (U : Usable p n m) (short : length w ≤ 65) (b : Below m w) where
  pub top-at : AtNode w (over p n m) (everything n)
  top-at =
      record {
        modulus = record { prime = U.prime; small = U.small; power_is = U.power; fits = omega (arith, U.power, U.within) };
        node = record { base = U.prime.two; power_is = sym (pow-zero p); residue_fits = omega arith; fits = rw (zero-add n) U.within };
        short = short;
        below = b;
      }

  pub top-most : most_classes p w ≤ 64
  top-most = most-length p U.prime w 64 (omega arith) short

  -- so the zeros' list has at most 64 classes
  pub zeros-few : length (shortest (zeros w p n) p n) ≤ 64
  zeros-few =
      omega (
        arith,
        perm_length (tree-perm p (prime_pos U.prime) U.prime.two (zeros w p n) n),
        tree-most p U.prime w n n (rw (← U.power) b),
        top-most,
      )

  module _ {r : Settled} {out out' : List Entry} (d : Done (zeros w p n) p (everything n) 0 r out out') where
    codes : take r.k out' ≡ map entry (map (signed p) (tree (zeros w p n) p n))
    codes = d.added.entries ∙ codes_top p n (tree (zeros w p n) p n)

    number : r.k ≡ length (map entry (map (signed p) (tree (zeros w p n) p n)))
    number = d.added.number ∙ zero-add _ ∙ ap length (codes_top p n (tree (zeros w p n) p n))

    pub top-few : r.k ≤ 64
    top-few =
        omega (
          arith,
          number,
          length-map (map (signed p) (tree (zeros w p n) p n)) entry,
          length-map (tree (zeros w p n) p n) (signed p),
          tree-most p U.prime w n n (rw (← U.power) b),
          top-most,
        )

    -- after the sort
    pub top-sorted : (out'' : List Entry) → IsPermutation (take r.k out') (take r.k out'') → IsSortedByKey residue int_cmp (take r.k out'')
        → take r.k out'' ≡ map entry (zero_classes w p n)
    top-sorted out'' moved up =
        let S = zeros w p n in
        put_in_order (zero_classes w p n) (map (signed p) (tree S p n)) (signed-rising S p n) (tree-signed S p n U.prime.two) _ _ codes moved up
