-- The zeros inside given classes: what the recursion started at each of them finds, joined, is their list.
use mathlib.Core.Path.{◌≡◌, sym, ap, ◌∙◌}
use mathlib.Core.Bool.{Bool}
use mathlib.Core.List.{List, map}
use Prim.Native.Nat.{ℕ, ◌≤◌, ◌<◌}
use native.Mathlib.Omega.{arith}
use lib.IntN.{ℤ}
use lib.ListN.{length, length-map}
use Rattle.theory.specs.Lists.{In, Permutation}
use Rattle.theory.specs.Polynomial.{zeros}
use Rattle.theory.specs.Class.{Class}
use Rattle.theory.specs.ClassList.{members}
use Rattle.theory.specs.SignedClass.{SignedClass, IsSignedClass, signed, naturals}
use Rattle.theory.specs.SignedList.{signed_list}
use Rattle.theory.specs.inner.Started.{started}
use Rattle.theory.specs.inner.Join.{joined, FewStay, AllFilledDown}
use Rattle.theory.proofs.Lists.Map.{in_map, map-map}
use Rattle.theory.proofs.Lists.Permutation.{perm_length}
use Rattle.theory.proofs.Classes.Apart.{Apart}
use Rattle.theory.proofs.Classes.Started.{started-apart, started-members, started-length}
use Rattle.theory.proofs.Signed.Classes.{signed-class, all-natural-signed}
use Rattle.theory.proofs.Signed.Entries.{signed_agree}
use Rattle.theory.proofs.Signed.AddsUp.{filled-down}
use Rattle.theory.proofs.Signed.Join.{joined-permutation, joined_length}
use Rattle.theory.proofs.Signed.Few.{few-stay}
use Rattle.numbers.specs.inner.Usable.{Usable}
use Rattle.classes.specs.Rule7.{classes_of}
use Rattle.classes.proofs.Entries.{lent_length}
use Rattle.classes.proofs.Faults.{faultless-apart}
use Rattle.solver.specs.inner.Table.{Below}
use Rattle.solver.specs.inner.Entry.{entry, class_of}
use Rattle.solver.specs.inner.Start.{entries_of}
use Rattle.solver.specs.inner.Raise.{GivenClasses, classes_among, zeros_among}
use Rattle.solver.proofs.Top.{zeros-few}
use Rattle.solver.proofs.Entries.{classes-back}

module _ {w : List ℕ} {p n m : ℕ} (U : Usable p n m) (short : length w ≤ 65) (b : Below m w) {residues : List ℤ} {levels : List ℕ}
    (given : GivenClasses p n residues levels) where
  two : 2 ≤ p
  two = U.prime.two

  hp : 0 < p
  hp = omega (arith, two)

  abbrev S : ℕ → Bool
  S = zeros w p n

  abbrev L : List SignedClass
  L = classes_of residues levels

  -- the classes found, and with their residues of least size
  abbrev pub found_classes : List Class
  found_classes = started S p n (naturals p L)

  abbrev pub signed_classes : List SignedClass
  signed_classes = map (signed p) found_classes

  apart : Apart p n (naturals p L)
  apart = faultless-apart p n L hp given.faultless

  found-apart : Apart p n found_classes
  found-apart = started-apart S p n two (naturals p L) apart

  -- at most 64 are of the zeros' own list, and at most 64 given
  pub found-few : length found_classes ≤ 128
  found-few =
      omega (
        arith,
        started-length S p n two (naturals p L) apart,
        zeros-few U short b,
        lent_length p residues levels given.same_length,
        given.few,
      )

  found-classes : (c : SignedClass) → In c signed_classes → IsSignedClass p n c
  found-classes c u =
      let (d, v, e) = in_map (signed p) found_classes c u in rw e (signed-class p n hp d (found-apart.classes d v))

  -- as entries
  found-codes : entries_of p found_classes ≡ map entry signed_classes
  found-codes = sym (map-map entry (signed p) found_classes)

  pub found_back : map class_of (entries_of p found_classes) ≡ signed_classes
  found_back = ap (map class_of) found-codes ∙ classes-back signed_classes

  back : naturals p signed_classes ≡ found_classes
  back = all-natural-signed p n hp found_classes found-apart.classes

  pub found-stay : FewStay p n signed_classes
  found-stay = record { stays = few-stay p n hp signed_classes (rw back found-apart) }

  pub found-filled : AllFilledDown p n signed_classes
  found-filled = record { filled = filled-down p n hp signed_classes (rw back found-apart) }

  -- joined, they are the list
  pub found-joined : Permutation (joined p n signed_classes) (classes_among w p n (classes_of residues levels))
  found-joined =
      let same : signed_list (members p (naturals p signed_classes)) p n ≡ classes_among w p n L =
      ap (λ (N : List Class). signed_list (members p N) p n) back
      ∙ signed_agree (members p found_classes) (zeros_among w p n L) p n hp (started-members S p n two (naturals p L) apart) in
      rw same at (joined-permutation p n hp signed_classes found-classes (rw back found-apart))

  -- which has at most as many
  pub among-few : length (classes_among w p n (classes_of residues levels)) ≤ 128
  among-few =
      omega (
        arith,
        perm_length found-joined,
        joined_length p n hp signed_classes found-classes (rw back found-apart),
        length-map found_classes (signed p),
        found-few,
      )
