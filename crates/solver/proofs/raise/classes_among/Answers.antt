-- `solver::raise::classes_among` meets its contract.
use mathlib.Core.Path.{◌≡◌, ap, ◌∙◌}
use mathlib.Core.List.{List, map}
use Prim.Native.Nat.{ℕ, ◌+◌, ◌≤◌}
use native.Mathlib.Omega.{arith}
use lib.IntN.{ℤ}
use lib.ListN.{length, length-map, take}
use lib.Seq.{length-take-le}
use Rattle.theory.specs.Class.{Class}
use Rattle.theory.specs.SignedClass.{SignedClass, signed}
use Rattle.theory.specs.inner.Join.{joined}
use Rattle.theory.proofs.Signed.List.{signed-rising}
use Rattle.numbers.specs.inner.Usable.{Usable}
use Rattle.solver.specs.declared.entry.Entry.{Entry}
use Rattle.solver.specs.inner.Table.{Below}
use Rattle.solver.specs.inner.Entry.{entry, class_of}
use Rattle.solver.specs.inner.Raise.{GivenClasses}
use Rattle.solver.specs.inner.Start.{entries_of}
use Rattle.solver.proofs.Entries.{put_in_order}
use Rattle.solver.proofs.Top.{top-at}
use Rattle.solver.proofs.Among.{found_classes, signed_classes, found-few, found_back, found-joined}
use Rattle.solver.proofs.Among.{found-stay, found-filled}
use Rattle.solver.proofs.raise.classes_among.Goals as goal

-- The coefficients w and the classes found for them
module _ {w : List ℕ} {p n m : ℕ} (U : Usable p n m) (short : length w ≤ 65) (b : Below m w) {residues : List ℤ} {levels : List ℕ}
    (given : GivenClasses p n residues levels) where
  abbrev found : List Class
  found = found_classes U short b given

  abbrev classes : List SignedClass
  classes = signed_classes U short b given

  few : {k : ℕ} → k ≡ 0 + length (entries_of p found) → k ≤ 128
  few number = omega (arith, number, length-map found (λ (c : Class). entry (signed p c)), found-few U short b given)

  back : {l : List Entry} → l ≡ entries_of p found → map class_of l ≡ classes
  back entries = ap (map class_of) entries ∙ found_back U short b given

pub start_all-started-requires : goal.start_all-started-requires
start_all-started-requires c =
    let short = c.requires.2 in
    let given = c.requires.4 in
    rw c.new-over.ensures (
      (top-at c.requires.0 short c.requires.3).modulus,
      c.requires.1,
      short,
      given.same_length,
      given.faultless,
      omega (arith, found-few c.requires.0 short c.requires.3 given),
    )

pub join-k-requires : goal.join-k-requires
join-k-requires c =
    let short = c.requires.2 in
    let U = c.requires.0 in
    let most = few U short c.requires.3 c.requires.4 (rw c.new-over.ensures at c.start_all-started.ensures.number) in
    let there : c.start_all-started.result ≤ length c.start_all-started.new.out = omega arith in
    let long = length-take-le c.start_all-started.result c.start_all-started.new.out there in
    let entries = rw c.new-over.ensures at c.start_all-started.ensures.entries in
    let b = back U short c.requires.3 c.requires.4 entries in (
      U.prime.two,
      U.within,
      omega arith,
      omega arith,
      rw b (found-stay U short c.requires.3 c.requires.4),
      rw b (found-filled U short c.requires.3 c.requires.4),
    )

pub sort-requires : goal.sort-requires
sort-requires c =
    let short = c.requires.2 in
    let most = few c.requires.0 short c.requires.3 c.requires.4 (rw c.new-over.ensures at c.start_all-started.ensures.number) in
    let there : c.start_all-started.result ≤ length c.start_all-started.new.out = omega arith in
    let long = length-take-le c.start_all-started.result c.start_all-started.new.out there in
    omega (arith, c.join-k.ensures.0)

pub returns : goal.returns
returns c =
    let a = c.args in
    let short = c.requires.2 in
    let U = c.requires.0 in
    let below = c.requires.3 in
    let given = c.requires.4 in
    let most = few U short below given (rw c.new-over.ensures at c.start_all-started.ensures.number) in
    let there : c.start_all-started.result ≤ length c.start_all-started.new.out = omega arith in
    let long = length-take-le c.start_all-started.result c.start_all-started.new.out there in
    let k = c.join-k.result in
    let out = c.join-k.new.out in
    let J = joined a.p a.n (classes U short below given) in
    let joined-are : take k out ≡ map entry J =
    c.join-k.ensures.1
    ∙ ap (λ (l : List SignedClass). map entry (joined a.p a.n l))
    (back U short below given (rw c.new-over.ensures at c.start_all-started.ensures.entries)) in (
      omega (arith, c.join-k.ensures.0),
      put_in_order _ J (signed-rising _ a.p a.n) (found-joined U short below given) _ _ joined-are c.sort.ensures.permutation c.sort.ensures.sorted,
    )
