-- `classes::fault::first_fault` meets its contract. The invariant: `first` is what the first i of the m entries show.
use mathlib.Core.Path.{◌≡◌, sym, ap, ap₂, ◌∙◌}
use mathlib.Core.List.{List}
use Prim.Native.Nat.{ℕ, ◌^◌, ◌≤◌, ◌<◌}
use native.Mathlib.Omega.{arith}
use lib.IntN.{ℤ}
use lib.ListN.{length, get_or, take}
use Rattle.std.proofs.lemmas.List.{length-take-le, get_or-take}
use Rattle.theory.specs.SignedClass.{SignedClass, signed_slot}
use Rattle.numbers.proofs.Saturated.{level_power}
use Rattle.classes.specs.Rule7.{classes_of, first_fault}
use Rattle.classes.specs.inner.Search.{RisingTo, usable_to, overlap, least_value, searched_to}
use Rattle.classes.proofs.Entries.{classes_slot, classes_same_length}
use Rattle.classes.proofs.Usables.{usable-class, usable-fits, usable-before, usable_rising, front_rising}
use Rattle.classes.proofs.Searching.{searched-is, searched-start, searched_none, searched_next, searched_front}
use Rattle.classes.proofs.fault.first_fault.Goals as goal

-- The first m entries, as a list of their own
module _ (p n : ℕ) (residues : List ℤ) (levels : List ℕ) (given : (2 ≤ p) × (p ^ n ≤ 4294967295) × (length residues ≡ length levels))
    (m : ℕ) (m-is : m ≡ usable_to p n (classes_of residues levels)) where
  abbrev L : List SignedClass
  L = classes_of residues levels

  short : m ≤ length residues
  short = omega (arith, m-is, usable-fits p n L, classes_same_length residues levels given.2)

  residues_long : length (take m residues) ≡ m
  residues_long = length-take-le m residues short

  levels_long : length (take m levels) ≡ m
  levels_long = length-take-le m levels (omega (arith, short, given.2))

  rising : RisingTo (take m residues) (length (take m residues))
  rising = front_rising residues m short (rw m-is (usable_rising p n residues levels given.2))

  level : (i : ℕ) → i < m → (signed_slot (classes_of (take m residues) (take m levels)) i).level ≡ get_or (take m levels) i 0
  level i h =
      ap (λ (e : SignedClass). e.level)
      (classes_slot (take m residues) (take m levels) i (omega (arith, residues_long)) (omega (arith, levels_long)))

  level_within : (i : ℕ) → i < m → p ^ get_or (take m levels) i 0 ≤ 4294967295
  level_within i h =
      let before = usable-before p n L i (omega (arith, m-is)) in
      let entry =
      ap (λ (e : SignedClass). e.level) (classes_slot residues levels i (omega (arith, short)) (omega (arith, short, given.2))) in
      rw (get_or-take m levels i 0 h) (level_power (omega (arith, given.0)) (rw entry at (usable-class p n L i before).level_fits) given.1)

  -- what they show is the first fault
  fault-is : searched_to p (classes_of (take m residues) (take m levels)) m m ≡ first_fault p n L
  fault-is =
      searched_front p residues levels m short given.2
      ∙ ap (λ (k : ℕ). searched_to p L k k) m-is ∙ searched-is p n L (omega (arith, given.0))

pub slice_bounds-residues-end : goal.slice_bounds-residues-end
slice_bounds-residues-end c = sym (residues_long _ _ _ _ c.requires _ c.first_unusable-m.ensures)

pub slice_bounds-levels-end : goal.slice_bounds-levels-end
slice_bounds-levels-end c = sym (levels_long _ _ _ _ c.requires _ c.first_unusable-m.ensures)

pub loop-i-init : goal.loop-i-init
loop-i-init c = searched_none _ _ _

pub least_overlap-first-requires : goal.least_overlap-first-requires
least_overlap-first-requires c =
    let a = c.args in
    let m = c.first_unusable-m.result in
    let l = c.loop-i in
    let m-is = c.first_unusable-m.ensures in
    let residues = residues_long a.p a.n a.residues.now a.levels.now c.requires m m-is in
    let levels = levels_long a.p a.n a.residues.now a.levels.now c.requires m m-is in
    let low = searched-start a.p (classes_of (take m a.residues.now) (take m a.levels.now)) m l.i in (
      residues ∙ sym levels,
      rising a.p a.n a.residues.now a.levels.now c.requires m m-is,
      rw residues c.loop-i-test.true,
      rw residues (rw (← l.invariant) at low),
      c.requires.0,
      level_within a.p a.n a.residues.now a.levels.now c.requires m m-is l.i c.loop-i-test.true,
      c.levels_present-present.ensures,
    )

pub loop-i-preserved : goal.loop-i-preserved
loop-i-preserved c =
    let a = c.args in
    let m = c.first_unusable-m.result in
    let i = c.loop-i.i in
    let m-is = c.first_unusable-m.ensures in
    let K = classes_of (take m a.residues.now) (take m a.levels.now) in
    c.least_overlap-first.ensures
    ∙ ap (λ (k : ℕ). least_value (overlap a.p K k i) (get_or (take m a.levels.now) i 0) c.loop-i.first)
    (residues_long a.p a.n a.residues.now a.levels.now c.requires m m-is)
    ∙ ap₂ (least_value (overlap a.p K m i))
    (sym (level a.p a.n a.residues.now a.levels.now c.requires m m-is i c.loop-i-test.true)) c.loop-i.invariant
    ∙ searched_next a.p K m i

pub returns : goal.returns
returns c =
    let a = c.args in
    let m = c.first_unusable-m.result in
    let end : c.loop-i.i ≡ m = omega arith in
    c.loop-i.invariant
    ∙ ap (searched_to a.p (classes_of (take m a.residues.now) (take m a.levels.now)) m) end
    ∙ fault-is a.p a.n a.residues.now a.levels.now c.requires m c.first_unusable-m.ensures
