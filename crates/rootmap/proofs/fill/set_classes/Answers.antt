-- `rootmap::fill::set_classes` meets its contract. The invariant: the bits of the members of the classes so far are added.
use mathlib.Core.Path.{refl, ◌∙◌}
use mathlib.Core.Bool.{◌&&◌}
use Prim.Native.Nat.{◌+◌}
use borrow.Author.Rules.{rules}
use native.Mathlib.Omega.{arith}
use lib.Dec.{ltb}
use lib.IntN.{pos}
use lib.ListN.{length}
use mir.Syntax.{w32}
use mir.ValLaws.{to_z-of_z}
use Rattle.std.proofs.lemmas.List.{length_push}
use Rattle.std.proofs.lemmas.Slice.Zip.{zip_turn, zip_end}
use Rattle.theory.specs.Class.{is_member}
use Rattle.theory.specs.ClassList.{slot, members}
use Rattle.theory.specs.SignedClass.{naturals}
use Rattle.theory.proofs.Numbers.Prime.{prime_pos}
use Rattle.numbers.proofs.Saturated.{level_power}
use Rattle.classes.specs.Rule7.{classes_of}
use Rattle.classes.proofs.Entries.{lent_length, lent-slot}
use Rattle.classes.proofs.Faults.{faultless_entry}
use Rattle.rootmap.proofs.Adding.{added_none, added_same, added_both}
use Rattle.rootmap.proofs.Listed.{listed_below, listed_none, listed_next, listed_all}
use Rattle.rootmap.proofs.fill.set_classes.Goals as goal

pub loop-a-init : goal.loop-a-init
loop-a-init c =
    let a = c.args in
    let L = naturals a.p (classes_of a.residues.now a.levels.now) in
    (refl, added_none (listed_below a.p L a.m 0) a.map.now (listed_none a.p L a.m))

pub set_class-requires : goal.set_class-requires
set_class-requires c =
    let a = c.args in
    let t =
    zip_turn a.residues.now a.levels.now c.loop-a.yielded _ c.loop-a.a-iterator c.next.new.self _ (cc) (cc)
    c.loop-a.yielded_by _ c.in-Some.is c.next.ensures.steps in
    let C = c.requires.0 in
    let k = faultless_entry a.p a.n a.residues.now a.levels.now C.same_length C.faultless (length c.loop-a.yielded) t.0 in
    let positive = prime_pos C.modulus.prime in
    let fits = level_power positive k.level_fits C.modulus.within in
    (positive, rw (t.3 0) fits, c.requires.1, omega (arith, c.loop-a.invariant.0, c.requires.2))

pub loop-a-preserved : goal.loop-a-preserved
loop-a-preserved c =
    let a = c.args in
    let t =
    zip_turn a.residues.now a.levels.now c.loop-a.yielded _ c.loop-a.a-iterator c.next.new.self _ (cc) (cc)
    c.loop-a.yielded_by _ c.in-Some.is c.next.ensures.steps in
    let i = length c.loop-a.yielded in
    let rs = a.residues.now in
    let ts = a.levels.now in
    let L = naturals a.p (classes_of rs ts) in
    let same = c.requires.0.same_length in
    let read = to_z-of_z w32 c.in-Some.field-0-0.now (search rules) in (
      c.set_class.auto.map ∙ c.loop-a.invariant.0,
      rw (length_push c.loop-a.yielded _)
          (added_both (listed_below a.p L a.m i) (λ r. ltb r a.m && is_member a.p (slot L i) r)
          (listed_below a.p L a.m (i + 1)) a.map.now c.loop-a.map c.set_class.new.map c.loop-a.invariant.1
          (rw (lent-slot a.p rs ts same i t.0, ← t.2 (pos 0), ← t.3 0) (rw read at c.set_class.ensures))
          (λ r. listed_next a.p L a.m i r (omega (arith, lent_length a.p rs ts same)))),
    )

pub returns : goal.returns
returns c =
    let a = c.args in
    let i = length c.loop-a.yielded in
    let L = naturals a.p (classes_of a.residues.now a.levels.now) in
    let same = c.requires.0.same_length in
    let e =
    zip_end a.residues.now a.levels.now c.loop-a.yielded _ c.loop-a.a-iterator c.next.new.self _ (cc) (cc)
    c.loop-a.yielded_by c.in-None.is c.next.ensures.steps in
    added_same (listed_below a.p L a.m i) (λ r. ltb r a.m && members a.p L r) a.map.now c.loop-a.map
    c.loop-a.invariant.1 (λ r. listed_all a.p L a.m i r (omega (arith, lent_length a.p a.residues.now a.levels.now same)))
