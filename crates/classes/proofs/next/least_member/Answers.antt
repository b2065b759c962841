-- `classes::next::least_member` meets its contract. The invariant: `best` is the least member of the classes passed.
use mathlib.Core.Path.{◌≡◌, sym, ap, ap₂, ◌∙◌}
use mathlib.Core.List.{List}
use Prim.Native.Nat.{ℕ, ◌+◌, ◌-◌, ◌^◌, ◌≤◌, ◌<◌, min}
use native.Mathlib.Omega.{arith}
use lib.IntN.{ℤ, pos}
use lib.ListN.{get_or, length, length-append, take}
use lib.Seq.{take_all}
use borrow.Author.Rules.{rules}
use mir.Val.{SFits, to_z, of_z}
use mir.Syntax.{w32, w64}
use Rattle.std.proofs.lemmas.Slice.Zip.{zip_turn, zip_end}
use Rattle.theory.specs.Range.{least}
use Rattle.theory.specs.Polynomial.{reduce}
use Rattle.theory.specs.Class.{Class}
use Rattle.theory.specs.ClassList.{members}
use Rattle.theory.specs.SignedClass.{naturals}
use Rattle.theory.proofs.Numbers.Power.{pow_pos}
use Rattle.theory.proofs.Numbers.Reduction.{reduce-lt}
use Rattle.numbers.specs.Saturated.{saturated}
use Rattle.numbers.proofs.Saturated.{saturated-within}
use Rattle.numbers.proofs.Words.{wide_read}
use Rattle.classes.specs.Rule7.{classes_of}
use Rattle.classes.specs.inner.Search.{member_from}
use Rattle.classes.proofs.Entries.{lent_length}
use Rattle.classes.proofs.NextMember.{least_of_none, least_of_next}
use Rattle.classes.proofs.next.least_member.Goals as goal

-- Entry i, with its level as the code reads it, the power of its level and its residue modulo that
module _ {p m point : ℕ} (residues : List ℤ) (levels : List ℕ) (two : 2 ≤ p) (same : length residues ≡ length levels)
    (within : (i : ℕ) → i < length levels → p ^ get_or levels i 0 ≤ 4294967295) (low : point ≤ m) (small : m ≤ 4294967295)
    (i : ℕ) (h : i < length residues) {t q a : ℕ} {x z : ℤ} (level : t ≡ get_or levels i 0) (power : q ≡ saturated (p ^ t))
    (wide : x ≡ to_z w32 (of_z w32 z)) (residue : z ≡ get_or residues i (pos 0)) (fits : SFits w32 (get_or residues i (pos 0)))
    (reduced : a ≡ reduce q (to_z w64 (of_z w64 x))) where
  positive : 0 < p
  positive = omega arith

  level_within : p ^ get_or levels i 0 ≤ 4294967295
  level_within = within i (omega arith)

  power_is : q ≡ p ^ get_or levels i 0
  power_is =
      power ∙ ap (λ (k : ℕ). saturated (p ^ k)) level ∙ saturated-within (p ^ get_or levels i 0) (omega (arith, level_within))

  reduced_is : a ≡ reduce (p ^ get_or levels i 0) (get_or residues i (pos 0))
  reduced_is =
      reduced
      ∙ ap₂ reduce power_is
      (ap (λ (y : ℤ). to_z w64 (of_z w64 y)) (wide ∙ ap (λ (y : ℤ). to_z w32 (of_z w32 y)) residue) ∙ wide_read _ fits)

  -- what `member_from` asks
  asked : (a < q) × (q ≤ 4294967295) × (point ≤ 4294967295)
  asked =
      rw (power_is, reduced_is) (
        reduce-lt (p ^ get_or levels i 0) (pow_pos p positive (get_or levels i 0)) (get_or residues i (pos 0)),
        level_within,
        omega arith,
      )

  -- the entry is taken in
  taken : (best r : ℕ) → best ≡ least (members p (take i (naturals p (classes_of residues levels)))) (m - point) point
      → r ≡ member_from a q point
      → min best r ≡ least (members p (take (i + 1) (naturals p (classes_of residues levels)))) (m - point) point
  taken best r before found =
      ap₂ min before (found ∙ ap₂ (λ (y k : ℕ). member_from y k point) reduced_is power_is)
      ∙ sym (least_of_next p positive residues levels same i point m h low)

pub loop-residue-init : goal.loop-residue-init
loop-residue-init c = sym (least_of_none c.args.p c.args.point c.args.m c.requires.3)

pub member_from-requires : goal.member_from-requires
member_from-requires c =
    let turn = zip_turn c.args.residues.now c.args.levels.now c.loop-residue.yielded c.into_iter-residue-iterator.result
    c.loop-residue.residue-iterator c.next.new.self c.next.result (search rules) (search rules) c.loop-residue.yielded_by
    (c.in-Some.residue, c.in-Some.level) c.in-Some.is c.next.ensures.steps in
    asked c.args.residues.now c.args.levels.now c.requires.0 c.requires.1 c.requires.2 c.requires.3 c.requires.4
    (length c.loop-residue.yielded) turn.0 (c.from.ensures ∙ turn.3 0) c.power-q.ensures
    c.from-in-loop-residue.ensures (turn.2 (pos 0)) (search rules) c.reduce-a.ensures

pub loop-residue-preserved : goal.loop-residue-preserved
loop-residue-preserved c =
    let turn = zip_turn c.args.residues.now c.args.levels.now c.loop-residue.yielded c.into_iter-residue-iterator.result
    c.loop-residue.residue-iterator c.next.new.self c.next.result (search rules) (search rules) c.loop-residue.yielded_by
    (c.in-Some.residue, c.in-Some.level) c.in-Some.is c.next.ensures.steps in
    rw (length-append c.loop-residue.yielded) (c.min-best.ensures
    ∙ taken c.args.residues.now c.args.levels.now c.requires.0 c.requires.1 c.requires.2 c.requires.3 c.requires.4
    (length c.loop-residue.yielded) turn.0 (c.from.ensures ∙ turn.3 0) c.power-q.ensures
    c.from-in-loop-residue.ensures (turn.2 (pos 0)) (search rules) c.reduce-a.ensures _ _ c.loop-residue.invariant c.member_from.ensures)

pub returns : goal.returns
returns c =
    let a = c.args in
    let end = zip_end a.residues.now a.levels.now c.loop-residue.yielded c.into_iter-residue-iterator.result
    c.loop-residue.residue-iterator c.next.new.self c.next.result (search rules) (search rules) c.loop-residue.yielded_by
    c.in-None.is c.next.ensures.steps in
    c.loop-residue.invariant
    ∙ ap (λ (l : List Class). least (members a.p l) (a.m - a.point) a.point)
    (take_all (length c.loop-residue.yielded) _
    (omega (arith, end, c.requires.1, lent_length a.p a.residues.now a.levels.now c.requires.1)))
