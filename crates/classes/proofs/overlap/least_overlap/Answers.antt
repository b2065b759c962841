-- `classes::overlap::least_overlap` meets its contract. The invariant: q is p^s, and `least` takes in the overlaps at the levels below s.
use mathlib.Core.Path.{◌≡◌, refl, sym, ap, ◌∙◌}
use mathlib.Core.List.{List}
use Prim.Native.Nat.{ℕ, ◌+◌, ◌*◌, ◌^◌, ◌≤◌, ◌<◌, min}
use native.Mathlib.Nat.{pow-zero, pow-le-pow_right}
use native.Mathlib.Omega.{arith}
use borrow.Author.Rules.{rules}
use lib.IntN.{ℤ, pos}
use lib.ListN.{get_or, length}
use mir.Syntax.{w32}
use mir.Val.{SFits, to_z, of_z}
use mir.ValLaws.{to_z-of_z}
use Rattle.theory.specs.Polynomial.{reduce}
use Rattle.theory.specs.Centered.{centered}
use Rattle.theory.specs.SignedClass.{signed_class, signed_slot}
use Rattle.theory.proofs.Numbers.Power.{pow_pos, pow_next}
use Rattle.theory.proofs.Numbers.Reduction.{reduce-lt}
use Rattle.theory.proofs.Signed.Centered.{centered-range}
use Rattle.theory.proofs.Signed.Classes.{signed_equal}
use Rattle.numbers.proofs.Words.{narrow_fits}
use Rattle.classes.specs.Rule7.{classes_of}
use Rattle.classes.specs.inner.Search.{around}
use Rattle.classes.proofs.Entries.{classes_slot}
use Rattle.classes.proofs.Searching.{value_none, overlap_found, overlap_none}
use Rattle.classes.proofs.overlap.least_overlap.Goals as goal
use Rattle.classes.proofs.overlap.least_overlap.Goals.{in-Some, in_default}

-- The power of a level up to that of the entry
module _ {p t s q : ℕ} (two : 2 ≤ p) (level : s ≤ t) (within : p ^ t ≤ 4294967295) (q-is : q ≡ p ^ s) where
  positive : 0 < q
  positive = rw q-is (pow_pos p (omega arith) s)

  power_fits : q ≤ 4294967295
  power_fits = omega (arith, pow-le-pow_right {n = p} (omega arith) {i = s} {j = t} level)

-- the class of level s around entry i, as the code finds it; it reads the residues as words
around_is : (p : ℕ) {i s q : ℕ} {a : ℤ} (residues : List ℤ) (levels : List ℕ) → i < length residues → length residues ≡ length levels
    → SFits w32 (get_or residues i (pos 0)) → 0 < q → q ≤ 4294967295 → q ≡ p ^ s
    → a ≡ centered q (reduce q (to_z w32 (of_z w32 (get_or residues i (pos 0)))))
    → signed_class (to_z w32 (of_z w32 a)) s ≡ around p (signed_slot (classes_of residues levels) i) s
unfolding around
around_is p {i} {s} {q} {a} residues levels h same fits above small q-is a-is =
    let z : ℤ = get_or residues i (pos 0) in
    let found : a ≡ centered q (reduce q z) = a-is ∙ ap (λ (x : ℤ). centered q (reduce q x)) (to_z-of_z w32 z fits) in
    let a-fits : SFits w32 a =
    rw found (narrow_fits q (centered q (reduce q z)) small (centered-range q (reduce q z) (reduce-lt q above z))) in
    rw (classes_slot residues levels i h (omega arith))
    (signed_equal (to_z-of_z w32 a a-fits ∙ found ∙ ap (λ (x : ℕ). centered x (reduce x z)) q-is) refl)

pub loop-s-init : goal.loop-s-init
loop-s-init c = (sym (pow-zero c.args.p), value_none _ c.args.best)

pub residue_around-a-requires : goal.residue_around-a-requires
residue_around-a-requires c =
    let l = c.loop-s in
    (positive c.requires.4 (omega arith) c.requires.5 l.invariant.0, power_fits c.requires.4 (omega arith) c.requires.5 l.invariant.0)

pub overflow_mul-q : goal.overflow_mul-q
overflow_mul-q c =
    let l = c.loop-s in
    record {
      fits = rw c.from-q.ensures
          (omega (arith, pow_next c.args.p l.s l.invariant.0, power_fits {s = l.s + 1} c.requires.4 (omega arith) c.requires.5 refl));
    }

pub loop-s-preserved : goal.loop-s-preserved
loop-s-preserved c =
    let a = c.args in
    let l = c.loop-s in
    let level : l.s ≤ get_or a.levels.now a.i 0 = omega arith in
    let around =
    around_is a.p a.residues.now a.levels.now c.requires.2 c.requires.0 (search rules) (positive c.requires.4 level c.requires.5 l.invariant.0)
    (power_fits c.requires.4 level c.requires.5 l.invariant.0) l.invariant.0 c.residue_around-a.ensures in (
      ap (λ (x : ℕ). l.q * x) c.from-q.ensures ∙ pow_next a.p l.s l.invariant.0,
      elim c.match-index_of.branch [
        | in-Some w ↦
            w.least-is ∙ w.min-least.ensures ∙ ap (min l.least) w.max.ensures
            ∙ overlap_found a.p _ _ a.i l.s a.best _ around l.least l.invariant.1 _ w.in-Some.ensures.1
        | in_default w ↦
            w.least-is ∙ overlap_none a.p _ _ a.i l.s a.best _ around l.least l.invariant.1 c.requires.3 w.in_default.ensures
      ],
    )
