-- `solver::join::inside_total` meets its contract. The invariant: the sum is that of the first i classes.
use mathlib.Core.Path.{◌≡◌, refl, sym, ap, ap₂, ◌∙◌}
use mathlib.Core.List.{List, [], ◌∷◌, ◌++◌, map}
use Prim.Native.Nat.{ℕ, ◌+◌, ◌-◌, ◌*◌, ◌^◌, ◌≤◌, ◌<◌}
use native.Mathlib.Omega.{arith}
use borrow.Author.Rules.{rules}
use lib.IntN.{ℤ}
use lib.ListN.{length, get_or, take}
use lib.Seq.{take-length}
use mir.Syntax.{w32}
use mir.Val.{SFits}
use Rattle.theory.specs.Polynomial.{reduce}
use Rattle.theory.specs.ClassList.{member_total}
use Rattle.theory.specs.SignedClass.{SignedClass}
use Rattle.theory.specs.inner.Join.{inside_total}
use Rattle.theory.specs.inner.Keep.{keep}
use Rattle.theory.proofs.Lists.Fill.{map-take-next}
use Rattle.theory.proofs.Signed.AddsUp.{inside_on, inside-off}
use Rattle.numbers.specs.Saturated.{saturated}
use Rattle.numbers.proofs.Saturated.{saturated-le, saturated_power}
use Rattle.numbers.proofs.Words.{wide_read}
use Rattle.solver.specs.declared.entry.Entry.{Entry}
use Rattle.solver.specs.inner.Entry.{class_of}
use Rattle.solver.proofs.Entries.{none}
use Rattle.solver.proofs.join.inside_total.Goals.{then-t-x+then-reduce-a, else-t-x, else-t-x-via-then-t-x+else-reduce-a, else-t-x-via-else-t-x}
use Rattle.solver.proofs.join.inside_total.Goals as goal

pub loop-x-init : goal.loop-x-init
unfolding inside_total member_total keep
loop-x-init c = (omega arith, refl)

-- entry i
module _ (codes : List Entry) (p n a t i : ℕ) (h : i < length codes) where
  abbrev x : Entry
  x = get_or codes i none

  abbrev z : ℤ
  z = (class_of x).residue

  -- its residue modulo p^t
  reduced : (q : ℕ) → q ≡ p ^ t → {r : ℕ} → r ≡ reduce q z → r ≡ reduce (p ^ t) z
  reduced q q-is k = k ∙ ap (λ (m : ℕ). reduce m z) q-is

  abbrev classes : ℕ → List SignedClass
  classes j = map class_of (take j codes)

  abbrev total : List SignedClass → ℕ
  total = inside_total p n a t

  next : classes (i + 1) ≡ classes i ++ (class_of x ∷ [])
  next = map-take-next class_of codes i none h

  -- the invariant before it, with the sum s, and after it, with the sum s'
  module _ (s : ℕ) (most : s ≤ i * 4294967296) (is : s ≡ total (classes i)) where
    abbrev Next : ℕ → Type 0
    Next s' = (s' ≤ (i + 1) * 4294967296) × (s' ≡ total (classes (i + 1)))

    next-on : {k : ℕ} → 2 ≤ p → p ^ n ≤ 4294967295 → t ≤ x.level → reduce (p ^ t) z ≡ a → k ≡ saturated (p ^ (n - x.level)) → Next (s + k)
    next-on {k} two fits l e f =
        let power : k ≡ p ^ (n - x.level) = saturated_power (omega arith) (omega arith) fits f in (
          omega (arith, saturated-le (p ^ (n - x.level))),
          ap₂ (λ (i j : ℕ). i + j) is power ∙ sym (ap total next ∙ inside_on p n a t (classes i) (class_of x) l e),
        )

    next-off : (t ≤ x.level → reduce (p ^ t) z ≡ a → ⊥) → Next s
    next-off f = (omega arith, is ∙ sym (ap total next ∙ inside-off p n a t (classes i) (class_of x) f))

pub overflow_add-sum : goal.overflow_add-sum
overflow_add-sum c =
    let a = c.args in
    record {
      fits = omega (
        arith,
        c.member_count-sum.ensures,
        saturated-le (a.p ^ (a.n - (get_or a.entries.now c.loop-x.x-index none).level)),
        c.requires.3,
        c.loop-x.invariant.0,
      );
    }

pub loop-x-preserved : goal.loop-x-preserved
loop-x-preserved c =
    let a = c.args in
    let i = c.loop-x.x-index in
    let codes = a.entries.now in
    let h : i < length codes = c.loop-x-test.true in
    let z = (get_or codes i none).residue in
    let most = c.loop-x.invariant.0 in
    let is = c.loop-x.invariant.1 in
    elim c.if-t-x.branch [
      | then-t-x+then-reduce-a w ↦
          let fits : SFits w32 z = search rules in
          let r = reduced codes a.p a.n a.a a.t i h a.q c.requires.2 (w.reduce.ensures ∙ ap (reduce a.q) (wide_read z fits)) in
          rw w.sum-is (next-on codes a.p a.n a.a a.t i h c.loop-x.sum most is c.requires.0 c.requires.1 w.if-t-x.true (sym r ∙ w.if-reduce-a.true) w.member_count-sum.ensures)
      | else-t-x w ↦
          rw w.sum-is (next-off codes a.p a.n a.a a.t i h c.loop-x.sum most is (λ l e. elim w.else-t-x.branch [
            | else-t-x-via-then-t-x+else-reduce-a v ↦
                let fits : SFits w32 z = search rules in
                v.if-reduce-a.false (reduced codes a.p a.n a.a a.t i h a.q c.requires.2 (v.reduce.ensures ∙ ap (reduce a.q) (wide_read z fits)) ∙ e)
            | else-t-x-via-else-t-x v ↦ omega (arith, v.if-t-x.false)
          ]))
    ]

pub returns : goal.returns
returns c =
    let a = c.args in
    let all : c.loop-x.x-index ≡ length a.entries.now = omega arith in
    c.loop-x.invariant.1
    ∙ ap (λ (l : List Entry). inside_total a.p a.n a.a a.t (map class_of l))
    (ap (λ (k : ℕ). take k a.entries.now) all ∙ take-length a.entries.now)
