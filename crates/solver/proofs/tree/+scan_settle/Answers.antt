-- Settling a class and scanning its digits, proved together.
use mathlib.Core.Path.{◌≡◌, sym, ap, ◌∙◌, subst₂}
use mathlib.Core.Bool.{Bool, true, false, ◌&&◌, and-true}
use mathlib.Core.List.{List}
use Prim.Native.Nat.{ℕ, ◌+◌, ◌-◌, ◌^◌, ◌≤◌, ◌<◌, min}
use native.Mathlib.Nat.{le_refl}
use native.Mathlib.Omega.{arith}
use borrow.Author.Tests.{not-true, not-false, eq-eqb, ne_eqb}
use lib.Dec.{eqb}
use lib.ListN.{length, length-take, get_or, take, replicate}
use lib.Seq.{length-take-le, take-length, take_all}
use Rattle.theory.specs.Range.{all_below, passing}
use Rattle.theory.specs.Polynomial.{vanishes, zeros}
use Rattle.theory.specs.Taylor.{shifted}
use Rattle.theory.specs.Live.{live_of}
use Rattle.theory.specs.Degree.{primitive, all_zero, least_valuation}
use Rattle.theory.specs.inner.Tree.{branch}
use Rattle.theory.proofs.Tests.{and_intro, and_none}
use Rattle.theory.proofs.Lists.Fill.{take_next, replicate_taken}
use Rattle.theory.proofs.Passing.{taken_prefix}
use Rattle.solver.specs.declared.entry.Entry.{Entry}
use Rattle.solver.specs.declared.tree.PrimePower.{PrimePower}
use Rattle.solver.specs.declared.tree.Node.{Node}
use Rattle.solver.specs.declared.tree.Settled.{Settled}
use Rattle.solver.specs.inner.Table.{zero_digits, degree_modulo, Residues}
use Rattle.solver.specs.inner.Recursion.{Primitive, AtNode, Done, child_at, lowered, most_classes}
use Rattle.solver.proofs.Child.{modulus_pos, child-zeros, child_live, child-at, child-order}
use Rattle.solver.proofs.Counting.{below, counted, counted_none, counted_next, counted-all, counted-finished, counted-last, below-few, counted-few}
use Rattle.solver.proofs.Node.{class-fits}
use Rattle.solver.proofs.Scanning.{Scanned, scanned-none, scanned-next, scanned-room, scanned-whole, scanned-done, scanned_put}
use Rattle.solver.proofs.Settling.{Quotient, quotient, zero-whole, last-whole, last_none, whole_room, some_length}
use Rattle.solver.proofs.Zeros.{degree_modulo-lt, degree_modulo_lem, few}
use Rattle.solver.proofs.tree.+scan_settle.Goals as goal
use Rattle.solver.proofs.tree.+scan_settle.Goals.{scan-then-not-settled, scan-else-not-settled, scan-else-all-via-then-all+else-count-over, scan-else-all-via-else-all}

-- The loop of `scan`: the digits are found, and below each there are `cap` coefficients

-- the table that the coefficients below a digit go into
abbrev blank : List ℕ
blank = replicate 65 0

blank-long : {cap : ℕ} → cap ≤ 65 → length (take cap blank) ≡ cap
blank-long {cap} few = length-take-le cap blank few

digit : {f : List ℕ} {M : PrimePower} {x : Node} → Primitive f M x → (digits : List ℕ) (i : ℕ) → digits ≡ zero_digits M.p f
    → i < length digits → (get_or digits i 0 < M.p) × (take i digits ≡ passing (vanishes M.p f) (get_or digits i 0) 0)
digit {f} {M} P digits i found h =
    taken_prefix (vanishes M.p f) M.p (length digits) i digits (take-length digits ∙ found) (le_refl (length digits)) h

module _ {f : List ℕ} {M : PrimePower} {x : Node} (P : Primitive f M x) (c : ℕ) {cap : ℕ} {g : List ℕ}
    (capped : cap ≡ min M.exponent (length f)) (long : length g ≡ length (take cap blank))
    (r : Residues M.power g (shifted c M.p f)) where
  cap-few : cap ≤ 65
  cap-few = omega (arith, capped, P.at.short)

  same_long : length g ≡ cap
  same_long = long ∙ blank-long cap-few

  shift_long : length g ≡ min M.exponent (length f)
  shift_long = same_long ∙ capped

  child_there : {y : Node} → c < M.p → y ≡ child_at x M.p c → AtNode g M y
  child_there c_lt e = rw e (child-at P c shift_long r c_lt)

  child_room : {k at : ℕ} {all : Bool} {out₀ out : List Entry}
      → Scanned (zeros f M.p M.exponent) M.p x k (passing (vanishes M.p f) c 0) at all out₀ out → c < M.p
      → k + degree_modulo M.p f ≤ length out₀ → at + most_classes M.p g ≤ length out
  child_room s c_lt room = scanned-room P s c_lt room (child-order P c shift_long r)

  -- the number below the digit
  child_number : {y : Node} {live : ℕ} → y ≡ child_at x M.p c
      → live ≡ live_of g M.p M.exponent y.left → live ≡ below f M x c
  child_number e n =
      n
      ∙ ap (λ (y : Node). live_of g M.p M.exponent y.left) e
      ∙ child_live P c shift_long r (x.left - 1)

  child_done : {y : Node} {k : ℕ} {s : Settled} {out out' : List Entry} → y ≡ child_at x M.p c
      → Done (zeros g M.p M.exponent) M.p y k s out out'
      → Done (branch (zeros f M.p M.exponent) M.p c) M.p (child_at x M.p c) k s out out'
  child_done {k = k} {s = s} {out = out} {out' = out'} e d =
      subst₂ (λ (R : ℕ → Bool) (y : Node). Done R M.p y k s out out')
      (child-zeros P c shift_long r) e d

pub scan-loop-zero-init : goal.scan-loop-zero-init
scan-loop-zero-init t c =
    (scanned-none _ _ _ _ _, counted_none c.args.h.now c.args.over c.args.node)

pub scan-shift-requires : goal.scan-shift-requires
scan-shift-requires t c =
    let P = c.requires.0 in
    let I = P.at.modulus in
    let few : c.min-cap.result ≤ 65 = omega (arith, c.min-cap.ensures, P.at.short) in
    let digits = take c.zero_digits-count.result c.zero_digits-count.new.zeros in
    let d = digit P digits c.loop-zero.zero-index c.zero_digits-count.ensures.1 c.loop-zero-test.true in
    let some = degree_modulo-lt c.args.over.p c.args.h.now P.nonzero in (
      omega (arith, blank-long few, c.min-cap.ensures, P.precise, some),
      modulus_pos I,
      I.fits,
      omega (arith, d.0, I.small),
      omega (arith, I.small),
      replicate_taken 0 65 c.min-cap.result,
    )

pub scan-child-requires : goal.scan-child-requires
scan-child-requires t c =
    let P = c.requires.0 in
    let digits = take c.zero_digits-count.result c.zero_digits-count.new.zeros in
    let d = digit P digits c.loop-zero.zero-index c.zero_digits-count.ensures.1 c.loop-zero-test.true in
    (P.at.node, P.deep, d.0)

pub scan-settle-settled-requires : goal.scan-settle-settled-requires
scan-settle-settled-requires t c =
    let P = c.requires.0 in
    let digits = take c.zero_digits-count.result c.zero_digits-count.new.zeros in
    let d = digit P digits c.loop-zero.zero-index c.zero_digits-count.ensures.1 c.loop-zero-test.true in
    let r = c.shift.ensures in (
      omega (arith, c.decreases, P.deep, ap (λ (y : Node). y.left) c.child.ensures),
      (
        child_there P (get_or digits c.loop-zero.zero-index 0) c.min-cap.ensures c.shift.auto.g r d.0 c.child.ensures,
        child_room P (get_or digits c.loop-zero.zero-index 0) c.min-cap.ensures c.shift.auto.g r (rw d.1 at c.loop-zero.invariant.0) d.0 c.requires.1,
      ),
    )

pub scan-overflow_add-live : goal.scan-overflow_add-live
scan-overflow_add-live t c =
    let P = c.requires.0 in
    let digits = take c.zero_digits-count.result c.zero_digits-count.new.zeros in
    let short : length (take c.loop-zero.zero-index digits) ≤ 64 =
    omega (
      arith,
      length-take c.loop-zero.zero-index digits,
      length-take c.zero_digits-count.result c.zero_digits-count.new.zeros,
      c.zero_digits-count.ensures.0,
    ) in
    omega (
      arith,
      c.loop-zero.invariant.1,
      counted-few P (take c.loop-zero.zero-index digits) short,
      child_number P (get_or digits c.loop-zero.zero-index 0) c.min-cap.ensures c.shift.auto.g c.shift.ensures c.child.ensures c.settle-settled.ensures.live,
      below-few P (get_or digits c.loop-zero.zero-index 0),
    )

pub scan-loop-zero-preserved : goal.scan-loop-zero-preserved
scan-loop-zero-preserved t c =
    let P = c.requires.0 in
    let digits = take c.zero_digits-count.result c.zero_digits-count.new.zeros in
    let here = c.loop-zero-test.true in
    let all = c.loop-zero.all in
    let whole = c.settle-settled.result.whole in
    let which : c.if-not-settled.all ≡ (all && whole) =
    elim c.if-not-settled.branch [
      | scan-then-not-settled w ↦ w.all-is ∙ sym (ap (λ (y : Bool). all && y) (not-true whole w.if-not-settled.true) ∙ and_none all)
      | scan-else-not-settled w ↦ w.all-is ∙ sym (ap (λ (y : Bool). all && y) (not-false whole w.if-not-settled.false) ∙ and-true all)
    ] in (
      rw (take_next digits c.loop-zero.zero-index 0 here)
          (scanned-next _ _ _ _ (get_or digits c.loop-zero.zero-index 0) c.loop-zero.invariant.0
          (child_done P (get_or digits c.loop-zero.zero-index 0) c.min-cap.ensures c.shift.auto.g c.shift.ensures c.child.ensures c.settle-settled.ensures.classes)
          c.settle-settled.auto.out which),
      counted_next P digits c.loop-zero.zero-index here c.loop-zero.invariant.1
          (child_number P (get_or digits c.loop-zero.zero-index 0) c.min-cap.ensures c.shift.auto.g c.shift.ensures c.child.ensures c.settle-settled.ensures.live),
    )

-- After the last digit

module _ {f : List ℕ} {M : PrimePower} {x : Node} (P : Primitive f M x) (table : List ℕ) (i : ℕ) {out₀ out : List Entry} {count k at live : ℕ} {all : Bool}
    (fits : count ≤ length table) (found : take count table ≡ zero_digits M.p f) (last : length (take count table) ≤ i)
    (s : Scanned (zeros f M.p M.exponent) M.p x k (take i (take count table)) at all out₀ out)
    (n : live ≡ counted f M x (take i (take count table))) where
  all_digits : take i (take count table) ≡ zero_digits M.p f
  all_digits = take_all i (take count table) last ∙ found

  count_is : count ≡ length (zero_digits M.p f)
  count_is = sym (length-take-le count table fits) ∙ ap length found

  ended : Scanned (zeros f M.p M.exponent) M.p x k (zero_digits M.p f) at all out₀ out
  ended = rw all_digits at s

  live-is : live ≡ live_of f M.p M.exponent x.left
  live-is = n ∙ ap (counted f M x) all_digits ∙ counted-all P

  whole_is : all_below (zeros f M.p M.exponent) (M.p ^ x.left) ≡ (all && eqb count M.p)
  whole_is = scanned-whole P ended ∙ ap (λ (j : ℕ). all && eqb j M.p) (sym count_is)

  room_left : count ≡ M.p → k + degree_modulo M.p f ≤ length out₀ → k < length out
  room_left e room =
      omega (
        arith,
        ended.long,
        room,
        P.at.node.base,
        e,
        count_is,
        few M.p _ f P.at.modulus.prime (degree_modulo_lem M.p f P.nonzero) M.p (le_refl M.p),
      )

pub scan-put_whole-requires : goal.scan-put_whole-requires
scan-put_whole-requires t c =
    let P = c.requires.0 in
    let class = class-fits P.at.node in (
      class.0,
      class.1,
      class.2,
      room_left P c.zero_digits-count.new.zeros c.loop-zero.zero-index (omega (arith, c.zero_digits-count.auto.zeros, c.zero_digits-count.ensures.0)) c.zero_digits-count.ensures.1 c.loop-zero-test.false c.loop-zero.invariant.0 c.loop-zero.invariant.1 c.if-count-over.true c.requires.1,
    )

pub scan-returns-then-count-over-clause-classes : goal.scan-returns-then-count-over-clause-classes
scan-returns-then-count-over-clause-classes t c =
    let P = c.requires.0 in
    scanned_put (ended P c.zero_digits-count.new.zeros c.loop-zero.zero-index (omega (arith, c.zero_digits-count.auto.zeros, c.zero_digits-count.ensures.0)) c.zero_digits-count.ensures.1 c.loop-zero-test.false c.loop-zero.invariant.0 c.loop-zero.invariant.1) (omega (arith, c.requires.1))
    (c.put_whole.ensures.classes _ _ P.at.node.power_is
    (whole_is P c.zero_digits-count.new.zeros c.loop-zero.zero-index (omega (arith, c.zero_digits-count.auto.zeros, c.zero_digits-count.ensures.0)) c.zero_digits-count.ensures.1 c.loop-zero-test.false c.loop-zero.invariant.0 c.loop-zero.invariant.1 ∙ and_intro _ _ c.if-all.true (eq-eqb c.zero_digits-count.result c.args.over.p c.if-count-over.true)))

pub scan-returns-then-count-over-clause-live : goal.scan-returns-then-count-over-clause-live
scan-returns-then-count-over-clause-live t c =
    c.put_whole.ensures.live ∙ live-is c.requires.0 c.zero_digits-count.new.zeros c.loop-zero.zero-index (omega (arith, c.zero_digits-count.auto.zeros, c.zero_digits-count.ensures.0)) c.zero_digits-count.ensures.1 c.loop-zero-test.false c.loop-zero.invariant.0 c.loop-zero.invariant.1

pub scan-returns-clause-classes : goal.scan-returns-clause-classes
scan-returns-clause-classes t c =
    let P = c.requires.0 in
    let all = c.loop-zero.all in
    let full = eqb c.zero_digits-count.result c.args.over.p in
    let fails : (all && full) ≡ false =
    elim c.else-all.branch [
      | scan-else-all-via-then-all+else-count-over w ↦ ap (λ (y : Bool). all && y) (ne_eqb c.zero_digits-count.result c.args.over.p w.if-count-over.false) ∙ and_none all
      | scan-else-all-via-else-all w ↦ ap (λ (y : Bool). y && full) w.if-all.false
    ] in
    scanned-done P (ended P c.zero_digits-count.new.zeros c.loop-zero.zero-index (omega (arith, c.zero_digits-count.auto.zeros, c.zero_digits-count.ensures.0)) c.zero_digits-count.ensures.1 c.loop-zero-test.false c.loop-zero.invariant.0 c.loop-zero.invariant.1) _ (whole_is P c.zero_digits-count.new.zeros c.loop-zero.zero-index (omega (arith, c.zero_digits-count.auto.zeros, c.zero_digits-count.ensures.0)) c.zero_digits-count.ensures.1 c.loop-zero-test.false c.loop-zero.invariant.0 c.loop-zero.invariant.1 ∙ fails)

pub scan-returns-clause-live : goal.scan-returns-clause-live
scan-returns-clause-live t c =
    live-is c.requires.0 c.zero_digits-count.new.zeros c.loop-zero.zero-index (omega (arith, c.zero_digits-count.auto.zeros, c.zero_digits-count.ensures.0)) c.zero_digits-count.ensures.1 c.loop-zero-test.false c.loop-zero.invariant.0 c.loop-zero.invariant.1

-- `settle`

-- a class that is whole is put
ready : {g : List ℕ} {M : PrimePower} {x : Node} → AtNode g M x → {k n : ℕ} → all_below (zeros g M.p M.exponent) (M.p ^ x.left) ≡ true
    → k + most_classes M.p g ≤ n → (x.residue < x.power) × (x.power ≤ 4294967295) × (x.level < 256) × (k < n)
ready N w fits = let s = class-fits N.node in (s.0, s.1, s.2, whole_room N w fits)

pub settle-put_whole-requires : goal.settle-put_whole-requires
settle-put_whole-requires t c =
    let N = c.requires.0 in
    ready N (zero-whole N (sym c.all_zero.ensures ∙ c.if-all_zero.true)) c.requires.1

pub settle-returns-then-all_zero-clause-classes : goal.settle-returns-then-all_zero-clause-classes
settle-returns-then-all_zero-clause-classes t c =
    let N = c.requires.0 in
    c.put_whole.ensures.classes _ _ N.node.power_is (zero-whole N (sym c.all_zero.ensures ∙ c.if-all_zero.true))

pub settle-returns-then-all_zero-clause-live : goal.settle-returns-then-all_zero-clause-live
settle-returns-then-all_zero-clause-live t c =
    c.put_whole.ensures.live ∙ sym (counted-finished c.requires.0 (sym c.all_zero.ensures ∙ c.if-all_zero.true))

pub settle-put_whole-requires-then-g-eq0 : goal.settle-put_whole-requires-then-g-eq0
settle-put_whole-requires-then-g-eq0 t c =
    let N = c.requires.0 in
    ready N (last-whole N c.if-node-eq0.true ∙ eq-eqb _ 0 c.if-g-eq0.true) c.requires.1

pub settle-returns-then-g-eq0-clause-classes : goal.settle-returns-then-g-eq0-clause-classes
settle-returns-then-g-eq0-clause-classes t c =
    let N = c.requires.0 in
    c.put_whole-then-g-eq0.ensures.classes _ _ N.node.power_is
    (last-whole N c.if-node-eq0.true ∙ eq-eqb _ 0 c.if-g-eq0.true)

pub settle-returns-then-g-eq0-clause-live : goal.settle-returns-then-g-eq0-clause-live
settle-returns-then-g-eq0-clause-live t c =
    c.put_whole-then-g-eq0.ensures.live ∙ sym (counted-last c.requires.0 c.if-node-eq0.true)

pub settle-returns-then-node-eq0-clause-classes : goal.settle-returns-then-node-eq0-clause-classes
settle-returns-then-node-eq0-clause-classes t c =
    let N = c.requires.0 in
    last_none N c.args.k 1 c.args.out.now c.if-node-eq0.true
    (last-whole N c.if-node-eq0.true ∙ ne_eqb _ 0 c.if-g-eq0.false)

pub settle-returns-then-node-eq0-clause-live : goal.settle-returns-then-node-eq0-clause-live
settle-returns-then-node-eq0-clause-live t c = sym (counted-last c.requires.0 c.if-node-eq0.true)

-- there is a constant coefficient, as not all are zero
pub settle-bounds-g-0 : goal.settle-bounds-g-0
settle-bounds-g-0 t c = some_length c.args.g.now (sym c.all_zero.ensures ∙ c.if-all_zero.false)

-- Else the coefficients are divided by p^s, and the digits are scanned

module _ (g : List ℕ) {q : List ℕ} {M R : PrimePower} {x : Node} (N : AtNode g M x) (some : all_zero g ≡ false)
    (deep : 0 < x.left) (is : q ≡ primitive M.p g) (left : R ≡ lowered M (least_valuation M.p g)) where
  divided_is : Quotient g M x
  divided_is = quotient N some deep

  scanned : (k : ℕ) {n : ℕ} → k + most_classes M.p g ≤ n
      → Primitive q R x × (k + degree_modulo R.p q ≤ n)
  scanned k {n} room =
      subst₂ (λ (h : List ℕ) (D : PrimePower). Primitive h D x × (k + degree_modulo D.p h ≤ n)) (sym is) (sym left)
      (divided_is.primitive_at, omega (arith, room, divided_is.degree))

  settled : {k : ℕ} {r : Settled} {out out' : List Entry}
      → Done (zeros q R.p R.exponent) R.p x k r out out'
      → Done (zeros g M.p M.exponent) M.p x k r out out'
  settled {k} {r} {out} {out'} d =
      rw divided_is.all_zeros
      (subst₂ (λ (h : List ℕ) (D : PrimePower). Done (zeros h D.p D.exponent) D.p x k r out out') is left d)

  number : {live : ℕ} → live ≡ live_of q R.p R.exponent x.left → live ≡ live_of g M.p M.exponent x.left
  number {live} n =
      subst₂ (λ (h : List ℕ) (D : PrimePower). live ≡ live_of h D.p D.exponent x.left) is left n ∙ sym divided_is.same_live

pub settle-scan-requires : goal.settle-scan-requires
settle-scan-requires t c = (
  omega (arith, c.decreases),
  scanned c.args.g.now c.requires.0 (sym c.all_zero.ensures ∙ c.if-all_zero.false) (omega (arith, c.if-node-eq0.false))
      c.make_primitive-rest.ensures.quotient c.make_primitive-rest.ensures.modulus c.args.k c.requires.1,
)

pub settle-returns-clause-classes : goal.settle-returns-clause-classes
settle-returns-clause-classes t c =
    settled c.args.g.now c.requires.0 (sym c.all_zero.ensures ∙ c.if-all_zero.false) (omega (arith, c.if-node-eq0.false))
    c.make_primitive-rest.ensures.quotient c.make_primitive-rest.ensures.modulus c.scan.ensures.classes

pub settle-returns-clause-live : goal.settle-returns-clause-live
settle-returns-clause-live t c =
    number c.args.g.now c.requires.0 (sym c.all_zero.ensures ∙ c.if-all_zero.false) (omega (arith, c.if-node-eq0.false))
    c.make_primitive-rest.ensures.quotient c.make_primitive-rest.ensures.modulus c.scan.ensures.live
