-- Counting the zeros of a class and those of its digits, proved together.
use mathlib.Core.Path.{◌≡◌, refl, sym, ap, ap₂, ◌∙◌, subst, subst₂}
use mathlib.Core.Bool.{true, false}
use mathlib.Core.List.{List, ◌++◌}
use Prim.Native.Nat.{ℕ, suc, ◌+◌, ◌-◌, ◌^◌, ◌≤◌, ◌<◌, min}
use native.Mathlib.Nat.{le_refl}
use native.Mathlib.Omega.{arith}
use lib.ListN.{length, get_or, take, drop, replicate}
use lib.Seq.{length-take-le, take-length, take_all}
use Rattle.theory.specs.Polynomial.{vanishes}
use Rattle.theory.specs.Taylor.{shifted}
use Rattle.theory.specs.Degree.{all_zero, primitive, least_valuation}
use Rattle.theory.specs.Live.{sum_over}
use Rattle.theory.proofs.Lists.Fill.{replicate_taken}
use Rattle.theory.proofs.Passing.{taken_prefix}
use Rattle.numbers.specs.Saturated.{saturated}
use Rattle.numbers.proofs.Saturated.{saturated-within}
use Rattle.solver.specs.declared.tree.PrimePower.{PrimePower}
use Rattle.solver.specs.declared.tree.Node.{Node}
use Rattle.solver.specs.inner.Table.{lower_of, zero_digits, Residues}
use Rattle.solver.specs.inner.Recursion.{AtNode, Primitive, child_at, lowered}
use Rattle.solver.specs.inner.Counts.{zeros_at, Fits, Room, Added}
use Rattle.solver.proofs.Added.{Plus, plus-some, part-long, part-fits, plus-parts}
use Rattle.solver.proofs.Child.{modulus_pos, child-counts, child-at}
use Rattle.solver.proofs.Node.{members-fit, level-lt}
use Rattle.solver.proofs.Settling.{Quotient, quotient, some_length, valuation-lt}
use Rattle.solver.proofs.ZeroCounts.{zeros-finished, zeros-content, zeros-quotient, lower-most, last-in, last_out}
use Rattle.solver.proofs.ZeroCounts.{below, digits-none, digits-room, digits-next, digits-all}
use Rattle.solver.proofs.Zeros.{degree_modulo-lt}
use Rattle.solver.proofs.zero_counts.+count_class_count_digits.Goals as goal

-- `count_class`

module _ (g : List ℕ) {M : PrimePower} {x : Node} (N : AtNode g M x) {l : List ℕ} (room : Room g M x l)
    {members : ℕ} (number : members ≡ saturated (M.p ^ x.left)) where
  members-are : members ≡ M.p ^ x.left
  members-are = number ∙ saturated-within _ (omega (arith, members-fit N.node))

  -- Where all coefficients are zero

  all-added : all_zero g ≡ true → (i : ℕ) → zeros_at g M.p x.left i ≡ members
  all-added z i = zeros-finished _ _ _ z i ∙ sym members-are

  all_fit : all_zero g ≡ true → Fits M.exponent members l
  all_fit z =
      record {
        there = omega (arith, room.long);
        fits = λ i u. omega (arith, all-added z i, room.fits i u);
      }

  all-done : {l' : List ℕ} → all_zero g ≡ true → Plus (λ i. members) M.exponent l l' → Added g M x l l'
  all-done z a =
      plus-some (zeros_at g M.p x.left) members M.exponent M.exponent (omega arith) a (λ i u. all-added z i)
      (λ i low high. absurd (omega arith))

  -- Where some is not, and no level is left

  module _ (some : all_zero g ≡ false) (none : x.left ≡ 0) {v : ℕ} (is : v ≡ lower_of M.p M.exponent (get_or g 0 0)) where
    two : 2 ≤ M.p
    two = N.modulus.prime.two

    last-most : v ≤ M.exponent
    last-most = omega (arith, is, lower-most g M.p two M.exponent)

    none_below : (i k : ℕ) → zeros_at g M.p 0 i ≡ k → zeros_at g M.p x.left i ≡ k
    none_below i k e = ap (λ (n : ℕ). zeros_at g M.p n i) none ∙ e

    last-added : (i : ℕ) → i < v → zeros_at g M.p x.left i ≡ members
    last-added i u =
        none_below i (M.p ^ 0) (last-in g M.p two M.exponent i (omega (arith, is)))
        ∙ ap (λ (n : ℕ). M.p ^ n) (sym none)
        ∙ sym members-are

    last-not : (i : ℕ) → v ≤ i → i < M.exponent → zeros_at g M.p x.left i ≡ 0
    last-not i low high = none_below i 0 (last_out g M.p two M.exponent i (omega (arith, is)) high)

    last_fit : Fits v members l
    last_fit =
        record {
          there = omega (arith, room.long, last-most);
          fits = λ i u. omega (arith, last-added i u, room.fits i (omega (arith, last-most)));
        }

    last-done : {l' : List ℕ} → Plus (λ i. members) v l l' → Added g M x l l'
    last-done a = plus-some (zeros_at g M.p x.left) members v M.exponent last-most a last-added last-not

  -- Else the coefficients are divided by p^s, and the digits are counted

  module _ (some : all_zero g ≡ false) (deep : 0 < x.left) {q : List ℕ} {R : PrimePower} (is : q ≡ primitive M.p g)
      (left : R ≡ lowered M (least_valuation M.p g)) where
    divided_is : Quotient g M x
    divided_is = quotient N some deep

    s-is : M.exponent - R.exponent ≡ least_valuation M.p g
    s-is = omega (arith, ap (λ (D : PrimePower). D.exponent) left, valuation-lt N.modulus N.below some)

    rest-is : R.exponent ≡ M.exponent - (M.exponent - R.exponent)
    rest-is = omega (arith, ap (λ (D : PrimePower). D.exponent) left, valuation-lt N.modulus N.below some)

    -- one power of p for another
    one_power : (i : ℕ) → zeros_at g M.p x.left (M.exponent - R.exponent + i) ≡ zeros_at q R.p x.left i
    one_power i =
        ap (λ (k : ℕ). zeros_at g M.p x.left (k + i)) s-is
        ∙ zeros-quotient divided_is x.left i
        ∙ sym (ap₂ (λ (h : List ℕ) (p : ℕ). zeros_at h p x.left i) is (ap (λ (D : PrimePower). D.p) left))

    content : (i : ℕ) → i < M.exponent - R.exponent → zeros_at g M.p x.left i ≡ members
    content i u =
        zeros-content g M.p x.left N.modulus.prime.two i (omega (arith, s-is)) ∙ sym members-are

    content_fit : Fits (M.exponent - R.exponent) members l
    content_fit =
        record {
          there = omega (arith, room.long);
          fits = λ i u. omega (arith, content i u, room.fits i (omega arith));
        }

    module _ {l' : List ℕ} (a : Plus (λ i. members) (M.exponent - R.exponent) l l') where
      digits_ask : Primitive q R x
          × Room q R x
          (take (length l' - (M.exponent - R.exponent)) (drop (M.exponent - R.exponent) l'))
      digits_ask =
          let A = zeros_at g M.p x.left in
          let B = zeros_at q R.p x.left in (
            subst₂ (λ (h : List ℕ) (D : PrimePower). Primitive h D x) (sym is) (sym left) divided_is.primitive_at,
            record {
              long = part-long A B members (M.exponent - R.exponent) M.exponent R.exponent room.long (omega arith) rest-is a one_power;
              fits = part-fits A B members (M.exponent - R.exponent) M.exponent R.exponent room.long (omega arith) rest-is a one_power
                  room.fits;
            },
          )

      parts-done : {ys : List ℕ}
          → Plus (zeros_at q R.p x.left) R.exponent
          (take (length l' - (M.exponent - R.exponent)) (drop (M.exponent - R.exponent) l')) ys
          → Added g M x l
          (take (M.exponent - R.exponent) l'
          ++ (ys ++ drop (length l' - (M.exponent - R.exponent)) (drop (M.exponent - R.exponent) l')))
      parts-done b =
          plus-parts (zeros_at g M.p x.left) (zeros_at q R.p x.left) members
          (M.exponent - R.exponent) M.exponent R.exponent room.long (omega arith) rest-is a one_power b content

pub count_class-overflow_cast-node : goal.count_class-overflow_cast-node
count_class-overflow_cast-node t c = omega (arith, level-lt c.requires.0.node)

pub count_class-add-requires : goal.count_class-add-requires
count_class-add-requires t c =
    all_fit c.args.g.now c.requires.0 c.requires.1 c.power-members.ensures (sym c.all_zero.ensures ∙ c.if-all_zero.true)

pub count_class-returns-then-all_zero : goal.count_class-returns-then-all_zero
count_class-returns-then-all_zero t c =
    all-done c.args.g.now c.requires.0 c.requires.1 c.power-members.ensures (sym c.all_zero.ensures ∙ c.if-all_zero.true)
    c.add.ensures

pub count_class-add-requires-then-node-eq0 : goal.count_class-add-requires-then-node-eq0
count_class-add-requires-then-node-eq0 t c =
    last_fit c.args.g.now c.requires.0 c.requires.1 c.power-members.ensures (sym c.all_zero.ensures ∙ c.if-all_zero.false)
    c.if-node-eq0.true c.lower-v.ensures

pub count_class-returns-then-node-eq0 : goal.count_class-returns-then-node-eq0
count_class-returns-then-node-eq0 t c =
    last-done c.args.g.now c.requires.0 c.requires.1 c.power-members.ensures (sym c.all_zero.ensures ∙ c.if-all_zero.false)
    c.if-node-eq0.true c.lower-v.ensures c.add-then-node-eq0.ensures

-- there is a constant coefficient, as not all are zero
pub count_class-bounds-g-0 : goal.count_class-bounds-g-0
count_class-bounds-g-0 t c = some_length c.args.g.now (sym c.all_zero.ensures ∙ c.if-all_zero.false)

pub count_class-add-requires-2 : goal.count_class-add-requires-2
count_class-add-requires-2 t c =
    content_fit c.args.g.now c.requires.0 c.requires.1 c.power-members.ensures (sym c.all_zero.ensures ∙ c.if-all_zero.false)
    (omega (arith, c.if-node-eq0.false)) c.make_primitive-rest.ensures.quotient
    c.make_primitive-rest.ensures.modulus

pub count_class-count_digits-requires : goal.count_class-count_digits-requires
count_class-count_digits-requires t c = (
  omega (arith, c.decreases),
  digits_ask c.args.g.now c.requires.0 c.requires.1 c.power-members.ensures (sym c.all_zero.ensures ∙ c.if-all_zero.false)
      (omega (arith, c.if-node-eq0.false)) c.make_primitive-rest.ensures.quotient
      c.make_primitive-rest.ensures.modulus c.add-2.ensures,
)

pub count_class-returns : goal.count_class-returns
count_class-returns t c =
    parts-done c.args.g.now c.requires.0 c.requires.1 c.power-members.ensures (sym c.all_zero.ensures ∙ c.if-all_zero.false)
    (omega (arith, c.if-node-eq0.false)) c.make_primitive-rest.ensures.quotient
    c.make_primitive-rest.ensures.modulus c.add-2.ensures c.count_digits.ensures

-- The loop of `count_digits`: the digits are found, and below each there are `cap` coefficients

-- the table that the coefficients below a digit go into
abbrev blank : List ℕ
blank = replicate 65 0

blank-long : {cap : ℕ} → cap ≤ 65 → length (take cap blank) ≡ cap
blank-long {cap} few = length-take-le cap blank few

digit_lt : {f : List ℕ} {M : PrimePower} {x : Node} → Primitive f M x → (digits : List ℕ) (i : ℕ) → digits ≡ zero_digits M.p f
    → i < length digits → get_or digits i 0 < M.p
digit_lt {f} {M} P digits i found h =
    (taken_prefix (vanishes M.p f) M.p (length digits) i digits (take-length digits ∙ found) (le_refl (length digits)) h).0

module _ {h : List ℕ} {M : PrimePower} {x : Node} (P : Primitive h M x) (digits : List ℕ) (i : ℕ)
    (found : digits ≡ zero_digits M.p h) (i_lt : i < length digits) {cap : ℕ} {g : List ℕ}
    (capped : cap ≡ min M.exponent (length h)) (long : length g ≡ length (take cap blank))
    (r : Residues M.power g (shifted (get_or digits i 0) M.p h)) where
  cap-few : cap ≤ 65
  cap-few = omega (arith, capped, P.at.short)

  same_long : length g ≡ cap
  same_long = long ∙ blank-long cap-few

  left : x.left ≡ suc (x.left - 1)
  left = omega (arith, P.deep)

  below-is : (k : ℕ) → k < M.exponent → zeros_at g M.p (x.left - 1) k ≡ below h M.p (x.left - 1) k (get_or digits i 0)
  below-is k u = child-counts P (get_or digits i 0) (same_long ∙ capped) r (x.left - 1) k u

  child_there : {y : Node} → y ≡ child_at x M.p (get_or digits i 0) → AtNode g M y
  child_there e = rw e (child-at P (get_or digits i 0) (same_long ∙ capped) r (digit_lt P digits i found i_lt))

  module _ {counts₀ counts : List ℕ} (room : Room h M x counts₀)
      (so : Plus (λ k. sum_over (below h M.p (x.left - 1) k) (take i digits)) M.exponent counts₀ counts)
      {y : Node} (e : y ≡ child_at x M.p (get_or digits i 0)) where
    -- the counts below it have room
    child_room : Room g M y counts
    child_room =
        rw e (record {
          long = so.long ∙ room.long;
          fits =
              digits-room h M.p (x.left - 1) digits refl left i i_lt found room so g below-is;
        })

    child_done : {counts' : List ℕ} → Added g M y counts counts'
        → Plus (λ k. sum_over (below h M.p (x.left - 1) k) (take (i + 1) digits)) M.exponent counts₀ counts'
    child_done {counts'} a =
        digits-next h M.p (x.left - 1) digits refl left i i_lt found room so g below-is
        (subst (λ (z : Node). Added g M z counts counts') e a)

pub count_digits-loop-zero-init : goal.count_digits-loop-zero-init
count_digits-loop-zero-init t c = digits-none _ _ _ _ _

pub count_digits-shift-requires : goal.count_digits-shift-requires
count_digits-shift-requires t c =
    let P = c.requires.0 in
    let I = P.at.modulus in
    let few : c.min-cap.result ≤ 65 = omega (arith, c.min-cap.ensures, P.at.short) in
    let digits = take c.zero_digits-number.result c.zero_digits-number.new.zeros in
    let low = digit_lt P digits c.loop-zero.zero-index c.zero_digits-number.ensures.1 c.loop-zero-test.true in
    let some = degree_modulo-lt c.args.over.p c.args.h.now P.nonzero in (
      omega (arith, blank-long few, c.min-cap.ensures, P.precise, some),
      modulus_pos I,
      I.fits,
      omega (arith, low, I.small),
      omega (arith, I.small),
      replicate_taken 0 65 c.min-cap.result,
    )

pub count_digits-child-requires : goal.count_digits-child-requires
count_digits-child-requires t c =
    let P = c.requires.0 in
    let digits = take c.zero_digits-number.result c.zero_digits-number.new.zeros in (
      P.at.node,
      P.deep,
      digit_lt P digits c.loop-zero.zero-index c.zero_digits-number.ensures.1 c.loop-zero-test.true,
    )

pub count_digits-count_class-requires : goal.count_digits-count_class-requires
count_digits-count_class-requires t c =
    let P = c.requires.0 in
    let digits = take c.zero_digits-number.result c.zero_digits-number.new.zeros in (
      omega (arith, c.decreases, P.deep, ap (λ (y : Node). y.left) c.child.ensures),
      (
        child_there P digits c.loop-zero.zero-index c.zero_digits-number.ensures.1 c.loop-zero-test.true c.min-cap.ensures c.shift.auto.g
            c.shift.ensures c.child.ensures,
        child_room P digits c.loop-zero.zero-index c.zero_digits-number.ensures.1 c.loop-zero-test.true c.min-cap.ensures c.shift.auto.g
            c.shift.ensures c.requires.1 c.loop-zero.invariant c.child.ensures,
      ),
    )

pub count_digits-loop-zero-preserved : goal.count_digits-loop-zero-preserved
count_digits-loop-zero-preserved t c =
    let P = c.requires.0 in
    let digits = take c.zero_digits-number.result c.zero_digits-number.new.zeros in
    child_done P digits c.loop-zero.zero-index c.zero_digits-number.ensures.1 c.loop-zero-test.true c.min-cap.ensures c.shift.auto.g
    c.shift.ensures c.requires.1 c.loop-zero.invariant c.child.ensures c.count_class.ensures

pub count_digits-returns : goal.count_digits-returns
count_digits-returns t c =
    let left : c.args.node.left ≡ suc (c.args.node.left - 1) = omega (arith, c.requires.0.deep) in
    let digits = take c.zero_digits-number.result c.zero_digits-number.new.zeros in
    let all = take_all c.loop-zero.zero-index digits c.loop-zero-test.false in
    let done = rw (all, c.zero_digits-number.ensures.1) at c.loop-zero.invariant in
    rw left (digits-all c.args.h.now c.args.over.p (c.args.node.left - 1) done)
