-- `numbers::check_modulus` meets its contract.
use Rattle.std.specs.Prelude.{Err}
use mathlib.Core.Path.{◌≡◌, sym, ap, ◌∙◌}
use mathlib.Core.Logic.{⊎_elim}
use mathlib.Core.Bool.{true, false}
use Prim.Native.Nat.{ℕ, ◌≤◌}
use borrow.Author.Tests.{lt-ltb, le-ltb}
use lib.Dec.{ltb}
use Rattle.theory.proofs.Tests.{or_left, or_right}
use Rattle.theory.proofs.Numbers.Prime.{composite-on, composite-off}
use Rattle.refusal.specs.declared.Refusal.TheVariants.{Composite}
use Rattle.numbers.proofs.Rules.{out_of_range, modulus-4, modulus-14, left-to-5}
use Rattle.numbers.proofs.check_modulus.Goals as goal

pub returns-then-p-lt2 : goal.returns-then-p-lt2
returns-then-p-lt2 c =
    let p = c.args.p in
    let out : out_of_range p ≡ true =
    ⊎_elim (λ low. or_left (ltb p 2) (ltb 65535 p) (lt-ltb p 2 low)) (λ w. or_right (ltb p 2) (ltb 65535 p) (lt-ltb 65535 p w.1))
    c.then-p-lt2.either in
    sym (modulus-4 p c.args.n out)

-- past rule 4
in_range : (p : ℕ) → 2 ≤ p → p ≤ 65535 → out_of_range p ≡ false
in_range p low high = rw (le-ltb p 2 low, le-ltb 65535 p high)

pub returns-then-divisor-p : goal.returns-then-divisor-p
returns-then-divisor-p c =
    let a = c.args in
    let found = c.least_divisor-divisor.ensures in
    let composite = composite-on a.p c.if-p-lt2.false (λ e. c.if-divisor-p.true (found ∙ e)) in
    ap (λ (d : ℕ). Err (Composite d)) found ∙ sym (modulus-14 a.p a.n (in_range a.p c.if-p-lt2.false c.if-p-gt65535.false) composite)

pub returns : goal.returns
returns c =
    let a = c.args in
    let prime = composite-off a.p c.if-p-lt2.false (sym c.least_divisor-divisor.ensures ∙ c.if-divisor-p.false) in
    c.check_precision.ensures ∙ sym (left-to-5 a.p a.n (in_range a.p c.if-p-lt2.false c.if-p-gt65535.false) prime)
