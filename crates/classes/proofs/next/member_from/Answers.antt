-- `classes::next::member_from` meets its contract.
use mathlib.Core.Path.{◌≡◌, sym, ap, ◌∙◌}
use Prim.Native.Nat.{ℕ, ◌+◌, ◌-◌, ◌*◌, ◌/◌, ◌%◌, ◌≤◌, ◌<◌}
use native.Mathlib.Nat.{div-add-mod', mod-eq_of_lt}
use native.Mathlib.Decide.{dec_le}
use native.Mathlib.Omega.{arith}
use borrow.Author.Tests.{le-leb, lt-leb}
use Rattle.std.proofs.lemmas.Nat.{div-mul-add}
use Rattle.classes.specs.inner.Search.{member_from}
use Rattle.classes.proofs.next.member_from.Goals as goal

-- the least multiple of q that is d or more
multiple_is : (d q v : ℕ) → d ≤ v → v < d + q → v % q ≡ 0 → v ≡ (d + (q - 1)) / q * q
multiple_is d q v low high e =
    let k = v / q in
    let whole : v ≡ k * q = omega (arith, div-add-mod' v q, e) in
    let top : d + (q - 1) ≡ k * q + (d + (q - 1) - v) = omega (arith, whole) in
    whole ∙ ap (λ (x : ℕ). x * q) (sym (ap (λ (x : ℕ). x / q) top ∙ div-mul-add k q (d + (q - 1) - v) (omega arith)))

from_is : (a q point v : ℕ) → point - a ≤ v → v < point - a + q → v % q ≡ 0 → a + v ≡ member_from a q point
unfolding member_from
from_is a q point v low high e = go (dec_le point a)
  where
    go : Dec (point ≤ a) → a + v ≡ member_from a q point
    go (yes h) = rw (le-leb point a h, member_from) (let s : v % q ≡ v = mod-eq_of_lt (omega arith) in omega (arith, s, e))
    go (no h) = rw (lt-leb point a (omega arith), member_from) (ap (λ (x : ℕ). a + x) (multiple_is (point - a) q v low high e))

pub returns : goal.returns
returns c =
    let d : c.saturating_sub.result ≡ c.args.point - c.args.a = c.saturating_sub.ensures in
    from_is c.args.a c.args.q c.args.point c.next_multiple_of.result (omega arith) (omega arith) c.next_multiple_of.ensures.multiple
