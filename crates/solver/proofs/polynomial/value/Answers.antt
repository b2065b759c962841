-- `solver::polynomial::value` meets its contract.
use mathlib.Core.Path.{◌≡◌, sym, ap, ◌∙◌}
use mathlib.Core.List.{List, reverse}
use Prim.Native.Nat.{ℕ, suc, ◌+◌, ◌-◌, ◌*◌, ◌%◌, ◌<◌}
use native.Mathlib.Nat.{mod-lt, zero-mod}
use native.Mathlib.Omega.{arith}
use lib.ListN.{length, get_or, drop}
use lib.Seq.{drop-cons, drop-length}
use Rattle.std.proofs.lemmas.Iterator.Adapters.{YieldsList-from_rev_slice}
use Rattle.std.proofs.lemmas.Iterator.Consumers.{YieldsList-turn, YieldsList-end}
use Rattle.std.proofs.lemmas.List.{get_or-reverse, length-append, get_or_default, length-reverse}
use Rattle.theory.specs.Polynomial.{value}
use Rattle.theory.proofs.Numbers.Congruence.{cong_refl, cong_add, cong_mul, cong_mod}
use Rattle.solver.proofs.polynomial.value.Goals as goal

-- one step of Horner's rule, from the coefficient of index i
horner : (f : List ℕ) (i x m v : ℕ) → i < length f → v ≡ value (drop (suc i) f) x % m
    → (get_or f i 0 + x * v) % m ≡ value (drop i f) x % m
unfolding value
horner f i x m v h e =
    rw (drop-cons f i 0 h, e) (cong_add (cong_refl {x = get_or f i 0}) (cong_mul (cong_refl {x = x}) (cong_mod m _))).same

pub loop-a-init : goal.loop-a-init
unfolding value
loop-a-init c =
    let none : length c.args.g.now - 0 ≡ length c.args.g.now = omega arith in
    (tt, tt, omega arith, sym (rw (none, drop-length c.args.g.now) (zero-mod c.args.m)))

-- the last coefficient that is left
last : (f : List ℕ) (k n x m v a : ℕ) → k < length f → n ≡ suc k → a ≡ get_or (reverse f) k a → v ≡ value (drop (length f - k) f) x % m
    → (a + x * v) % m ≡ value (drop (length f - n) f) x % m
last f k n x m v a h en e w =
    let i = length f - n in
    let one : suc i ≡ length f - k = omega arith in
    let at : length f - 1 - k ≡ i = omega arith in
    let q : a ≡ get_or f i 0 = e ∙ get_or-reverse f k a h ∙ ap (λ (j : ℕ). get_or f j a) at ∙ get_or_default f i a 0 (omega arith) in
    rw q (horner f i x m v (omega arith) (rw one w))

pub loop-a-preserved : goal.loop-a-preserved
loop-a-preserved c =
    let g = c.args.g.now in
    let l = c.loop-a in
    let road = YieldsList-from_rev_slice {s = c.into_iter-a-iterator.result} g (cc) in
    let turn = YieldsList-turn road l.yielded l.a-iterator l.yielded_by c.next.result c.next.new.self c.in-Some.a c.in-Some.is c.next.ensures.steps in (
      tt,
      tt,
      mod-lt _ (omega arith),
      last g (length l.yielded) _ c.args.x c.args.m l.v c.in-Some.a.now (omega (arith, turn.0, length-reverse g)) (simp length-append (omega arith))
          turn.1 l.invariant.3,
    )

pub returns : goal.returns
returns c =
    let g = c.args.g.now in
    let l = c.loop-a in
    let road = YieldsList-from_rev_slice {s = c.into_iter-a-iterator.result} g (cc) in
    let end = YieldsList-end road l.yielded l.a-iterator l.yielded_by c.next.result c.next.new.self c.in-None.is c.next.ensures.steps in
    let none : length g - length l.yielded ≡ 0 = omega (arith, end.1, length-reverse g) in
    rw none at l.invariant.3
