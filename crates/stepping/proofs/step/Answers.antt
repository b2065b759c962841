-- `stepping::step` meets its contract.
use mathlib.Core.Path.{◌≡◌, ap, ◌∙◌}
use Prim.Native.Nat.{ℕ}
use native.Mathlib.Omega.{arith}
use Rattle.std.specs.Prelude.{Result, Ok, Option, Some, None}
use Rattle.refusal.specs.declared.Refusal.{Refusal}
use Rattle.theory.specs.Stepping.{following}
use Rattle.stepping.specs.Encoded.{encode}
use Rattle.stepping.proofs.step.Goals as goal

-- the answer and what it holds, as one fact
answer-is : (next : Result (Option ℕ) Refusal) (found known : Option ℕ) → next ≡ Ok found → found ≡ known → next ≡ Ok known
answer-is next found known e f = e ∙ ap Ok f

pub overflow_add-result : goal.overflow_add-result
overflow_add-result c =
    let root : c.args.next ≡ Ok (Some c.in-Ok-Some.r) =
    answer-is c.args.next c.in-Ok-Some.field-0 (Some c.in-Ok-Some.r) c.in-Ok-Some.is (rw c.in-Ok-Some.is at c.in-Ok-Some.field-0-is) in
    record { fits = omega (arith, c.requires.root_fits _ root) }

pub overflow_mul-result : goal.overflow_mul-result
overflow_mul-result c = record { fits = omega (arith, c.number.ensures, (c.requires.only_point _ c.in-Err.is).0) }

pub overflow_add-result-in-Err-2 : goal.overflow_add-result-in-Err-2
overflow_add-result-in-Err-2 c =
    let only = c.requires.only_point _ c.in-Err.is in
    record { fits = omega (arith, c.number.ensures, c.place.ensures, only.0, only.1) }

pub returns-in-Ok-Some : goal.returns-in-Ok-Some
unfolding encode following
returns-in-Ok-Some c =
    let root : c.args.next ≡ Ok (Some c.in-Ok-Some.r) =
    answer-is c.args.next c.in-Ok-Some.field-0 (Some c.in-Ok-Some.r) c.in-Ok-Some.is (rw c.in-Ok-Some.is at c.in-Ok-Some.field-0-is) in
    record { answer = rw root; point = rw root }

pub returns-in-Ok-None : goal.returns-in-Ok-None
unfolding encode following
returns-in-Ok-None c =
    let none : c.args.next ≡ Ok None =
    answer-is c.args.next c.in-Ok-None.field-0 None c.in-Ok-None.is (rw c.in-Ok-None.is at c.in-Ok-None.field-0-is) in
    record { answer = rw none; point = rw none }

pub returns-in-Err : goal.returns-in-Err
unfolding encode following
returns-in-Err c = record { answer = rw (c.in-Err.is, c.number.ensures, c.place.ensures); point = rw c.in-Err.is }
