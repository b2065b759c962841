-- `solver::digits::linear` meets its contract.
use mathlib.Core.Path.{sym, ◌∙◌}
use Prim.Native.Nat.{ℕ, ◌-◌, ◌*◌, ◌%◌}
use native.Mathlib.Nat.{mod-lt}
use native.Mathlib.Omega.{arith}
use lib.ListN.{get_or}
use lib.Seq.{take-suc-set}
use Rattle.theory.proofs.Numbers.Prime.{prime_pos}
use Rattle.solver.proofs.Linear.{lead_pos, linear-zeros}
use Rattle.solver.proofs.Tables.{product_fits}
use Rattle.solver.proofs.digits.linear.Goals as goal

pub inverse-requires : goal.inverse-requires
inverse-requires c =
    let pre = c.requires in
    (lead_pos pre.4, pre.3.at 1, pre.1, pre.2)

pub returns : goal.returns
returns c =
    let a = c.args in
    let pre = c.requires in
    let i = c.inverse in
    let x : ℕ = (a.p - get_or a.g.now 0 0) * i.result in (
      omega arith,
      take-suc-set a.zeros.now 0 (x % a.p) (omega arith)
          ∙ sym (linear-zeros a.p a.g.now i.result pre.0 pre.1 pre.4 (pre.3.at 0) i.ensures.1 (mod-lt x (prime_pos pre.1))),
    )

pub overflow_mul-zeros : goal.overflow_mul-zeros
overflow_mul-zeros c = product_fits _ _ (omega arith) (omega arith)
