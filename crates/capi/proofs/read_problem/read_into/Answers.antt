-- `capi::read_problem::read_into` meets its contract.
use mathlib.Core.Path.{◌≡◌}
use native.Mathlib.Omega.{arith}
use borrow.Author.Rules.{rules}
use lib.ListN.{length}
use Rattle.std.proofs.lemmas.List.{length-take}
use Rattle.capi.proofs.read_problem.read_into.Goals as goal

pub copy_from_slice-requires : goal.copy_from_slice-requires
copy_from_slice-requires c =
    let long : length c.in_ok-problem.problem.coefficients ≡ 65 = search rules in
    omega (arith, length-take 65 c.args.coefficients.now)
