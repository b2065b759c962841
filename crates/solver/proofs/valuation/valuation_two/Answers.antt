-- `solver::valuation::valuation_two` meets its contract.
use Rattle.theory.proofs.Numbers.Valuation.{trailing_zeros}
use Rattle.solver.proofs.valuation.valuation_two.Goals as goal

pub returns : goal.returns
returns c = trailing_zeros c.args.x c.requires c.ranges.x.fits
