-- `rootmap::count_map` meets its contract.
use mathlib.Core.Path.{◌≡◌, sym, ◌∙◌}
use native.Mathlib.Omega.{arith}
use borrow.Author.Rules.{rules}
use lib.ListN.{length}
use Rattle.std.specs.Prelude.{Err}
use Rattle.theory.specs.RootMap.{map_length}
use Rattle.numbers.proofs.Rules.{usable}
use Rattle.rootmap.proofs.Verdicts.{sized, size_refused, size_known, modulus-refused, modulus_leads}
use Rattle.rootmap.proofs.Answers.{counted_is, count-refused-is}
use Rattle.rootmap.proofs.count_map.Goals as goal

pub returns-in_err-m : goal.returns-in_err-m
returns-in_err-m c =
    let a = c.args in
    let r = c.in_err-m.field-0.0 in
    let is : c.from_residual.result ≡ Err r = search rules in
    let v = modulus-refused a.p a.n (length a.map.now) r (sym c.check_modulus.ensures ∙ c.in_err-m.was) in
    is ∙ count-refused-is a.p a.n a.map.now r v

pub returns-in_err-check_size : goal.returns-in_err-check_size
returns-in_err-check_size c =
    let a = c.args in
    let m = c.in_ok-m.m in
    let r = c.in_err-check_size.field-0.0 in
    let is : c.from_residual-in_err-check_size.result ≡ Err r = search rules in
    let U = usable a.p a.n m (sym c.check_modulus.ensures ∙ c.in_ok-m.was) in
    let bytes = length a.map.now in
    let v = modulus_leads a.p a.n bytes U ∙ size_refused m bytes c.check_size.ensures c.in_err-check_size.was in
    is ∙ count-refused-is a.p a.n a.map.now r v

pub count_ones-requires : goal.count_ones-requires
unfolding map_length
count_ones-requires c =
    let s = sized c.in_ok-m.m (length c.args.map.now) c.check_size.ensures c.in_ok-check_size.was in
    (s.small, omega (arith, s.long))

pub returns : goal.returns
returns c =
    let a = c.args in
    let m = c.in_ok-m.m in
    let U = usable a.p a.n m (sym c.check_modulus.ensures ∙ c.in_ok-m.was) in
    let bytes = length a.map.now in
    let v = modulus_leads a.p a.n bytes U ∙ size_known m bytes c.check_size.ensures c.in_ok-check_size.was in
    counted_is a.p a.n a.map.now m c.count_ones.result v U.power c.count_ones.ensures
