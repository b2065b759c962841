-- `solver::polynomial::all_zero` meets its contract.
use mathlib.Core.Path.{◌≡◌, refl, ap, ◌∙◌}
use mathlib.Core.Bool.{Bool, ◌&&◌}
use mathlib.Core.List.{List, [], ◌∷◌}
use Prim.Native.Nat.{ℕ}
use borrow.Author.Rules.{rules}
use borrow.Author.Tests.{tests}
use lib.Dec.{eqb}
use Rattle.std.specs.List.{list_all}
use Rattle.std.proofs.lemmas.Iterator.{YieldsList-from_slice}
use Rattle.std.proofs.lemmas.Iterator.Search.{all_from_yields_List}
use Rattle.theory.specs.Degree.{all_zero, every}
use Rattle.solver.proofs.polynomial.all_zero.Goals as goal

every_all : (test : ℕ → Bool) (f : List ℕ) → list_all test f ≡ every test f
unfolding every
every_all test [] = refl
every_all test (a ∷ f) = ap (λ (b : Bool). test a && b) (every_all test f)

pub returns : goal.returns
unfolding all_zero
returns c =
    all_from_yields_List (λ (a : ℕ). eqb a 0) _ _ c.all.result c.all.ensures.ran (YieldsList-from_slice c.args.g.now cc) (λ x b q k. search (rules, tests))
    ∙ every_all (λ a. eqb a 0) c.args.g.now
