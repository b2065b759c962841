-- The model's answers to the row of `specs/Examples` are the ones that stand there.
use mathlib.Core.Path.{◌≡◌, refl}
use mathlib.Core.List.{[]}
use Rattle.theory.specs.Polynomial.{roots}
use Rattle.theory.specs.Shortest.{count}
use Rattle.theory.specs.SignedList.{signed_list}
use Rattle.systems.specs.Model.{model, is_held, without, solves_all, common, common_count}
use Rattle.systems.specs.Calls.{add_verdict, after_add, withdraw_verdict, after_withdraw}
use Rattle.systems.specs.Calls.{fetch_verdict, fetched_of, fetched_residues, fetched_levels}
use Rattle.systems.specs.History.{answers_of}
use Rattle.systems.specs.Examples.{example_calls, example_answers}

pub example_holds : answers_of (model 2 4 []) example_calls ≡ example_answers
unfolding example_calls example_answers answers_of is_held without solves_all common common_count roots signed_list count
    add_verdict after_add withdraw_verdict after_withdraw fetch_verdict fetched_of fetched_residues fetched_levels
example_holds = refl
