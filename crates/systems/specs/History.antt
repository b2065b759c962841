-- Histories (02, 2.6): "From opening on, each call given the state as the one before left it, every answer is that of a plain set of tagged
-- congruences".
use Rattle.std.specs.Prelude.{◌≡◌, List, [], ◌∷◌, ℕ, ℤ, length, Result, Ok}
use Rattle.refusal.specs.declared.Refusal.{Refusal}
use Rattle.refusal.specs.Rules.{value_or}
use Rattle.solver.specs.declared.Listed.{Listed}
use Rattle.systems.specs.declared.System.{System}
use Rattle.systems.specs.Model.{Model, model}
use Rattle.systems.specs.Calls.{add_verdict, after_add, withdraw_verdict, after_withdraw}
use Rattle.systems.specs.Calls.{fetched_of, fetched_residues, fetched_levels}
use Rattle.systems.specs.State.{Holds, Changed, opened_of, Added, Withdrawn, Fetches}

-- a call: fetching with the lists as lent
pub data Call : Type 0 where
  add : ℕ → List ℤ → Call
  withdraw : ℕ → Call
  fetch : List ℤ → List ℕ → Call

-- and what it gives: of fetching also the lists as left
pub data Answer : Type 0 where
  changed : Result Unit Refusal → Answer
  fetched : Result Listed Refusal → List ℤ → List ℕ → Answer

-- a row of calls by the contracts, from one system to another
pub data History : System → List Call → List Answer → System → Type 0 where
  none : (s : System) → History s [] [] s
  then_add : (s t : System) (tag : ℕ) (f : List ℤ) (r : Changed) (calls : List Call) (answers : List Answer) → Added s tag f r
      → History r.system calls answers t → History s (add tag f ∷ calls) (changed r.outcome ∷ answers) t
  then_withdraw : (s t : System) (tag : ℕ) (r : Changed) (calls : List Call) (answers : List Answer) → Withdrawn s tag r
      → History r.system calls answers t → History s (withdraw tag ∷ calls) (changed r.outcome ∷ answers) t
  then_fetch : (s t : System) (residues residues' : List ℤ) (levels levels' : List ℕ) (r : Result Listed Refusal)
      (calls : List Call) (answers : List Answer) → Fetches s residues levels r residues' levels' → History s calls answers t
      → History s (fetch residues levels ∷ calls) (fetched r residues' levels' ∷ answers) t

-- The model's answer to a call, and what it holds after it

abbrev pub answer_of : Model → Call → Answer
answer_of M (add tag f) = changed (value_or (add_verdict M tag f) tt)
answer_of M (withdraw tag) = changed (value_or (withdraw_verdict M tag) tt)
answer_of M (fetch residues levels) =
    fetched (fetched_of M (length residues) (length levels)) (fetched_residues M residues levels) (fetched_levels M residues levels)

abbrev pub after : Model → Call → Model
after M (add tag f) = after_add M tag f
after M (withdraw tag) = after_withdraw M tag
after M (fetch residues levels) = M

-- and to a row of calls
unfoldable pub answers_of : Model → List Call → List Answer
answers_of M [] = []
answers_of M (call ∷ calls) = answer_of M call ∷ answers_of (after M call) calls

unfoldable pub after_all : Model → List Call → Model
after_all M [] = M
after_all M (call ∷ calls) = after_all (after M call) calls

-- What is promised of a row of calls

-- "From opening on, each call given the state as the one before left it": the row begins with the system that an accepted opening gives
pub record FromOpening (p n : ℕ) (calls : List Call) (answers : List Answer) (s : System) : Type 0 where
  pub first : System
  pub opened : opened_of p n ≡ Ok first
  pub row : History first calls answers s

-- "every answer is that of a plain set of tagged congruences", and the last state is one to go on with
pub record AsModel (p n : ℕ) (calls : List Call) (answers : List Answer) (s : System) : Type 0 where
  pub answers_are : answers ≡ answers_of (model p n []) calls
  pub holds : Holds s (after_all (model p n []) calls)
