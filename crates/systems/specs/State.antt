-- How a system is kept in memory, and what the contract of each call says of a system that holds a model. What the fields hold nobody
-- has to believe: opening makes a system that holds the empty set, each call keeps it so, and the theorem on histories speaks of the
-- model alone.
use Rattle.std.specs.Prelude.{◌≡◌, Bool, List, [], ◌∷◌, ◌++◌, map, ℕ, ◌≤◌, ℤ, pos, length, drop, replicate, Result}
use Rattle.theory.specs.Lists.{In}
use Rattle.theory.specs.Polynomial.{roots}
use Rattle.theory.specs.SignedClass.{residues_of, levels_of}
use Rattle.theory.specs.SignedList.{signed_list}
use Rattle.theory.specs.Shortest.{count}
use Rattle.refusal.specs.declared.Refusal.{Refusal}
use Rattle.refusal.specs.Rules.{Verdict, passes, refuses, tried, value_or, rule2, rule3}
use Rattle.solver.specs.declared.Listed.{Listed}
use Rattle.systems.specs.declared.Held.{Held}
use Rattle.systems.specs.declared.Common.{Common}
use Rattle.systems.specs.declared.System.{System}
use Rattle.systems.specs.Model.{Congruence, Model, model, solves_all}
use Rattle.systems.specs.Calls.{open_verdict, add_verdict, after_add, withdraw_verdict, after_withdraw}
use Rattle.systems.specs.Calls.{fetched_of, fetched_residues, fetched_levels}

-- so many slots, of which a list takes the first
abbrev pub slots : {A : Type 0} → ℕ → A → List A → List A
slots k rest l = l ++ drop (length l) (replicate k rest)

-- the list of a set of residues, with a tag
unfoldable pub held_for : ℕ → (ℕ → Bool) → ℕ → ℕ → Held
held_for tag S p n =
    let L = signed_list S p n in
    record { tag = tag; classes = length L; residues = slots 64 (pos 0) (residues_of L); levels = slots 64 0 (levels_of L) }

-- a congruence is kept as its tag and its root list
abbrev pub held_of : ℕ → ℕ → Congruence → Held
held_of p n c = held_for c.tag (roots c.coefficients p n) p n

-- a slot that is not used
abbrev pub blank : Held
blank = record { tag = 0; classes = 0; residues = replicate 64 (pos 0); levels = replicate 64 0 }

-- the list of a set of residues, with their number
unfoldable pub common_for : (ℕ → Bool) → ℕ → ℕ → Common
common_for S p n =
    let L = signed_list S p n in
    record {
      classes = length L;
      roots = count S p n;
      residues = slots 1024 (pos 0) (residues_of L);
      levels = slots 1024 0 (levels_of L);
    }

-- the system of a model
unfoldable pub system_of : Model → System
unfolding held_for common_for
system_of M =
    record {
      p = M.p;
      n = M.n;
      count = length M.held;
      held = slots 16 blank (map (held_of M.p M.n) M.held);
      common = common_for (solves_all M.p M.n M.held) M.p M.n;
    }

-- a system that holds a model: p and n have passed their rules, at most 16 are held, and their coefficients have passed rules 2 and 3
pub record Holds (s : System) (M : Model) : Type 0 where
  pub accepted : open_verdict M.p M.n ≡ passes
  pub few : length M.held ≤ 16
  pub polynomials : (c : Congruence) → In c M.held
      → tried (rule2 (length c.coefficients) ∷ rule3 (length c.coefficients) ∷ []) ≡ passes
  pub kept : s ≡ system_of M

-- What the calls answer and leave

-- a system that is not opened
abbrev pub closed : System
closed =
    record {
      p = 0;
      n = 0;
      count = 0;
      held = replicate 16 blank;
      common = record { classes = 0; roots = 0; residues = replicate 1024 (pos 0); levels = replicate 1024 0 };
    }

-- opening gives a system that holds nothing, or the refusal
unfoldable pub opened_of : ℕ → ℕ → Result System Refusal
unfolding system_of
opened_of p n = value_or (open_verdict p n) (system_of (model p n []))

abbrev pub opened_or : Verdict → System → System → System
opened_or passes new old = new
opened_or (refuses r) new old = old

-- a lent system after opening: it holds nothing, and where p or n is refused it stays as it was
unfoldable pub opened_into : ℕ → ℕ → System → System
unfolding system_of
opened_into p n s = opened_or (open_verdict p n) (system_of (model p n [])) s

-- a lent system after a call, and the answer
pub record Changed : Type 0 where
  pub system : System
  pub outcome : Result Unit Refusal

-- adding and withdrawing, on a system that holds a model: where it is refused, the system is the one before
unfoldable pub added_of : Model → ℕ → List ℤ → Changed
unfolding system_of
added_of M tag f = record { system = system_of (after_add M tag f); outcome = value_or (add_verdict M tag f) tt }

unfoldable pub withdrawn_of : Model → ℕ → Changed
unfolding system_of
withdrawn_of M tag = record { system = system_of (after_withdraw M tag); outcome = value_or (withdraw_verdict M tag) tt }

-- The contracts. "with a state made otherwise a call still ends, and what it answers and writes is free": they speak of a system that holds
-- some model, and say nothing of any other

abbrev pub Added : System → ℕ → List ℤ → Changed → Type 0
Added s tag f r = (M : Model) → Holds s M → r ≡ added_of M tag f

abbrev pub Withdrawn : System → ℕ → Changed → Type 0
Withdrawn s tag r = (M : Model) → Holds s M → r ≡ withdrawn_of M tag

-- with the lists as lent and as left
pub record FetchedFrom (M : Model) (residues : List ℤ) (levels : List ℕ) (r : Result Listed Refusal) (residues' : List ℤ)
    (levels' : List ℕ) : Type 0 where
  pub answer : r ≡ fetched_of M (length residues) (length levels)
  pub residues_are : residues' ≡ fetched_residues M residues levels
  pub levels_are : levels' ≡ fetched_levels M residues levels

abbrev pub Fetches : System → List ℤ → List ℕ → Result Listed Refusal → List ℤ → List ℕ → Type 0
Fetches s residues levels r residues' levels' = (M : Model) → Holds s M → FetchedFrom M residues levels r residues' levels'
