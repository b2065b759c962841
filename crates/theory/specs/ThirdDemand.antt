-- 01's section "Rival lists and stepping" as one statement about a set S of residues below pⁿ and a list L of classes. For S the roots and
-- L the solver's first k slots it is the third demand.
use Rattle.std.specs.Prelude.{◌≡◌, Bool, List, ℕ, ◌≤◌, ◌<◌, length}
use Rattle.theory.specs.Lists.{Permutation}
use Rattle.theory.specs.Class.{Class, Member}
use Rattle.theory.specs.ClassList.{slot, members}
use Rattle.theory.specs.Rival.{Rival}
use Rattle.theory.specs.Stepping.{next_in, answers_from, claimed}

pub record ThirdDemand (S : ℕ → Bool) (p n : ℕ) (L : List Class) : Type 0 where
  -- "its first k slots are a rival"
  pub rival : Rival S p n L
  -- "Every rival has at least k entries"
  pub shortest_of_all : (R : List Class) → Rival S p n R → length L ≤ length R
  -- "and one with exactly k has the same pairs of residue and level as these slots, order aside"
  pub alone : (R : List Class) → Rival S p n R → length R ≡ length L → Permutation R L
  -- "No residue is a member of the classes in two of these slots"
  pub disjoint : (i j : ℕ) → i < length L → j < length L → (r : ℕ) → Member p n (slot L i) r → Member p n (slot L j) r → i ≡ j
  -- "This is a single claim about the whole row of calls, for every f, p and n accepted and every q and m"
  pub stepping : (q m : ℕ) → answers_from (next_in (members p L) p n) q m ≡ claimed S p n q m
