-- Stepping, 01's term ("Rival lists and stepping"), for any set S of residues below pⁿ in place of the roots.
use Rattle.std.specs.Prelude.{Bool, true, false, not, ◌||◌, List, [], ◌∷◌, ◌++◌, map, ℕ, zero, suc, ◌+◌, ◌-◌, ◌^◌, ltb, length, take, replicate}
use Rattle.theory.specs.ClassList.{from}

-- an answer of next: a root, none, or a refusal with its number and its place
pub data Answer : Type 0 where
  root : ℕ → Answer
  none : Answer
  refused : ℕ → ℕ → Answer

-- the first of a rising list, or none
unfoldable pub first_of : List ℕ → Answer
first_of [] = none
first_of (r ∷ rs) = root r

-- "Next returns the least member at or after the point, or none", and rule 8, "The point is not below pⁿ"
unfoldable pub next_in : (ℕ → Bool) → ℕ → ℕ → ℕ → Answer
unfolding first_of from
next_in S p n q = elim (ltb q (p ^ n)) [ true ↦ first_of (from S p n q) | false ↦ refused 8 0 ]

-- "After a root r the following call gets r + 1; after none or a refusal it gets the same point again"
unfoldable pub following : Answer → ℕ → ℕ
following (root r) q = r + 1
following none q = q
following (refused number place) q = q

-- "the whole row of calls": the answers of m of them, the first of which gets q
unfoldable pub answers_from : (ℕ → Answer) → ℕ → ℕ → List Answer
unfolding following
answers_from next q zero = []
answers_from next q (suc m) = next q ∷ answers_from next (following (next q) q) m

-- "each later answer is refusal 8, place 0, where q is not below pⁿ or pⁿ − 1 is a root, and none otherwise"
unfoldable pub later : (ℕ → Bool) → ℕ → ℕ → ℕ → Answer
later S p n q = elim (not (ltb q (p ^ n)) || S (p ^ n - 1)) [ true ↦ refused 8 0 | false ↦ none ]

-- "Let N be the number of roots not below q. If m is at most N, the m answers are the m least of these roots, rising. If m is larger, the
-- first N answers are all of them, rising, and each later answer is" as above. `from S p n q` are these roots, rising, and N is its length
unfoldable pub claimed : (ℕ → Bool) → ℕ → ℕ → ℕ → ℕ → List Answer
unfolding from later
claimed S p n q m = map root (take m (from S p n q)) ++ replicate (m - length (from S p n q)) (later S p n q)
