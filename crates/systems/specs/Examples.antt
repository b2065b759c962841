-- A row of calls on a system for p = 2 and n = 4, and its answers by 02's words (2.6): a tag held twice, the same polynomial under two
-- tags, and none held.
use Rattle.std.specs.Prelude.{List, [], ◌∷◌, ℕ, ℤ, pos, negsuc, Result, Ok, Err}
use Rattle.refusal.specs.declared.Refusal.{Refusal}
use Rattle.refusal.specs.declared.Refusal.TheVariants.{Tag, TooFewSlots}
use Rattle.solver.specs.declared.Listed.{Listed}
use Rattle.systems.specs.History.{Call, add, withdraw, fetch, Answer, changed, fetched}

-- −1
abbrev minus1 : ℤ
minus1 = negsuc 0

-- x² − 1
abbrev square : List ℤ
square = minus1 ∷ pos 0 ∷ pos 1 ∷ []

-- x − 1
abbrev linear : List ℤ
linear = minus1 ∷ pos 1 ∷ []

-- three slots, with content
abbrev residues : List ℤ
residues = pos 77 ∷ pos 77 ∷ pos 77 ∷ []

abbrev levels : List ℕ
levels = 77 ∷ 77 ∷ 77 ∷ []

-- what fetching answers
abbrev found : ℕ → ℕ → Result Listed Refusal
found classes roots = Ok (record { classes = classes; roots = roots })

unfoldable pub example_calls : List Call
example_calls =
    fetch [] []
    ∷ add 7 square
    ∷ add 7 linear
    ∷ add 9 square
    ∷ withdraw 7
    ∷ fetch residues levels
    ∷ add 4 linear
    ∷ fetch residues levels
    ∷ withdraw 9
    ∷ withdraw 4
    ∷ fetch residues levels
    ∷ withdraw 9
    ∷ []

unfoldable pub example_answers : List Answer
example_answers =
    -- the list of everything needs a slot
    fetched (Err (TooFewSlots 1)) [] []
    ∷ changed (Ok tt)
    ∷ changed (Err Tag)
    ∷ changed (Ok tt)
    ∷ changed (Ok tt)
    -- x² − 1, still held as 9: −1/3 and 1/3
    ∷ fetched (found 2 4) (minus1 ∷ pos 1 ∷ pos 77 ∷ []) (3 ∷ 3 ∷ 77 ∷ [])
    ∷ changed (Ok tt)
    -- and x − 1: 1/4
    ∷ fetched (found 1 1) (pos 1 ∷ pos 77 ∷ pos 77 ∷ []) (4 ∷ 77 ∷ 77 ∷ [])
    ∷ changed (Ok tt)
    ∷ changed (Ok tt)
    -- "With none held it is everything.": 0/0
    ∷ fetched (found 1 16) (pos 0 ∷ pos 77 ∷ pos 77 ∷ []) (0 ∷ 77 ∷ 77 ∷ [])
    ∷ changed (Err Tag)
    ∷ []
