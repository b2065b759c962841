-- What the writer answers, and what it leaves in the text (01, "Lent lists, map and text" and "When the solver declines").
use Rattle.std.specs.Prelude.{List, [], ◌∷◌, ◌++◌, ℕ, ◌+◌, ◌*◌, ltb, ℤ, length, Result}
use Rattle.refusal.specs.declared.Refusal.{Refusal}
use Rattle.refusal.specs.declared.Refusal.TheVariants.{BufferTooSmall}
use Rattle.refusal.specs.Rules.{Verdict, rule, tried, rule12, value_or}
use Rattle.classes.specs.Checked.{marked_rules}

-- the writer's rules, given the length of the buffer
unfoldable pub writer_verdict : ℕ → ℕ → List ℤ → List ℕ → List ℕ → ℕ → Verdict
unfolding marked_rules
writer_verdict p n residues levels marks bytes =
    tried (marked_rules p n residues levels marks ++ rule12 bytes (length residues) ∷ [])

-- a line of 45 bytes for the list, and one a class
unfoldable pub written_of : ℕ → ℕ → List ℤ → List ℕ → List ℕ → ℕ → Result ℕ Refusal
unfolding writer_verdict
written_of p n residues levels marks bytes = value_or (writer_verdict p n residues levels marks bytes) (45 * (length residues + 1))

-- the line of a refusal has 23 bytes: a buffer with fewer is refused by the rule for the writer's
unfoldable pub refusal_verdict : ℕ → Verdict
refusal_verdict bytes = rule (ltb bytes 23) (BufferTooSmall 23)

unfoldable pub refusal_written_of : ℕ → Result ℕ Refusal
unfolding refusal_verdict
refusal_written_of bytes = value_or (refusal_verdict bytes) 23
