-- The block that 01 prints for x² − 1, p = 2, n = 4, as 02 (2.7) has it: "01's printed case becomes residues −1, then 1, each of level 3".
use mathlib.Core.Path.{◌≡◌, refl}
use mathlib.Core.List.{List, [], ◌∷◌, ◌++◌}
use Prim.Native.Nat.{ℕ}
use lib.IntN.{pos, negsuc}
use lib.ListN.{replicate}
use Rattle.theory.specs.SignedClass.{signed_class}
use Rattle.refusal.specs.declared.Refusal.TheVariants.{TooFewSlots}
use Rattle.columns.specs.Column.{signed_column}
use Rattle.writer.specs.Output.{output_text, refusal_line, row_line}

-- a byte behind ten blanks
abbrev single : ℕ → List ℕ
single byte = replicate 10 32 ++ byte ∷ []

-- and behind nineteen
abbrev wide : ℕ → List ℕ
wide byte = replicate 19 32 ++ byte ∷ []

-- '1' is byte 49, '-' byte 45
pub printed_block : output_text 2 4 (signed_class (negsuc 0) 3 ∷ signed_class (pos 1) 3 ∷ []) (0 ∷ 0 ∷ [])
    ≡ single 50 ++ single 52 ++ single 50 ++ single 52 ++ 10 ∷ []
    ++ replicate 9 32 ++ 45 ∷ 49 ∷ [] ++ single 51 ++ single 50 ++ single 48 ++ 10 ∷ []
    ++ single 49 ++ single 51 ++ single 50 ++ single 48 ++ 10 ∷ []
unfolding output_text
printed_block = refl

-- −2,147,483,647, the least residue of least size modulo a number of 32 bits, takes all eleven columns
pub least_residue : signed_column 11 (negsuc 2147483646) ≡ 45 ∷ 50 ∷ 49 ∷ 52 ∷ 55 ∷ 52 ∷ 56 ∷ 51 ∷ 54 ∷ 52 ∷ 55 ∷ []
unfolding signed_column
least_residue = refl

-- "The first case with one slot: refused 11, place 2."
pub printed_refusal : refusal_line (TooFewSlots 2) ≡ replicate 9 32 ++ 49 ∷ 49 ∷ [] ++ single 50 ++ 10 ∷ []
unfolding refusal_line
printed_refusal = refl

-- the row of x² − 1 modulo 16: 1, 1, 2, 4, 4
pub printed_row : row_line (1 ∷ 1 ∷ 2 ∷ 4 ∷ 4 ∷ [])
    ≡ wide 49 ++ wide 49 ++ wide 50 ++ wide 52 ++ wide 52 ++ 10 ∷ []
unfolding row_line
printed_row = refl
