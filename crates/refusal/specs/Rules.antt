-- The rules of 01's "When the solver declines" that are tests on numbers, and how rules are tried.
use Rattle.std.specs.Prelude.{Bool, true, false, not, ◌&&◌, ◌||◌, List, [], ◌∷◌, ◌++◌, ℕ, ◌+◌, ◌*◌, min, eqb, ltb, leb, length, drop, Result, Ok, Err}
use Rattle.refusal.specs.declared.Refusal.{Refusal}
use Rattle.refusal.specs.declared.Refusal.TheVariants.{NoCoefficient, TooManyCoefficients, Lengths, Point, MapTooLarge, MapLength}
use Rattle.refusal.specs.declared.Refusal.TheVariants.{TooFewSlots, BufferTooSmall, Tag, Full, PrecisionsFall}

-- what a rule says of a call
pub data Verdict : Type 0 where
  passes : Verdict
  refuses : Refusal → Verdict

-- a rule that refuses where it applies
abbrev pub rule : Bool → Refusal → Verdict
rule true r = refuses r
rule false r = passes

-- "The rules are tried by rising number, and the first that applies is the refusal"; 02 puts 14 "directly after 4", 15 and 16
-- "after rule 5" and 17 "directly after rule 5"
abbrev pub tried : List Verdict → Verdict
tried [] = passes
tried (passes ∷ rules) = tried rules
tried (refuses r ∷ rules) = refuses r

-- what an operation answers: its value, or the refusal
abbrev pub value_or : {A : Type 0} → Verdict → A → Result A Refusal
value_or passes x = Ok x
value_or (refuses r) x = Err r

-- lent memory after a call: its front is written and the rest keeps its content, and a refusal "alters no lent memory"
abbrev pub filled : {A : Type 0} → Verdict → List A → List A → List A
filled passes new old = new ++ drop (length new) old
filled (refuses r) new old = old

-- "2. There is no coefficient."
abbrev pub rule2 : ℕ → Verdict
rule2 count = rule (eqb count 0) NoCoefficient

-- "3. There are more than 65 coefficients."
abbrev pub rule3 : ℕ → Verdict
rule3 count = rule (ltb 65 count) TooManyCoefficients

-- "15, a tag already held when adding or not held when withdrawing" (02, 2.6)
abbrev pub rule15 : (applies : Bool) → Verdict
rule15 applies = rule applies Tag

-- "16, sixteen are held when adding" (02, 2.6)
abbrev pub rule16 : (held : ℕ) → Verdict
rule16 held = rule (leb 16 held) Full

-- "17, m below n or a given list of more than 64 entries" (02, 2.9): residues and levels are given, each a list
abbrev pub rule17 : (n m residues levels : ℕ) → Verdict
rule17 n m residues levels = rule (ltb m n || ltb 64 residues || ltb 64 levels) PrecisionsFall

-- "6. The lists differ in length; the place is the shortest length.", for two lists and for three
abbrev pub rule6 : ℕ → ℕ → Verdict
rule6 a b = rule (not (eqb a b)) (Lengths (min a b))

abbrev pub rule6_three : ℕ → ℕ → ℕ → Verdict
rule6_three a b c = rule (not (eqb a b && eqb a c)) (Lengths (min a (min b c)))

-- "8. The point is not below pⁿ."
abbrev pub rule8 : ℕ → ℕ → Verdict
rule8 point modulus = rule (leb modulus point) Point

-- "9. A map or a map's count is asked for with pⁿ above 524,288."
abbrev pub rule9 : ℕ → Verdict
rule9 modulus = rule (ltb 524288 modulus) MapTooLarge

-- "10. The map's length is not pⁿ / 8 rounded up."
abbrev pub rule10 : ℕ → ℕ → Verdict
rule10 bytes wanted = rule (not (eqb bytes wanted)) MapLength

-- "11. The solver's lists have fewer than k slots; the place is k."
abbrev pub rule11 : ℕ → ℕ → Verdict
rule11 slots k = rule (ltb slots k) (TooFewSlots k)

-- "12. The writer's buffer has fewer than 45 × (k + 1) bytes; the place is that number."
abbrev pub rule12 : ℕ → ℕ → Verdict
rule12 bytes k = rule (ltb bytes (45 * (k + 1))) (BufferTooSmall (45 * (k + 1)))
