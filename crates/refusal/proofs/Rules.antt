-- Each rule's verdict, from the fact that the rule tests.
use Rattle.std.specs.Prelude.{Ok, Err}
use mathlib.Core.Path.{◌≡◌, refl, ap}
use mathlib.Core.Bool.{Bool, true, false}
use mathlib.Core.List.{List, [], ◌∷◌, ◌++◌, append-nil}
use Prim.Native.Nat.{ℕ, ◌+◌, ◌*◌, min, ◌≤◌, ◌<◌}
use native.Mathlib.Nat.{le_of_eq}
use native.Mathlib.Omega.{arith}
use lib.ListN.{length, drop_of_length-le}
use borrow.Author.Tests.{eq-eqb, ne_eqb, lt-ltb, le-ltb, le-leb, lt-leb, eqb-true}
use lib.Dec.{eqb}
use Rattle.refusal.specs.declared.Refusal.{Refusal}
use Rattle.refusal.specs.declared.Refusal.TheVariants.{NoCoefficient, TooManyCoefficients, Lengths, Point, MapTooLarge, MapLength}
use Rattle.refusal.specs.declared.Refusal.TheVariants.{TooFewSlots, BufferTooSmall, Tag, Full, PrecisionsFall}
use Rattle.refusal.specs.Rules.{Verdict, passes, refuses, tried, rule2, rule3, rule6, rule6_three, rule8, rule9, rule10, rule11}
use Rattle.refusal.specs.Rules.{rule12, rule15, rule16, rule17, rule, value_or, filled}

-- What an answer says of the rules

pub value_passes : {A : Type 0} (v : Verdict) (x y : A) → value_or v x ≡ Ok y → (v ≡ passes) × (y ≡ x)
value_passes passes x y e = (refl, cc)
value_passes (refuses r) x y e = let z : ◌≡◌ {A = ℕ} 0 1 = cc in absurd (omega arith)

pub value_refuses : {A : Type 0} (v : Verdict) (x : A) (r : Refusal) → value_or v x ≡ Err r → v ≡ refuses r
value_refuses passes x r e = let z : ◌≡◌ {A = ℕ} 0 1 = cc in absurd (omega arith)
value_refuses (refuses s) x r e = let same : s ≡ r = cc in ap refuses same

-- The rules

pub rule2_refuses : (count : ℕ) → count ≡ 0 → rule2 count ≡ refuses NoCoefficient
rule2_refuses count e = rw (eq-eqb count 0 e)

pub rule2_passes : (count : ℕ) → (count ≡ 0 → ⊥) → rule2 count ≡ passes
rule2_passes count e = rw (ne_eqb count 0 e)

pub rule3_refuses : (count : ℕ) → 65 < count → rule3 count ≡ refuses TooManyCoefficients
rule3_refuses count h = rw (lt-ltb 65 count h)

pub rule3_passes : (count : ℕ) → count ≤ 65 → rule3 count ≡ passes
rule3_passes count h = rw (le-ltb 65 count h)

pub rule15_refuses : (b : Bool) → b ≡ true → rule15 b ≡ refuses Tag
rule15_refuses b e = rw e

pub rule15_passes : (b : Bool) → b ≡ false → rule15 b ≡ passes
rule15_passes b e = rw e

pub rule16_refuses : (held : ℕ) → 16 ≤ held → rule16 held ≡ refuses Full
rule16_refuses held h = rw (le-leb 16 held h)

pub rule16_passes : (held : ℕ) → held < 16 → rule16 held ≡ passes
rule16_passes held h = rw (lt-leb 16 held h)

pub rule17_falls : (n m residues levels : ℕ) → m < n → rule17 n m residues levels ≡ refuses PrecisionsFall
rule17_falls n m residues levels h = rw (lt-ltb m n h)

pub rule17-residues : (n m residues levels : ℕ) → n ≤ m → 64 < residues → rule17 n m residues levels ≡ refuses PrecisionsFall
rule17-residues n m residues levels h k = rw (le-ltb m n h, lt-ltb 64 residues k)

pub rule17-levels : (n m residues levels : ℕ) → n ≤ m → residues ≤ 64 → 64 < levels → rule17 n m residues levels ≡ refuses PrecisionsFall
rule17-levels n m residues levels h k l = rw (le-ltb m n h, le-ltb 64 residues k, lt-ltb 64 levels l)

pub rule17_passes : (n m residues levels : ℕ) → n ≤ m → residues ≤ 64 → levels ≤ 64 → rule17 n m residues levels ≡ passes
rule17_passes n m residues levels h k l = rw (le-ltb m n h, le-ltb 64 residues k, le-ltb 64 levels l)

pub rule6_refuses : (a b : ℕ) → (a ≡ b → ⊥) → rule6 a b ≡ refuses (Lengths (min a b))
rule6_refuses a b h = rw (ne_eqb a b h)

pub rule6_passes : (a b : ℕ) → a ≡ b → rule6 a b ≡ passes
rule6_passes a b e = rw (eq-eqb a b e)

-- three lists that are not of one length
pub rule6_three_refuses : (a b c : ℕ) → (a ≡ b → a ≡ c → ⊥) → rule6_three a b c ≡ refuses (Lengths (min a (min b c)))
rule6_three_refuses a b c h = go (eqb a b) (eqb a c) refl refl
  where
    go : (s t : Bool) → eqb a b ≡ s → eqb a c ≡ t → rule6_three a b c ≡ refuses (Lengths (min a (min b c)))
    go true true d e = absurd (h (eqb-true a b d) (eqb-true a c e))
    go true false d e = rw (d, e)
    go false t d e = rw d

pub rule6_three_passes : (a b c : ℕ) → a ≡ b → a ≡ c → rule6_three a b c ≡ passes
rule6_three_passes a b c d e = rw (eq-eqb a b d, eq-eqb a c e)

pub rule8_refuses : (point modulus : ℕ) → modulus ≤ point → rule8 point modulus ≡ refuses Point
rule8_refuses point modulus h = rw (le-leb modulus point h)

pub rule8_passes : (point modulus : ℕ) → point < modulus → rule8 point modulus ≡ passes
rule8_passes point modulus h = rw (lt-leb modulus point h)

pub rule9_refuses : (modulus : ℕ) → 524288 < modulus → rule9 modulus ≡ refuses MapTooLarge
rule9_refuses modulus h = rw (lt-ltb 524288 modulus h)

pub rule9_passes : (modulus : ℕ) → modulus ≤ 524288 → rule9 modulus ≡ passes
rule9_passes modulus h = rw (le-ltb 524288 modulus h)

pub rule10_refuses : (bytes wanted : ℕ) → (bytes ≡ wanted → ⊥) → rule10 bytes wanted ≡ refuses MapLength
rule10_refuses bytes wanted h = rw (ne_eqb bytes wanted h)

pub rule10_passes : (bytes wanted : ℕ) → bytes ≡ wanted → rule10 bytes wanted ≡ passes
rule10_passes bytes wanted e = rw (eq-eqb bytes wanted e)

pub rule11_refuses : (slots k : ℕ) → slots < k → rule11 slots k ≡ refuses (TooFewSlots k)
rule11_refuses slots k h = rw (lt-ltb slots k h)

pub rule11_passes : (slots k : ℕ) → k ≤ slots → rule11 slots k ≡ passes
rule11_passes slots k h = rw (le-ltb slots k h)

pub rule12_refuses : (bytes k : ℕ) → bytes < 45 * (k + 1) → rule12 bytes k ≡ refuses (BufferTooSmall (45 * (k + 1)))
rule12_refuses bytes k h = rw (lt-ltb bytes (45 * (k + 1)) h)

pub rule12_passes : (bytes k : ℕ) → 45 * (k + 1) ≤ bytes → rule12 bytes k ≡ passes
rule12_passes bytes k h = rw (le-ltb bytes (45 * (k + 1)) h)

-- Lists of rules

-- rules that pass leave the verdict to those after them
pub tried_leads : (rules rest : List Verdict) → tried rules ≡ passes → tried (rules ++ rest) ≡ tried rest
tried_leads [] rest e = refl
tried_leads (passes ∷ rules) rest e = tried_leads rules rest e
tried_leads (refuses r ∷ rules) rest e = let z : ◌≡◌ {A = ℕ} 0 1 = cc e in absurd (omega arith)

-- a refusal is that of any longer list
pub tried_refuses : (rules rest : List Verdict) (r : Refusal) → tried rules ≡ refuses r → tried (rules ++ rest) ≡ refuses r
tried_refuses [] rest r e = let z : ◌≡◌ {A = ℕ} 0 1 = cc e in absurd (omega arith)
tried_refuses (passes ∷ rules) rest r e = tried_refuses rules rest r e
tried_refuses (refuses s ∷ rules) rest r e = e

-- rules that all pass pass part by part
pub tried-both : (rules rest : List Verdict) → tried (rules ++ rest) ≡ passes → (tried rules ≡ passes) × (tried rest ≡ passes)
tried-both [] rest e = (refl, e)
tried-both (passes ∷ rules) rest e = tried-both rules rest e
tried-both (refuses r ∷ rules) rest e = let z : ◌≡◌ {A = ℕ} 0 1 = cc e in absurd (omega arith)

pub tried-first : (v : Verdict) (rest : List Verdict) → tried (v ∷ rest) ≡ passes → (v ≡ passes) × (tried rest ≡ passes)
tried-first passes rest e = (refl, e)
tried-first (refuses r) rest e = let z : ◌≡◌ {A = ℕ} 0 1 = cc e in absurd (omega arith)

-- a rule that passes does not apply
pub rule_passes : (b : Bool) (r : Refusal) → rule b r ≡ passes → b ≡ false
rule_passes true r e = let z : ◌≡◌ {A = ℕ} 0 1 = cc in absurd (omega arith)
rule_passes false r e = refl

-- the number of coefficients passes both rules on it
pub coefficients_lead : (count : ℕ) → (count ≡ 0 → ⊥) → count ≤ 65 → (rest : List Verdict) → tried (rule2 count ∷ rule3 count ∷ rest) ≡
    tried rest
coefficients_lead count ne h rest = rw (rule2_passes count ne, rule3_passes count h)

-- memory that is written whole
pub filled_whole : {A : Type 0} (new old : List A) → length old ≡ length new → filled passes new old ≡ new
filled_whole new old e = rw (drop_of_length-le old {i = length new} (le_of_eq e)) (append-nil new)
