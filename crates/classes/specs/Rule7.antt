-- Rule 7 (01, "When the solver declines"): the first entry of a given list that is not usable. 02, 2.7: "Rule 7 reads this range instead of
-- the old one."
use Rattle.std.specs.Prelude.{Bool, false, not, ◌||◌, List, [], ◌∷◌, ℕ, zero, suc, ◌^◌, ltb, ℤ, length, get_or}
use Rattle.std.specs.Int.Signed.{le_z}
use Rattle.theory.specs.Range.{all_below, least}
use Rattle.theory.specs.Class.{share}
use Rattle.theory.specs.Centered.{is_centered}
use Rattle.theory.specs.SignedClass.{SignedClass, signed_class, natural, signed_slot}
use Rattle.refusal.specs.declared.Refusal.TheVariants.{Entry}
use Rattle.refusal.specs.Rules.{Verdict, rule}

-- "a list of residues and one of levels", entry by entry; it ends with the shorter
unfoldable pub classes_of : List ℤ → List ℕ → List SignedClass
classes_of [] levels = []
classes_of (a ∷ residues) [] = []
classes_of (a ∷ residues) (t ∷ levels) = signed_class a t ∷ classes_of residues levels

-- "level above n"
unfoldable pub level_above : ℕ → SignedClass → Bool
level_above n c = ltb n c.level

-- the residue is outside the range −p^t < 2a ≤ p^t
unfoldable pub residue_outside : ℕ → SignedClass → Bool
unfolding is_centered
residue_outside p c = not (is_centered (p ^ c.level) c.residue)

-- "residue not above the entry before", by the signed numbers
unfoldable pub not_above : List SignedClass → ℕ → Bool
not_above L zero = false
not_above L (suc i) = le_z (signed_slot L (suc i)).residue (signed_slot L i).residue

-- "a member shared with an earlier entry"
unfoldable pub shared_earlier : ℕ → List SignedClass → ℕ → Bool
unfolding all_below natural share
shared_earlier p L i = not (all_below (λ j. not (share p (natural p (signed_slot L j)) (natural p (signed_slot L i)))) i)

-- "(writer) a mark above 1", and 02, 2.3: "Rule 7 lets the writer take marks up to 2"
unfoldable pub mark_above : List ℕ → ℕ → Bool
mark_above marks i = ltb 2 (get_or marks i 0)

-- entry i has "level above n", a residue outside the range, "residue not above the entry before, a member shared with an earlier entry"
unfoldable pub fault_at : ℕ → ℕ → List SignedClass → ℕ → Bool
unfolding level_above residue_outside not_above shared_earlier
fault_at p n L i = level_above n (signed_slot L i) || residue_outside p (signed_slot L i) || not_above L i || shared_earlier p L i

-- "the place is the first such index"; the list's length where there is none
unfoldable pub first_fault : ℕ → ℕ → List SignedClass → ℕ
unfolding least fault_at
first_fault p n L = least (fault_at p n L) (length L) 0

-- the same with marks
unfoldable pub first_marked_fault : ℕ → ℕ → List SignedClass → List ℕ → ℕ
unfolding least fault_at mark_above
first_marked_fault p n L marks = least (λ i. fault_at p n L i || mark_above marks i) (length L) 0

-- "7. A given list has an entry with" a fault; "the place is the first such index."
unfoldable pub rule7 : ℕ → ℕ → List SignedClass → Verdict
unfolding first_fault
rule7 p n L = rule (ltb (first_fault p n L) (length L)) (Entry (first_fault p n L))

-- the same for the writer's three lists
unfoldable pub rule7_marked : ℕ → ℕ → List SignedClass → List ℕ → Verdict
unfolding first_marked_fault
rule7_marked p n L marks = rule (ltb (first_marked_fault p n L marks) (length L)) (Entry (first_marked_fault p n L marks))
