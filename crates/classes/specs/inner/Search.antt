-- How the first fault of a list is searched for. An earlier entry may lie inside a later one (p = 3: −2/2 before 1/1), so the larger
-- classes around each entry are looked up among all entries that have no fault of their own.
use Rattle.std.specs.Prelude.{◌≡◌, Bool, true, false, ◌&&◌, ◌||◌, List, ℕ, zero, suc, ◌+◌, ◌-◌, ◌*◌, ◌/◌, ◌%◌, ◌^◌, ◌<◌, min, max, eqb, leb, ℤ, pos, negsuc, length, get_or}
use Rattle.std.specs.Int.Signed.{lt_z}
use Rattle.theory.specs.Range.{least}
use Rattle.theory.specs.Polynomial.{reduce}
use Rattle.theory.specs.Centered.{centered}
use Rattle.theory.specs.SignedClass.{SignedClass, signed_class, signed_slot}
use Rattle.classes.specs.Rule7.{level_above, residue_outside, not_above, mark_above}

-- Entries by themselves

-- the faults that an entry and the one before it show: all but a shared member
unfoldable pub unusable_at : ℕ → ℕ → List SignedClass → ℕ → Bool
unfolding level_above residue_outside not_above
unusable_at p n L i = level_above n (signed_slot L i) || residue_outside p (signed_slot L i) || not_above L i

-- how many entries, from the first on, have none of these
unfoldable pub usable_to : ℕ → ℕ → List SignedClass → ℕ
unfolding least unusable_at
usable_to p n L = least (unusable_at p n L) (length L) 0

-- A class among the first m entries

-- the first m numbers rise strictly
pub record RisingTo (l : List ℤ) (m : ℕ) : Type 0 where
  pub rises : (j k : ℕ) → j < k → k < m → lt_z (get_or l j (pos 0)) (get_or l k (pos 0)) ≡ true

-- a table that is true at the level of each entry, modulo 32
pub record Present (present : List Bool) (levels : List ℕ) : Type 0 where
  pub tells : (j : ℕ) → j < length levels → get_or present (get_or levels j 0 % 32) false ≡ true

-- the same integer
abbrev pub eq_z : ℤ → ℤ → Bool
eq_z (pos a) (pos b) = eqb a b
eq_z (pos a) (negsuc b) = false
eq_z (negsuc a) (pos b) = false
eq_z (negsuc a) (negsuc b) = eqb a b

-- the same residue and the same level
unfoldable pub same_class : SignedClass → SignedClass → Bool
same_class c d = eq_z c.residue d.residue && eqb c.level d.level

-- the first of the first m entries that is the class c, and m where none is
unfoldable pub index_of : List SignedClass → ℕ → SignedClass → ℕ
unfolding least same_class
index_of L m c = least (λ j. same_class (signed_slot L j) c) m 0

-- Overlaps

-- the class of level s that c lies in
unfoldable pub around : ℕ → SignedClass → ℕ → SignedClass
unfolding centered reduce
around p c s = signed_class (centered (p ^ s) (reduce (p ^ s) c.residue)) s

-- the later of entry i, which is below m, and the index of the class of level s around it; m where that is none of the first m entries
unfoldable pub overlap : ℕ → List SignedClass → ℕ → ℕ → ℕ → ℕ
unfolding index_of around
overlap p L m i s = max i (index_of L m (around p (signed_slot L i) s))

-- the least of d and of f at the numbers below k
unfoldable pub least_value : (ℕ → ℕ) → ℕ → ℕ → ℕ
least_value f zero d = d
least_value f (suc k) d = min (f k) (least_value f k d)

-- the least that the levels of the first k entries show, and m where they show nothing
unfoldable pub searched_to : ℕ → List SignedClass → ℕ → ℕ → ℕ
unfolding overlap least_value
searched_to p L m zero = m
searched_to p L m (suc i) = least_value (overlap p L m i) (signed_slot L i).level (searched_to p L m i)

-- Marks, and the next member

-- the first index with a mark above 2, and the length where there is none
unfoldable pub first_high_mark : List ℕ → ℕ
unfolding least mark_above
first_high_mark marks = least (mark_above marks) (length marks) 0

-- the least number at or after the point that is congruent to a modulo q: a, or a and as many times q as are needed
unfoldable pub member_from : ℕ → ℕ → ℕ → ℕ
member_from a q point = elim (leb point a) [ true ↦ a | false ↦ a + (point - a + (q - 1)) / q * q ]
