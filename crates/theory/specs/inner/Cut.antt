-- Cutting: the list of the residues in two sets, from the lists of each. Of two classes with a member in common, one of each list, the
-- smaller is a class of the result, and so is each class of the result.
use Rattle.std.specs.Prelude.{Bool, false, ◌&&◌, ◌||◌, List, [], ◌∷◌, ℕ, ◌^◌, eqb, ltb, ℤ}
use Rattle.theory.specs.Polynomial.{reduce}
use Rattle.theory.specs.SignedClass.{SignedClass}

-- the residues in both sets
abbrev pub both : (ℕ → Bool) → (ℕ → Bool) → ℕ → Bool
both S T r = S r && T r

-- z is congruent to the residue of d modulo its power, and the level of d is below the limit
unfoldable pub covered_by : (p limit : ℕ) → ℤ → SignedClass → Bool
unfolding reduce
covered_by p limit z d = ltb d.level limit && eqb (reduce (p ^ d.level) z) (reduce (p ^ d.level) d.residue)

-- some class of the list is such a one
unfoldable pub covered : (p limit : ℕ) → ℤ → List SignedClass → Bool
unfolding covered_by
covered p limit z [] = false
covered p limit z (d ∷ L) = covered_by p limit z d || covered p limit z L
