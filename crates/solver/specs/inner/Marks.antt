-- Marks from the derivative d modulo p, by as few of its values as tell.
use Rattle.std.specs.Prelude.{true, false, not, List, ℕ, eqb}
use Rattle.theory.specs.Range.{all_below}
use Rattle.theory.specs.Polynomial.{reduce, vanishes}
use Rattle.theory.specs.SignedClass.{SignedClass}
use Rattle.theory.specs.Mark.{mark_by}

-- by the value at a
abbrev pub mark_at : ℕ → List ℕ → ℕ → ℕ
mark_at p d a = mark_by (not (vanishes p d a)) (vanishes p d a)

-- by the values at the p digits
abbrev pub mark_of_digits : ℕ → List ℕ → ℕ
mark_of_digits p d = mark_by (all_below (λ c. not (vanishes p d c)) p) (all_below (vanishes p d) p)

-- the members of a class agree modulo p at level 1 and above, and have all digits at level 0
unfoldable pub mark_from : ℕ → List ℕ → SignedClass → ℕ
unfolding reduce
mark_from p d c = elim (eqb c.level 0) [ true ↦ mark_of_digits p d | false ↦ mark_at p d (reduce p c.residue) ]
