-- The list of the solver as 02 (2.7) has it, for any set S of residues below pⁿ: the classes of `shortest` with residues of least size,
-- "and lists rise by this signed number".
use Rattle.std.specs.Prelude.{Bool, ◌&&◌, List, map, ℕ, ◌-◌, ◌/◌, ◌^◌, ℤ}
use Rattle.std.proofs.Math.IntN.{sub_ℕ}
use Rattle.theory.specs.Range.{passing}
use Rattle.theory.specs.Polynomial.{reduce}
use Rattle.theory.specs.Centered.{is_centered}
use Rattle.theory.specs.SignedClass.{SignedClass, signed_class}
use Rattle.theory.specs.Shortest.{level_of}

-- the numbers z with −q < 2z ≤ q, rising, by their index 0, 1, …, q − 1
unfoldable pub from_lowest : ℕ → ℕ → ℤ
from_lowest q i = sub_ℕ i ((q - 1) / 2)

-- z modulo pⁿ is in S, and z is the residue of least size of its largest whole class
unfoldable pub is_signed_listed : (ℕ → Bool) → ℕ → ℕ → ℤ → Bool
unfolding reduce level_of is_centered
is_signed_listed S p n z = S (reduce (p ^ n) z) && is_centered (p ^ level_of S p n (reduce (p ^ n) z)) z

-- the class of residue z at the level of that class
unfoldable pub signed_largest : (ℕ → Bool) → ℕ → ℕ → ℤ → SignedClass
unfolding reduce level_of
signed_largest S p n z = signed_class z (level_of S p n (reduce (p ^ n) z))

-- the whole classes that lie in no larger whole class, rising by their residues of least size
unfoldable pub signed_list : (ℕ → Bool) → ℕ → ℕ → List SignedClass
unfolding passing from_lowest is_signed_listed signed_largest
signed_list S p n =
    map (λ i. signed_largest S p n (from_lowest (p ^ n) i)) (passing (λ i. is_signed_listed S p n (from_lowest (p ^ n) i)) (p ^ n) 0)
