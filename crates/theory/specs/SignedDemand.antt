-- 01's "Rival lists and stepping" for lists of classes with residues of least size: "What makes a list shortest and alone of its length is
-- judged as before, on members" (02, 2.7).
use Rattle.std.specs.Prelude.{◌≡◌, Bool, List, ℕ, ◌≤◌, ◌<◌, length}
use Rattle.theory.specs.Lists.{In, Permutation}
use Rattle.theory.specs.Class.{Member}
use Rattle.theory.specs.ClassList.{members}
use Rattle.theory.specs.Rival.{Rival}
use Rattle.theory.specs.SignedClass.{SignedClass, IsSignedClass, natural, naturals, signed_slot}
use Rattle.theory.specs.Stepping.{next_in, answers_from, claimed}

-- "any list of classes with levels 0 to n", as 02 has classes, "in which every root is a member of some entry and no other residue is a
-- member of any"
pub record SignedRival (S : ℕ → Bool) (p n : ℕ) (R : List SignedClass) : Type 0 where
  pub classes : (e : SignedClass) → In e R → IsSignedClass p n e
  pub on_members : Rival S p n (naturals p R)

pub record SignedDemand (S : ℕ → Bool) (p n : ℕ) (L : List SignedClass) : Type 0 where
  -- "its first k slots are a rival"
  pub rival : SignedRival S p n L
  -- "Every rival has at least k entries"
  pub shortest_of_all : (R : List SignedClass) → SignedRival S p n R → length L ≤ length R
  -- "and one with exactly k has the same pairs of residue and level as these slots, order aside"
  pub alone : (R : List SignedClass) → SignedRival S p n R → length R ≡ length L → Permutation R L
  -- "No residue is a member of the classes in two of these slots"
  pub disjoint : (i j : ℕ) → i < length L → j < length L → (r : ℕ) → Member p n (natural p (signed_slot L i)) r
      → Member p n (natural p (signed_slot L j)) r → i ≡ j
  -- "This is a single claim about the whole row of calls, for every f, p and n accepted and every q and m"
  pub stepping : (q m : ℕ) → answers_from (next_in (members p (naturals p L)) p n) q m ≡ claimed S p n q m
