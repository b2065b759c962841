-- Rivals, 01's term ("Rival lists and stepping"), for any set S of residues below pⁿ in place of the roots.
use Rattle.std.specs.Prelude.{◌≡◌, Bool, true, List, ℕ, ◌^◌, ◌<◌}
use Rattle.theory.specs.Lists.{In}
use Rattle.theory.specs.Class.{Class, IsClass, Member}

-- some entry of the list has the member r
pub record Holds (p n : ℕ) (R : List Class) (r : ℕ) : Type 0 where
  pub entry : Class
  pub listed : In entry R
  pub member : Member p n entry r

-- "any list of classes with levels 0 to n, in any order, repeats and overlaps allowed, in which every root is a member of some entry and
-- no other residue is a member of any"
pub record Rival (S : ℕ → Bool) (p n : ℕ) (R : List Class) : Type 0 where
  pub classes : (e : Class) → In e R → IsClass p n e
  pub every : (r : ℕ) → r < p ^ n → S r ≡ true → Holds p n R r
  pub no_other : (e : Class) → In e R → (r : ℕ) → Member p n e r → S r ≡ true
