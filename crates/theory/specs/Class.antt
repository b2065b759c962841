-- Classes of residues (01, "Classes, levels and D").
use Rattle.std.specs.Prelude.{◌≡◌, Bool, ℕ, ◌-◌, ◌%◌, ◌^◌, ◌≤◌, ◌<◌, min, eqb}

-- "A class is a residue a and a level t"
pub record Class : Type 0 where
  pub residue : ℕ
  pub level : ℕ

-- the class that 01 writes a/t
abbrev pub class : ℕ → ℕ → Class
class a t = record { residue = a; level = t }

-- "with t from 0 to n and 0 ≤ a < p^t"
pub record IsClass (p n : ℕ) (c : Class) : Type 0 where
  pub level_fits : c.level ≤ n
  pub residue_fits : c.residue < p ^ c.level

-- r ≡ a mod p^t
unfoldable pub is_member : ℕ → Class → ℕ → Bool
is_member p c r = eqb (r % p ^ c.level) c.residue

-- "Its members are the residues r below pⁿ with r ≡ a mod p^t"
pub record Member (p n : ℕ) (c : Class) (r : ℕ) : Type 0 where
  pub below : r < p ^ n
  pub congruent : r % p ^ c.level ≡ c.residue

-- every member of the second is one of the first
abbrev pub Contains : ℕ → ℕ → Class → Class → Type 0
Contains p n c d = (r : ℕ) → Member p n d r → Member p n c r

-- "there are p^(n − t)"
unfoldable pub member_count : ℕ → ℕ → Class → ℕ
member_count p n c = p ^ (n - c.level)

-- two classes share a member: their residues are congruent at the lower of their levels
unfoldable pub share : ℕ → Class → Class → Bool
share p c d = eqb (c.residue % p ^ min c.level d.level) (d.residue % p ^ min c.level d.level)
