-- Classes with their residue of least size, as the lists of every operation hold them (02, 2.7).
use Rattle.std.specs.Prelude.{◌≡◌, true, List, map, ℕ, ◌^◌, ◌≤◌, ℤ, pos, get_or}
use Rattle.theory.specs.Polynomial.{reduce}
use Rattle.theory.specs.Centered.{is_centered, centered}
use Rattle.theory.specs.Class.{Class, class}

-- "A class's residue is from now on the whole number congruent to a modulo p^t with −p^t < 2a ≤ p^t"
pub record SignedClass : Type 0 where
  pub residue : ℤ
  pub level : ℕ

-- the class that 02 writes a/t
abbrev pub signed_class : ℤ → ℕ → SignedClass
signed_class a t = record { residue = a; level = t }

-- t is from 0 to n, and a is in that range
pub record IsSignedClass (p n : ℕ) (c : SignedClass) : Type 0 where
  pub level_fits : c.level ≤ n
  pub residue_fits : is_centered (p ^ c.level) c.residue ≡ true

-- 01's class a/t, 0 ≤ a < p^t, with its residue of least size
unfoldable pub signed : ℕ → Class → SignedClass
unfolding centered
signed p c = signed_class (centered (p ^ c.level) c.residue) c.level

-- and back, with the residue modulo p^t: members, and what two classes share, are those of 01's class
unfoldable pub natural : ℕ → SignedClass → Class
unfolding reduce
natural p c = class (reduce (p ^ c.level) c.residue) c.level

-- Lists of them

abbrev pub naturals : ℕ → List SignedClass → List Class
naturals p = map (natural p)

-- the class in slot i
abbrev pub signed_slot : List SignedClass → ℕ → SignedClass
signed_slot L i = get_or L i (signed_class (pos 0) 0)

-- the residues and the levels of a list
abbrev pub residues_of : List SignedClass → List ℤ
residues_of = map (λ (c : SignedClass). c.residue)

abbrev pub levels_of : List SignedClass → List ℕ
levels_of = map (λ (c : SignedClass). c.level)
