-- What the rules leave of a given list.
use Rattle.std.specs.Prelude.{◌≡◌, true, false, List, ℕ, ◌≤◌, ◌<◌, ℤ, length, get_or}
use Rattle.std.specs.Int.Signed.{lt_z}
use Rattle.theory.specs.Class.{share}
use Rattle.theory.specs.SignedClass.{SignedClass, IsSignedClass, natural, signed_slot}
use Rattle.refusal.specs.Rules.{passes, tried}
use Rattle.numbers.specs.inner.Usable.{Usable}
use Rattle.classes.specs.Rule7.{classes_of}
use Rattle.classes.specs.Checked.{given_rules, marked_rules}

-- each entry is a class, residues rise, and no two entries share a member
pub record Faultless (p n : ℕ) (L : List SignedClass) : Type 0 where
  pub class_at : (i : ℕ) → i < length L → IsSignedClass p n (signed_slot L i)
  pub rises : (i j : ℕ) → i < j → j < length L → lt_z (signed_slot L i).residue (signed_slot L j).residue ≡ true
  pub apart : (i j : ℕ) → i < j → j < length L → share p (natural p (signed_slot L i)) (natural p (signed_slot L j)) ≡ false

-- a list that the rules accept, with m for pⁿ
pub record UsableList (p n : ℕ) (residues : List ℤ) (levels : List ℕ) (m : ℕ) : Type 0 where
  pub accepted : tried (given_rules p n residues levels) ≡ passes
  pub modulus : Usable p n m
  pub same_length : length residues ≡ length levels
  pub faultless : Faultless p n (classes_of residues levels)
  pub few : length residues ≤ m

-- the same with marks, none of which is above 2
pub record UsableMarked (p n : ℕ) (residues : List ℤ) (levels marks : List ℕ) (m : ℕ) : Type 0 where
  pub accepted : tried (marked_rules p n residues levels marks) ≡ passes
  pub modulus : Usable p n m
  pub same_length : length residues ≡ length levels
  pub same_marks : length residues ≡ length marks
  pub faultless : Faultless p n (classes_of residues levels)
  pub few : length residues ≤ m
  pub marks_small : (i : ℕ) → i < length residues → get_or marks i 0 ≤ 2
