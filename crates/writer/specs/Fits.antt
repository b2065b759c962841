-- What it means that the numbers of an output have room: each has no more characters than its column, so none loses a digit.
use Rattle.std.specs.Prelude.{List, ℕ, ◌<◌, ℤ, pos, length, get_or}
use Rattle.theory.specs.Class.{member_count}
use Rattle.theory.specs.ClassList.{member_total}
use Rattle.theory.specs.SignedClass.{SignedClass, natural, signed_slot, levels_of}
use Rattle.refusal.specs.declared.Refusal.{Refusal}
use Rattle.refusal.specs.Number.{number_of, place_of}
use Rattle.refusal.specs.Rules.{Verdict, passes, refuses}
use Rattle.columns.specs.Column.{FitsColumn}

-- "all columns are 11 wide"
abbrev pub Fits : ℤ → Type 0
Fits z = FitsColumn 11 z

-- the four numbers of each line of `output_text`
pub record OutputFits (p n : ℕ) (L : List SignedClass) (marks : List ℕ) : Type 0 where
  pub prime : Fits (pos p)
  pub precision : Fits (pos n)
  pub number : Fits (pos (length L))
  pub roots : Fits (pos (member_total p n (levels_of L)))
  pub residue : (i : ℕ) → i < length L → Fits (signed_slot L i).residue
  pub level : (i : ℕ) → i < length L → Fits (pos (signed_slot L i).level)
  pub members : (i : ℕ) → i < length L → Fits (pos (member_count p n (natural p (signed_slot L i))))
  pub mark : (i : ℕ) → i < length L → Fits (pos (get_or marks i 0))

-- the two numbers of `refusal_line`
pub record RefusalFits (r : Refusal) : Type 0 where
  pub number : Fits (pos (number_of r))
  pub place : Fits (pos (place_of r))

-- those of `text_or`
abbrev pub FitsOr : Verdict → Type 0 → Type 0
FitsOr passes text = text
FitsOr (refuses r) text = RefusalFits r

-- the numbers of `row_line`: "Columns are 20 wide"
abbrev pub RowFits : List ℕ → Type 0
RowFits row = (i : ℕ) → i < length row → FitsColumn 20 (pos (get_or row i 0))
