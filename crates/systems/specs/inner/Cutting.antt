-- Two lists cut: the lists of two sets of residues, and that of the residues in both.
use Rattle.std.specs.Prelude.{◌≡◌, Bool, true, false, ◌&&◌, ◌||◌, List, ◌++◌, ℕ, ◌+◌, ◌^◌, ◌≤◌, ◌<◌, ◌%◌, eqb, leb, ltb, ℤ, pos}
use Rattle.std.specs.Prelude.{length, get_or, set, drop}
use Rattle.std.specs.Int.Signed.{le_z}
use Rattle.theory.specs.Polynomial.{reduce}
use Rattle.theory.specs.SignedClass.{SignedClass, residues_of, levels_of}
use Rattle.theory.specs.SignedList.{signed_list}
use Rattle.theory.specs.inner.Cut.{covered}

-- the powers of p, up to pⁿ, by their exponents
pub record Powers (p n : ℕ) (table : List ℕ) : Type 0 where
  pub small : n < 32
  pub at : (t : ℕ) → t ≤ n → get_or table t 0 ≡ p ^ t

-- a number is congruent to the residue of a class modulo the table's entry for its level, which is below the limit
abbrev pub covers_by : List ℕ → ℕ → ℤ → ℤ × ℕ → Bool
covers_by table limit z (a, t) =
    let q = get_or table (t % 32) 0 in
    ltb t limit && eqb (reduce q z) (reduce q a)

-- levels up to n
pub record LevelsTo (n : ℕ) (levels : List ℕ) : Type 0 where
  pub at : (i : ℕ) → i < length levels → get_or levels i 0 ≤ n

-- of two rising lists, read from i and from j on, the next number is one of the first
unfoldable pub first_is_next : List ℤ → List ℤ → ℕ → ℕ → Bool
first_is_next a b i j = ltb i (length a) && (leb (length b) j || le_z (get_or a i (pos 0)) (get_or b j (pos 0)))

-- a class of the list contains c, and is larger where `more` is 0; where it is 1, it may be c itself
abbrev pub covers : (p more : ℕ) → List SignedClass → SignedClass → Bool
covers p more L c = covered p (c.level + more) c.residue L

-- the class c is put after the first k, where it is kept
pub record KeptIf (kept : Bool) (c : SignedClass) (k k' : ℕ) (residues residues' : List ℤ) (levels levels' : List ℕ) : Type 0 where
  pub put : kept ≡ true → k < length residues
      → (k' ≡ k + 1) × (residues' ≡ set residues k c.residue) × (levels' ≡ set levels k c.level)
  pub left : kept ≡ false → (k' ≡ k) × (residues' ≡ residues) × (levels' ≡ levels)

-- residues and levels are those of the list of a set
pub record ListOf (S : ℕ → Bool) (p n : ℕ) (residues : List ℤ) (levels : List ℕ) : Type 0 where
  pub residues_are : residues ≡ residues_of (signed_list S p n)
  pub levels_are : levels ≡ levels_of (signed_list S p n)

-- the list L is in the first slots
pub record Written (L : List SignedClass) (k : ℕ) (residues residues' : List ℤ) (levels levels' : List ℕ) : Type 0 where
  pub number : k ≡ length L
  pub residues_are : residues' ≡ residues_of L ++ drop (length L) residues
  pub levels_are : levels' ≡ levels_of L ++ drop (length L) levels
