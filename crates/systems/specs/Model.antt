-- What a system holds (02, 2.6): "a plain set of tagged congruences" under one p and n, and their common root list.
use Rattle.std.specs.Prelude.{Bool, true, false, ◌&&◌, ◌||◌, List, [], ◌∷◌, ℕ, eqb, ℤ}
use Rattle.theory.specs.Polynomial.{roots}
use Rattle.theory.specs.SignedClass.{SignedClass}
use Rattle.theory.specs.SignedList.{signed_list}
use Rattle.theory.specs.Shortest.{count}

-- a polynomial "with a 32-bit tag chosen by the user"
pub record Congruence : Type 0 where
  pub tag : ℕ
  pub coefficients : List ℤ

abbrev pub congruence : ℕ → List ℤ → Congruence
congruence tag f = record { tag = tag; coefficients = f }

-- "Up to 16 polynomials under one p and n", in the order of their coming
pub record Model : Type 0 where
  pub p : ℕ
  pub n : ℕ
  pub held : List Congruence

abbrev pub model : ℕ → ℕ → List Congruence → Model
model p n held = record { p = p; n = n; held = held }

-- the tag is held
unfoldable pub is_held : ℕ → List Congruence → Bool
is_held tag [] = false
is_held tag (c ∷ held) = eqb c.tag tag || is_held tag held

-- the set without the congruence of this tag
unfoldable pub without : ℕ → List Congruence → List Congruence
without tag [] = []
without tag (c ∷ held) = elim (eqb c.tag tag) [ true ↦ held | false ↦ c ∷ without tag held ]

-- "the residues that solve all held polynomials": every residue where none is held
unfoldable pub solves_all : ℕ → ℕ → List Congruence → ℕ → Bool
unfolding roots
solves_all p n [] r = true
solves_all p n (c ∷ held) r = roots c.coefficients p n r && solves_all p n held r

-- "The common root list": "the shortest class list" of these residues, "in 01's order, with no marks"
unfoldable pub common : Model → List SignedClass
unfolding solves_all
common M = signed_list (solves_all M.p M.n M.held) M.p M.n

-- and their number, "the root count"
unfoldable pub common_count : Model → ℕ
unfolding solves_all
common_count M = count (solves_all M.p M.n M.held) M.p M.n
