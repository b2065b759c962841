-- The list of the solver, for any set S of residues below pⁿ: 01's "The list holds the whole classes that lie in no larger whole class,
-- rising by a". A set is its test; the roots of a polynomial are one such set.
use Rattle.std.specs.Prelude.{◌≡◌, Bool, true, false, ◌&&◌, List, map, ℕ, suc, ◌+◌, ◌-◌, ◌*◌, ◌%◌, ◌^◌, ◌<◌, ltb, length}
use Rattle.theory.specs.Range.{all_below, least, passing}
use Rattle.theory.specs.Class.{Class, class, IsClass, Contains}

-- "A class is whole if every member is a root": a, a + p^t, a + 2·p^t, … below pⁿ are all in S. `whole` is 01's term
unfoldable pub is_whole : (ℕ → Bool) → ℕ → ℕ → Class → Bool
unfolding all_below
is_whole S p n c = all_below (λ i. S (c.residue + i * p ^ c.level)) (p ^ (n - c.level))

-- the class of level t that r is a member of
abbrev pub class_at : ℕ → ℕ → ℕ → Class
class_at p r t = class (r % p ^ t) t

-- the level of the largest whole class that r is a member of: the least t whose class is whole
unfoldable pub level_of : (ℕ → Bool) → ℕ → ℕ → ℕ → ℕ
unfolding least is_whole
level_of S p n r = least (λ t. is_whole S p n (class_at p r t)) (suc n) 0

-- r is in S, and it is the residue of its largest whole class
unfoldable pub is_listed : (ℕ → Bool) → ℕ → ℕ → ℕ → Bool
unfolding level_of
is_listed S p n r = S r && ltb r (p ^ level_of S p n r)

-- the class of residue r at r's level
unfoldable pub largest : (ℕ → Bool) → ℕ → ℕ → ℕ → Class
unfolding level_of
largest S p n r = class r (level_of S p n r)

-- the whole classes that lie in no larger whole class, rising by residue: each is listed at its least member
unfoldable pub shortest : (ℕ → Bool) → ℕ → ℕ → List Class
unfolding passing is_listed largest
shortest S p n = map (largest S p n) (passing (is_listed S p n) (p ^ n) 0)

-- a whole class "that lies in no larger whole class": the list holds exactly these, by a theorem
pub record Maximal (S : ℕ → Bool) (p n : ℕ) (c : Class) : Type 0 where
  pub is_class : IsClass p n c
  pub whole : is_whole S p n c ≡ true
  pub in_no_larger : (d : Class) → IsClass p n d → d.level < c.level → Contains p n d c → is_whole S p n d ≡ false

-- how many residues below pⁿ are in S; of the roots, 01's "root count"
unfoldable pub count : (ℕ → Bool) → ℕ → ℕ → ℕ
unfolding passing
count S p n = length (passing S (p ^ n) 0)
