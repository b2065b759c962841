-- Joining: the classes of a list that share no member, made as few as they can be. A class is whole in their union exactly if the member
-- numbers of the entries inside it add up to its own, so that nothing has to look for sets of siblings.
use Rattle.std.specs.Prelude.{◌≡◌, Bool, true, ◌&&◌, List, map, ℕ, ◌-◌, ◌^◌, ◌≤◌, ◌<◌, eqb, leb, ℤ, length}
use Rattle.theory.specs.Lists.{In}
use Rattle.theory.specs.Range.{least}
use Rattle.theory.specs.Polynomial.{reduce}
use Rattle.theory.specs.Centered.{is_centered}
use Rattle.theory.specs.ClassList.{member_total}
use Rattle.theory.specs.SignedClass.{SignedClass, signed_class, levels_of}
use Rattle.theory.specs.inner.Keep.{keep}

-- the class lies inside the one of residue a modulo p^t at level t
unfoldable pub inside_at : (p a t : ℕ) → SignedClass → Bool
unfolding reduce
inside_at p a t c = leb t c.level && eqb (reduce (p ^ t) c.residue) a

-- the member numbers of such entries, added up
unfoldable pub inside_total : (p n a t : ℕ) → List SignedClass → ℕ
unfolding member_total keep inside_at
inside_total p n a t L = member_total p n (levels_of (keep (inside_at p a t) L))

-- they are as many as the class of level t around z has
unfoldable pub adds_up : ℕ → ℕ → List SignedClass → ℤ → ℕ → Bool
unfolding reduce inside_total
adds_up p n L z t = eqb (inside_total p n (reduce (p ^ t) z) t L) (p ^ (n - t))

-- the level of the largest such class
unfoldable pub joined_level : ℕ → ℕ → List SignedClass → ℤ → ℕ
unfolding least adds_up
joined_level p n L z = least (adds_up p n L z) n 0

-- that class, with the entry's residue
unfoldable pub joined_class : ℕ → ℕ → List SignedClass → SignedClass → SignedClass
unfolding joined_level
joined_class p n L c = signed_class c.residue (joined_level p n L c.residue)

-- and whether this is its residue of least size: so it is for one of the entries inside it
unfoldable pub is_first : ℕ → ℕ → List SignedClass → SignedClass → Bool
unfolding is_centered joined_level
is_first p n L c = is_centered (p ^ joined_level p n L c.residue) c.residue

-- the entries joined, in the order of the list
unfoldable pub joined : ℕ → ℕ → List SignedClass → List SignedClass
unfolding keep joined_class is_first
joined p n L = map (joined_class p n L) (keep (is_first p n L) L)

-- where there are fewer classes than p, joining leaves each at its level
pub record FewStay (p n : ℕ) (L : List SignedClass) : Type 0 where
  pub stays : length L < p → (c : SignedClass) → In c L → joined_level p n L c.residue ≡ c.level

-- the class has a level up to n, where it adds up; and where a class around its residue adds up, so does each smaller one down to it
pub record FilledDown (p n : ℕ) (L : List SignedClass) (c : SignedClass) : Type 0 where
  pub level_fits : c.level ≤ n
  pub own : adds_up p n L c.residue c.level ≡ true
  pub down : (s t : ℕ) → s ≤ t → t ≤ c.level → adds_up p n L c.residue s ≡ true → adds_up p n L c.residue t ≡ true

-- and so has each of the list
pub record AllFilledDown (p n : ℕ) (L : List SignedClass) : Type 0 where
  pub filled : (c : SignedClass) → In c L → FilledDown p n L c
