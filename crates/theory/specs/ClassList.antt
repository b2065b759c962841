-- What a list of classes says of residues: which it holds, those from a point on, and how many its classes have in all.
use Rattle.std.specs.Prelude.{Bool, false, ◌||◌, List, [], ◌∷◌, ℕ, ◌+◌, ◌-◌, ◌^◌, get_or}
use Rattle.theory.specs.Range.{passing}
use Rattle.theory.specs.Class.{Class, class, is_member}

-- the class in slot i
abbrev pub slot : List Class → ℕ → Class
slot L i = get_or L i (class 0 0)

-- r is a member of some class of the list
unfoldable pub members : ℕ → List Class → ℕ → Bool
unfolding is_member
members p [] r = false
members p (c ∷ cs) r = is_member p c r || members p cs r

-- the residues below pⁿ in S that are not below q, rising
unfoldable pub from : (ℕ → Bool) → ℕ → ℕ → ℕ → List ℕ
unfolding passing
from S p n q = passing S (p ^ n - q) q

-- "the root count is the sum of the member numbers": of classes of these levels
unfoldable pub member_total : ℕ → ℕ → List ℕ → ℕ
member_total p n [] = 0
member_total p n (t ∷ levels) = p ^ (n - t) + member_total p n levels
