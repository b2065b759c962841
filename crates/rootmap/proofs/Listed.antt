-- The members of a list of classes, entry after entry.
use mathlib.Core.Path.{◌≡◌, sym, ap, ◌∙◌}
use mathlib.Core.Bool.{Bool, false, ◌&&◌, ◌||◌}
use mathlib.Core.List.{List}
use Prim.Native.Nat.{ℕ, ◌+◌, ◌≤◌, ◌<◌}
use lib.Dec.{ltb}
use lib.ListN.{length, take}
use lib.Seq.{take_all}
use Rattle.theory.specs.Class.{Class, class, is_member}
use Rattle.theory.specs.ClassList.{slot, members}
use Rattle.theory.proofs.Tests.{and_none, and_or}
use Rattle.theory.proofs.Lists.Fill.{take_next}
use Rattle.theory.proofs.Classes.Members.{members_snoc}

-- r is below m and a member of one of the first i entries
abbrev pub listed_below : ℕ → List Class → ℕ → ℕ → ℕ → Bool
listed_below p L m i r = ltb r m && members p (take i L) r

pub listed_none : (p : ℕ) (L : List Class) (m r : ℕ) → listed_below p L m 0 r ≡ false
unfolding members
listed_none p L m r = and_none (ltb r m)

-- one entry more
pub listed_next : (p : ℕ) (L : List Class) (m i r : ℕ) → i < length L
    → (listed_below p L m i r || (ltb r m && is_member p (slot L i) r)) ≡ listed_below p L m (i + 1) r
listed_next p L m i r h =
    and_or (ltb r m) (members p (take i L) r) (is_member p (slot L i) r)
    ∙ ap (λ (b : Bool). ltb r m && b) (sym (members_snoc p (take i L) (slot L i) r))
    ∙ ap (λ (l : List Class). ltb r m && members p l r) (sym (take_next L i (class 0 0) h))

-- all entries
pub listed_all : (p : ℕ) (L : List Class) (m i r : ℕ) → length L ≤ i → listed_below p L m i r ≡ (ltb r m && members p L r)
listed_all p L m i r h = rw (take_all i L h)
