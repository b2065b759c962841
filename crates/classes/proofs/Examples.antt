-- Rule 7 and next on short lists with residues of least size (02, 2.7).
use Rattle.std.specs.Prelude.{Ok, Some}
use mathlib.Core.Path.{◌≡◌, refl}
use mathlib.Core.List.{[], ◌∷◌}
use lib.IntN.{pos, negsuc}
use Rattle.theory.specs.SignedClass.{signed_class}
use Rattle.theory.specs.Prime.{is_composite}
use Rattle.refusal.specs.declared.Refusal.TheVariants.{Entry}
use Rattle.refusal.specs.Rules.{passes, refuses}
use Rattle.classes.specs.Rule7.{rule7}
use Rattle.classes.specs.Next.{next_of}

-- −2/2 lies inside 1/1, p = 3: its member 7 is one of 1, 4, 7
pub earlier_inside_later : rule7 3 2 (signed_class (negsuc 1) 2 ∷ signed_class (pos 1) 1 ∷ []) ≡ refuses (Entry 1)
unfolding rule7
earlier_inside_later = refl

-- −1/1, whose members are 2, 5, 8, is apart from 1/1
pub apart : rule7 3 2 (signed_class (negsuc 0) 1 ∷ signed_class (pos 1) 1 ∷ []) ≡ passes
unfolding rule7
apart = refl

-- the range at p = 2: 8/4 is in it, and −8/4 is not
pub upper_end : rule7 2 4 (signed_class (pos 8) 4 ∷ []) ≡ passes
unfolding rule7
upper_end = refl

pub lower_end : rule7 2 4 (signed_class (negsuc 7) 4 ∷ []) ≡ refuses (Entry 0)
unfolding rule7
lower_end = refl

-- 1 before 7 is 01's order of 1/3 and 7/3; with residues of least size 1/3 before −1/3 is refused
pub natural_order : rule7 2 4 (signed_class (pos 1) 3 ∷ signed_class (negsuc 0) 3 ∷ []) ≡ refuses (Entry 1)
unfolding rule7
natural_order = refl

-- next on −1/3, 1/3: the roots of x² − 1 modulo 16
pub next_of-first : (next_of 2 4 (negsuc 0 ∷ pos 1 ∷ []) (3 ∷ 3 ∷ []) 0 ≡ Ok (Some 1))
    × (next_of 2 4 (negsuc 0 ∷ pos 1 ∷ []) (3 ∷ 3 ∷ []) 2 ≡ Ok (Some 7))
    × (next_of 2 4 (negsuc 0 ∷ pos 1 ∷ []) (3 ∷ 3 ∷ []) 10 ≡ Ok (Some 15))
unfolding next_of is_composite
next_of-first = (refl, refl, refl)
