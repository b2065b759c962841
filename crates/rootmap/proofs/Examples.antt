-- 01's cases on maps, on the definitions.
use Rattle.std.specs.Prelude.{Ok, Err}
use mathlib.Core.Path.{◌≡◌, refl}
use mathlib.Core.List.{[], ◌∷◌}
use Prim.Native.Nat.{ℕ}
use lib.IntN.{pos, negsuc}
use Rattle.theory.specs.Prime.{is_composite}
use Rattle.theory.specs.Examples.{first_map}
use Rattle.refusal.specs.declared.Refusal.TheVariants.{MapTooLarge}
use Rattle.rootmap.specs.Map.{mapped_of, map_filled, counted_of}

-- "Its map is the bytes 130, 130", whatever the map held, and it has four ones; 02, 2.7: "01's printed case becomes residues −1, then 1,
-- each of level 3"
pub first_map_lem : (x y : ℕ) → map_filled 2 4 (negsuc 0 ∷ pos 1 ∷ []) (3 ∷ 3 ∷ []) (x ∷ y ∷ []) ≡ first_map
unfolding is_composite map_filled
first_map_lem x y = refl

pub first_count : counted_of 2 4 first_map ≡ Ok 4
unfolding is_composite counted_of
first_count = refl

-- 02, 2.4: "a map of 61 bits is one word with three of them", that is, of spare bits, which are 1 here
pub sixty_one_bits : counted_of 61 1 (255 ∷ 255 ∷ 255 ∷ 255 ∷ 255 ∷ 255 ∷ 255 ∷ 255 ∷ []) ≡ Ok 61
unfolding is_composite counted_of
sixty_one_bits = refl

-- "Maps: 2^19 passes with 65,536 bytes; 3^12 = 531,441 is refused 9."
pub largest-map : mapped_of 2 19 [] [] 65536 ≡ (Ok tt)
unfolding is_composite mapped_of
largest-map = refl

pub larger_map : (bytes : ℕ) → mapped_of 3 12 [] [] bytes ≡ Err MapTooLarge
unfolding is_composite mapped_of
larger_map bytes = refl
