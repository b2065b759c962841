-- The root map of a given list, and a map's count (01, "Lent lists, map and text" and "When the solver declines").
use Rattle.std.specs.Prelude.{List, [], ◌∷◌, ◌++◌, ℕ, ◌^◌, ℤ, length, Result}
use Rattle.refusal.specs.declared.Refusal.{Refusal}
use Rattle.theory.specs.RootMap.{map_length, root_map, ones}
use Rattle.theory.specs.SignedClass.{natural, naturals}
use Rattle.refusal.specs.Rules.{Verdict, tried, filled, rule9, rule10, value_or}
use Rattle.numbers.specs.Modulus.{modulus_rules}
use Rattle.classes.specs.Rule7.{classes_of}
use Rattle.classes.specs.Checked.{given_rules}

-- rules 9 and 10, given m = pⁿ and the map's length
abbrev pub size_rules : ℕ → ℕ → List Verdict
size_rules m bytes = rule9 m ∷ rule10 bytes (map_length m) ∷ []

-- The map

-- the rules of the map of a list, given the map's length
unfoldable pub map_verdict : ℕ → ℕ → List ℤ → List ℕ → ℕ → Verdict
unfolding given_rules map_length
map_verdict p n residues levels bytes = tried (given_rules p n residues levels ++ size_rules (p ^ n) bytes)

-- the answer to a call for the map
unfoldable pub mapped_of : ℕ → ℕ → List ℤ → List ℕ → ℕ → Result Unit Refusal
unfolding map_verdict
mapped_of p n residues levels bytes = value_or (map_verdict p n residues levels bytes) tt

-- what the lent map holds after the call: "one bit a residue", "spare high bits of the last byte are zero"
unfoldable pub map_filled : ℕ → ℕ → List ℤ → List ℕ → List ℕ → List ℕ
unfolding map_verdict classes_of natural root_map
map_filled p n residues levels old =
    filled (map_verdict p n residues levels (length old)) (root_map p n (naturals p (classes_of residues levels))) old

-- The count

-- the rules of a map's count, given the map's length
unfoldable pub count_verdict : ℕ → ℕ → ℕ → Verdict
unfolding modulus_rules map_length
count_verdict p n bytes = tried (modulus_rules p n ++ size_rules (p ^ n) bytes)

-- "The map's count takes p, n and a map, and counts the ones of its first pⁿ bits, spare bits ignored"
unfoldable pub counted_of : ℕ → ℕ → List ℕ → Result ℕ Refusal
unfolding count_verdict ones
counted_of p n map = value_or (count_verdict p n (length map)) (ones p n map)
