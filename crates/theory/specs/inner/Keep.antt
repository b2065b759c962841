-- The entries of a list that pass a test, in their order.
use Rattle.std.specs.Prelude.{Bool, true, false, List, [], ◌∷◌}

unfoldable pub keep : {A : Type 0} → (A → Bool) → List A → List A
keep f [] = []
keep f (x ∷ l) = elim (f x) [ true ↦ x ∷ keep f l | false ↦ keep f l ]
