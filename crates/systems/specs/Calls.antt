-- What each call answers, and what is held after it, by the model alone (02, 2.6).
use Rattle.std.specs.Prelude.{not, List, [], ◌∷◌, ◌++◌, ℕ, ℤ, length, Result}
use Rattle.theory.specs.SignedClass.{residues_of, levels_of}
use Rattle.refusal.specs.declared.Refusal.{Refusal}
use Rattle.refusal.specs.Rules.{Verdict, passes, refuses, tried, value_or, filled, rule2, rule3, rule6, rule11, rule15, rule16}
use Rattle.numbers.specs.Modulus.{modulus_rules}
use Rattle.solver.specs.declared.Listed.{Listed}
use Rattle.systems.specs.Model.{Congruence, congruence, Model, model, is_held, without, common, common_count}

-- "A refused call leaves the held set as it was."
abbrev pub held_or : Verdict → List Congruence → List Congruence → List Congruence
held_or passes new old = new
held_or (refuses r) new old = old

-- p and n are judged at opening: rules 4, 14 and 5
unfoldable pub open_verdict : ℕ → ℕ → Verdict
open_verdict p n = tried (modulus_rules p n)

-- "One may be added": rules 2 and 3 on the coefficients, then "15, a tag already held when adding", then "16, sixteen are held when adding"
unfoldable pub add_verdict : Model → ℕ → List ℤ → Verdict
add_verdict M tag f =
    tried (rule2 (length f) ∷ rule3 (length f) ∷ rule15 (is_held tag M.held) ∷ rule16 (length M.held) ∷ [])

unfoldable pub after_add : Model → ℕ → List ℤ → Model
after_add M tag f = model M.p M.n (held_or (add_verdict M tag f) (M.held ++ congruence tag f ∷ []) M.held)

-- "or withdrawn at any time": "15, a tag … not held when withdrawing"
unfoldable pub withdraw_verdict : Model → ℕ → Verdict
withdraw_verdict M tag = tried (rule15 (not (is_held tag M.held)) ∷ [])

unfoldable pub after_withdraw : Model → ℕ → Model
after_withdraw M tag = model M.p M.n (held_or (withdraw_verdict M tag) (without tag M.held) M.held)

-- "Fetching the list obeys rules 6 and 11": the lent lists have a and b slots
unfoldable pub fetch_verdict : Model → (a b : ℕ) → Verdict
fetch_verdict M a b = tried (rule6 a b ∷ rule11 a (length (common M)) ∷ [])

-- "whatever fills lists … returns k and the root count"
unfoldable pub fetched_of : Model → (a b : ℕ) → Result Listed Refusal
fetched_of M a b = value_or (fetch_verdict M a b) (record { classes = length (common M); roots = common_count M })

-- and what the lent lists hold after it
unfoldable pub fetched_residues : Model → List ℤ → List ℕ → List ℤ
fetched_residues M residues levels = filled (fetch_verdict M (length residues) (length levels)) (residues_of (common M)) residues

unfoldable pub fetched_levels : Model → List ℤ → List ℕ → List ℕ
fetched_levels M residues levels = filled (fetch_verdict M (length residues) (length levels)) (levels_of (common M)) levels
