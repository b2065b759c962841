-- The slots of an accepted call: the class, the level and the mark in each.
use mathlib.Core.Path.{◌≡◌, sym, ap, ◌∙◌}
use mathlib.Core.Bool.{true}
use mathlib.Core.List.{List}
use Prim.Native.Nat.{ℕ, ◌<◌}
use native.Mathlib.Omega.{arith}
use lib.IntN.{pos}
use lib.ListN.{get_or}
use Rattle.theory.specs.Lists.{In}
use Rattle.theory.specs.Polynomial.{roots}
use Rattle.theory.specs.Class.{IsClass, Member}
use Rattle.theory.specs.SignedClass.{SignedClass, signed_class, natural, naturals, signed_slot}
use Rattle.theory.specs.SignedList.{signed_list}
use Rattle.theory.specs.Mark.{mark}
use Rattle.theory.proofs.Lists.Index.{in_at, index_of}
use Rattle.theory.proofs.Lists.Map.{map_in, get_d_map}
use Rattle.solver.specs.Solve.{solution}
use Rattle.stepping.specs.Call.{Input, Accepted, first_levels, first_marks, first_slots}
use Rattle.stepping.proofs.Accept.{first-levels, first-marks}
use Rattle.stepping.proofs.Demand.{slots-are, list_length, third-demand}
use Rattle.lifting.specs.Lifting.{class_in}

module _ (x : Input) {k roots-found : ℕ} (A : Accepted x k roots-found) where
  abbrev pub L : List SignedClass
  L = signed_list (roots x.f x.p x.n) x.p x.n

  abbrev none : SignedClass
  none = signed_class (pos 0) 0

  pub class-is : (i : ℕ) → class_in x k i ≡ natural x.p (signed_slot L i)
  class-is i = ap (λ (l : List SignedClass). natural x.p (signed_slot l i)) (slots-are x A)

  -- a class of the list is in a slot
  pub slot_of : (d : SignedClass) → In d L → (i : ℕ) × (i < k) × (class_in x k i ≡ natural x.p d)
  slot_of d u =
      let (i, l, e) = index_of L none d u in
      (i, omega (arith, list_length x A), class-is i ∙ ap (natural x.p) (sym e))

  module _ (i : ℕ) (low : i < k) where
    -- the level and the mark in a slot are those of its class
    pub level_in : get_or (first_levels x k) i 0 ≡ (class_in x k i).level
    unfolding solution natural
    level_in =
        ap (λ (l : List ℕ). get_or l i 0) (first-levels x A)
        ∙ get_d_map (λ (d : SignedClass). d.level) L i none 0 (omega (arith, list_length x A))
        ∙ ap (λ (l : List SignedClass). (signed_slot l i).level) (sym (slots-are x A))

    pub mark-in : get_or (first_marks x k) i 0 ≡ mark x.f x.p x.n (class_in x k i)
    unfolding solution
    mark-in =
        ap (λ (l : List ℕ). get_or l i 0) (first-marks x A)
        ∙ get_d_map (λ (d : SignedClass). mark x.f x.p x.n (natural x.p d)) L i none 0 (omega (arith, list_length x A))
        ∙ ap (mark x.f x.p x.n) (sym (class-is i))

    listed : In (class_in x k i) (naturals x.p (first_slots x k))
    listed =
        map_in (natural x.p) (first_slots x k) (signed_slot (first_slots x k) i)
        (in_at (first_slots x k) i none (omega (arith, (third-demand x A).slots)))

    pub class-fits : IsClass x.p x.n (class_in x k i)
    class-fits = (third-demand x A).rival.on_members.classes (class_in x k i) listed

    -- its members are roots
    pub member-root : (r : ℕ) → Member x.p x.n (class_in x k i) r → roots x.f x.p x.n r ≡ true
    member-root = (third-demand x A).rival.on_members.no_other (class_in x k i) listed
