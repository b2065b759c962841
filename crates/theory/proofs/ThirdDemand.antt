-- The third demand on sets: `shortest` has all that 01 says in "Rival lists and stepping".
use mathlib.Core.Path.{◌≡◌, sym, ap, ◌∙◌, fun_ext}
use mathlib.Core.Bool.{Bool, true, false}
use mathlib.Core.List.{List}
use Prim.Native.Nat.{ℕ, ◌^◌, ◌≤◌, ◌<◌}
use native.Mathlib.Omega.{arith}
use lib.Dec.{ltb}
use Rattle.theory.specs.Class.{Class, class}
use Rattle.theory.specs.ClassList.{slot, members}
use Rattle.theory.specs.Shortest.{shortest}
use Rattle.theory.specs.Rival.{Rival}
use Rattle.theory.specs.Stepping.{Answer, refused, first_of, next_in, answers_from}
use Rattle.theory.specs.ThirdDemand.{ThirdDemand}
use Rattle.theory.proofs.Lists.Index.{in_at, same_index}
use Rattle.theory.proofs.Classes.Cover.{shortest-rival, shortest-disjoint, shortest_no_repeat}
use Rattle.theory.proofs.Classes.Rival.{rival-at-least-as-long, rival-as-long-is-shortest}
use Rattle.theory.proofs.Classes.Members.{rival_from}
use Rattle.theory.proofs.Stepping.{stepping}

module _ (S : ℕ → Bool) (p n : ℕ) (two : 2 ≤ p) where
  hp : 0 < p
  hp = omega arith

  -- next on a rival's list answers as next on the set
  pub rival-next : (R : List Class) → Rival S p n R → next_in (members p R) p n ≡ next_in S p n
  unfolding next_in
  rival-next R rival =
      fun_ext (λ q. ap (λ rs. elim (ltb q (p ^ n)) [ true ↦ first_of rs | false ↦ refused 8 0 ]) (rival_from S p n R rival q))

  pub third-demand : ThirdDemand S p n (shortest S p n)
  third-demand =
      record {
        rival = shortest-rival S p n hp;
        shortest_of_all = rival-at-least-as-long S p n hp;
        alone = λ R rival e. rival-as-long-is-shortest S p n hp R rival two (sym e);
        disjoint = λ i j hi hj r mi mj.
            same_index (shortest S p n) (class 0 0) (shortest_no_repeat S p n) i j hi hj
            (shortest-disjoint S p n hp (slot (shortest S p n) i) (slot (shortest S p n) j)
            (in_at (shortest S p n) i (class 0 0) hi) (in_at (shortest S p n) j (class 0 0) hj) r mi mj);
        stepping = λ q m.
            ap (λ (next : ℕ → Answer). answers_from next q m) (rival-next (shortest S p n) (shortest-rival S p n hp)) ∙ stepping S p n q m;
      }
