-- "If the given list is that of f at n, result and count equal the fresh ones at m".
use mathlib.Core.Path.{◌≡◌, sym, ap, ◌∙◌, fun_ext}
use mathlib.Core.Bool.{Bool, ◌&&◌}
use mathlib.Core.List.{List}
use Prim.Native.Nat.{ℕ, ◌%◌, ◌^◌, ◌≤◌, ◌<◌}
use native.Mathlib.Nat.{mod-lt}
use lib.IntN.{ℤ}
use Rattle.theory.specs.Polynomial.{roots}
use Rattle.theory.specs.Class.{Class}
use Rattle.theory.specs.ClassList.{members}
use Rattle.theory.specs.Shortest.{count}
use Rattle.theory.specs.Rival.{Rival}
use Rattle.theory.specs.SignedClass.{naturals}
use Rattle.theory.specs.SignedList.{signed_list}
use Rattle.theory.proofs.Tests.{same_test, and_left, and_intro}
use Rattle.theory.proofs.Numbers.Power.{pow_pos}
use Rattle.theory.proofs.Classes.Cover.{shortest-rival}
use Rattle.theory.proofs.Classes.Members.{members_modulo, rival_members}
use Rattle.theory.proofs.Polynomials.Lower.{roots_lower}
use Rattle.theory.proofs.Signed.Entries.{natural-permutation}
use Rattle.theory.proofs.Signed.Demand.{rival_permuted}

module _ (f : List ℤ) (p n m : ℕ) (hp : 0 < p) (h : n ≤ m) where
  -- the list at n
  abbrev L : List Class
  L = naturals p (signed_list (roots f p n) p n)

  rival : Rival (roots f p n) p n L
  rival = rival_permuted (roots f p n) p n (natural-permutation (roots f p n) p n hp) (shortest-rival (roots f p n) p n hp)

  -- the roots modulo p^m are members of it
  pub root-listed : (r : ℕ) → (roots f p m r && members p L r) ≡ roots f p m r
  root-listed r =
      same_test (roots f p m r && members p L r) (roots f p m r) (and_left (roots f p m r) (members p L r)) (λ e.
      and_intro (roots f p m r) (members p L r) e
      (sym (members_modulo p n L (λ c u. (rival.classes c u).level_fits) r)
      ∙ rival_members (roots f p n) p n L rival (r % p ^ n) (mod-lt r (pow_pos p hp n))
      ∙ roots_lower f p n m hp h r e))

  -- so cut down to its members they are the same set
  pub raised-list-fresh : signed_list (λ r. roots f p m r && members p L r) p m ≡ signed_list (roots f p m) p m
  raised-list-fresh = ap (λ (S : ℕ → Bool). signed_list S p m) (fun_ext root-listed)

  pub raised-count-fresh : count (λ r. roots f p m r && members p L r) p m ≡ count (roots f p m) p m
  raised-count-fresh = ap (λ (S : ℕ → Bool). count S p m) (fun_ext root-listed)
