-- The tree of digits started at each class of a list whose classes share no member.
use mathlib.Core.Path.{◌≡◌, refl}
use mathlib.Core.Logic.{◌⊎◌, inl, inr}
use mathlib.Core.Bool.{Bool, ◌&&◌}
use mathlib.Core.List.{List, ◌++◌}
use Prim.Native.Nat.{ℕ, ◌+◌, ◌^◌, ◌≤◌, ◌<◌}
use native.Mathlib.Omega.{arith}
use lib.ListN.{length, length-append}
use Rattle.theory.specs.Lists.{In}
use Rattle.theory.specs.Class.{Class, Member, is_member}
use Rattle.theory.specs.ClassList.{members}
use Rattle.theory.specs.Shortest.{shortest}
use Rattle.theory.specs.Rival.{Rival}
use Rattle.theory.specs.inner.Started.{tree_below, started}
use Rattle.theory.proofs.Tests.{same_test, and_left, and_right, and_intro}
use Rattle.theory.proofs.Lists.Names.{in_left, in_right, in-cast}
use Rattle.theory.proofs.Lists.Pigeonhole.{pigeonhole}
use Rattle.theory.proofs.Classes.Concat.{in_flat, flat_in, no_repeat_flat}
use Rattle.theory.proofs.Classes.Cover.{own_member}
use Rattle.theory.proofs.Classes.Members.{member_congruent, congruent_member, members_sound, members_complete}
use Rattle.theory.proofs.Classes.Apart.{Apart}
use Rattle.theory.proofs.Classes.Under.{below-inside, below-rival, below_apart, below-listed}

module _ (S : ℕ → Bool) (p n : ℕ) (two : 2 ≤ p) (G : List Class) (apart : Apart p n G) where
  abbrev found : Class → List Class
  found = tree_below S p n

  -- what is known below a given class
  each : (c : Class) → In c G → Apart p n (found c)
  each c v = below_apart p n two c (apart.classes c v) S

  rival : (c : Class) → In c G → Rival (λ r. S r && is_member p c r) p n (found c)
  rival c v = below-rival p n two c (apart.classes c v) S

  -- two given classes below which classes have a common member are the same
  same_start : (c d e f : Class) → In c G → In d G → In e (found c) → In f (found d) → (r : ℕ) → Member p n e r → Member p n f r → c ≡ d
  same_start c d e f u v x y r me mf =
      apart.disjoint c d u v r (below-inside p n two c (apart.classes c u) S e x r me)
      (below-inside p n two d (apart.classes d v) S f y r mf)

  -- the classes found share no member
  pub started-apart : Apart p n (started S p n G)
  unfolding started
  started-apart =
      record {
        classes = λ e u. let (c, v, x) = in_flat found G e u in (each c v).classes e x;
        no_repeat =
            no_repeat_flat found G apart.no_repeat (λ c v. (each c v).no_repeat) (λ c d e u v x y.
            let own = own_member p n (omega arith) e ((each c u).classes e x) in same_start c d e e u v x y e.residue own own);
        disjoint = λ e f u v r me mf.
            let (c, w, x) = in_flat found G e u in
            let (d, z, y) = in_flat found G f v in
            (each c w).disjoint e f x (rw (same_start c d e f w z x y r me mf) y) r me mf;
      }

  -- their members are those residues of S that are members of a given class
  pub started-members : (r : ℕ) → r < p ^ n → members p (started S p n G) r ≡ (S r && members p G r)
  unfolding started
  started-members r h =
      same_test (members p (started S p n G) r) (S r && members p G r)
      (λ q.
      let (e, u, w) = members_sound p (started S p n G) r q in
      let (c, v, x) = in_flat found G e u in
      let s = (rival c v).no_other e x r (record { below = h; congruent = member_congruent p e r w }) in
      and_intro (S r) (members p G r) (and_left (S r) (is_member p c r) s)
      (members_complete p G r c v (and_right (S r) (is_member p c r) s)))
      (λ q.
      let (c, v, w) = members_sound p G r (and_right (S r) (members p G r) q) in
      let k = (rival c v).every r h (and_intro (S r) (is_member p c r) (and_left (S r) (members p G r) q) w) in
      members_complete p (started S p n G) r k.entry (flat_in found G c k.entry v k.listed)
      (congruent_member p k.entry r k.member.congruent))

  -- each is a class of S's own list or a given one
  pub started-listed : (e : Class) → In e (started S p n G) → In e (shortest S p n ++ G)
  unfolding started
  started-listed e u = let (c, v, x) = in_flat found G e u in go c v (below-listed p n two c (apart.classes c v) S e x)
    where
      go : (c : Class) → In c G → (e ≡ c) ⊎ In e (shortest S p n) → In e (shortest S p n ++ G)
      go c v (inl q) = in_right (shortest S p n) (in-cast q v)
      go c v (inr w) = in_left G w

  -- so they are no more than both together
  pub started-length : length (started S p n G) ≤ length (shortest S p n) + length G
  started-length =
      omega (
        arith,
        pigeonhole (λ (e : Class). e) (started S p n G) (shortest S p n ++ G) started-apart.no_repeat (λ e u.
            (e, started-listed e u, refl)),
        length-append (shortest S p n) G,
      )
