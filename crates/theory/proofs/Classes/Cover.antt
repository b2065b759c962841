-- The members of `shortest` are exactly S, and no residue lies in two of its classes.
use mathlib.Core.Path.{◌≡◌, refl, sym, ap, ◌∙◌}
use mathlib.Core.Bool.{Bool, true}
use Prim.Native.Nat.{ℕ, ◌%◌, ◌^◌, ◌<◌}
use native.Mathlib.Nat.{le_refl, mod-lt, mod-le, mod-eq_of_lt, pow-le-pow_right, lt_of_lt_of_le}
use native.Mathlib.Omega.{arith}
use borrow.Author.Tests.{ltb-true, lt-ltb}
use lib.Dec.{ltb}
use Rattle.theory.specs.Lists.{In}
use Rattle.theory.specs.Range.{passing}
use Rattle.theory.specs.Class.{Class, class, IsClass, Member}
use Rattle.theory.specs.Shortest.{is_whole, class_at, level_of, is_listed, largest, shortest}
use Rattle.theory.specs.Rival.{Holds, Rival}
use Rattle.theory.proofs.Tests.{and_left, and_right}
use Rattle.theory.proofs.Lists.Map.{in_map, map_in}
use Rattle.theory.proofs.Lists.NoRepeat.{NoRepeat, no_repeat_map}
use Rattle.theory.proofs.Numbers.Power.{pow_pos}
use Rattle.theory.proofs.Range.{passing_sound, passing_complete, passing_no_repeat}
use Rattle.theory.proofs.Classes.Equal.{class_equal}
use Rattle.theory.proofs.Classes.Whole.{whole-elim, whole-point}
use Rattle.theory.proofs.Classes.Level.{level-whole, level-constant}

-- the residue of a class is a member of it
pub own_member : (p n : ℕ) → 0 < p → (c : Class) → IsClass p n c → Member p n c c.residue
own_member p n hp c k =
    record {
      below = lt_of_lt_of_le k.residue_fits (pow-le-pow_right hp k.level_fits);
      congruent = mod-eq_of_lt k.residue_fits;
    }

module _ (S : ℕ → Bool) (p n : ℕ) (hp : 0 < p) where
  -- what is known of a class of the list
  pub record Listed (c : Class) : Type 0 where
    pub is_class : IsClass p n c
    pub whole : is_whole S p n c ≡ true
    pub its-level : level_of S p n c.residue ≡ c.level

  pub listed : (c : Class) → In c (shortest S p n) → Listed c
  unfolding shortest is_listed largest
  listed c m =
      let (a, u, q) = in_map (largest S p n) (passing (is_listed S p n) (p ^ n) 0) c m in
      let l = level_of S p n a in
      let w = passing_sound (is_listed S p n) (p ^ n) 0 a u in
      let small : a < p ^ n = omega (arith, w.high) in
      let k = level-whole S p n a n (le_refl n) (whole-point S p n hp a small (and_left (S a) (ltb a (p ^ l)) w.passes)) in
      let low : a < p ^ l = ltb-true a (p ^ l) (and_right (S a) (ltb a (p ^ l)) w.passes) in
      rw q (record {
        is_class = record { level_fits = k.1; residue_fits = low };
        whole = rw (mod-eq_of_lt low) at k.0;
        its-level = refl;
      })

  pub shortest-sound : (c : Class) → In c (shortest S p n) → (r : ℕ) → Member p n c r → S r ≡ true
  shortest-sound c m r h = let k = listed c m in whole-elim S p n hp c k.is_class.level_fits k.whole r h

  pub shortest-complete : (r : ℕ) → r < p ^ n → S r ≡ true → Holds p n (shortest S p n) r
  unfolding shortest is_listed largest
  shortest-complete r h s =
      let l = level_of S p n r in
      let a = r % p ^ l in
      let k = level-whole S p n r n (le_refl n) (whole-point S p n hp r h s) in
      let low : a < p ^ l = mod-lt r (pow_pos p hp l) in
      let small : a < p ^ n = omega (arith, mod-le r (p ^ l)) in
      let same : level_of S p n a ≡ l = level-constant S p n r l k.1 k.0 in
      let sa : S a ≡ true = whole-elim S p n hp (class a l) k.1 k.0 a (record { below = small; congruent = mod-eq_of_lt low }) in
      let passes : is_listed S p n a ≡ true = rw (sa, same) (lt-ltb a (p ^ l) low) in
      record {
        entry = largest S p n a;
        listed =
            map_in (largest S p n) (passing (is_listed S p n) (p ^ n) 0) a
            (passing_complete (is_listed S p n) (p ^ n) 0 a passes (omega arith) (omega arith));
        member = record { below = h; congruent = ap (λ (x : ℕ). r % p ^ x) same };
      }

  -- "its first k slots are a rival"
  pub shortest-rival : Rival S p n (shortest S p n)
  shortest-rival =
      record { classes = λ e m. (listed e m).is_class; every = shortest-complete; no_other = shortest-sound }

  -- a member's level is that of its class
  pub member-level : (c : Class) → In c (shortest S p n) → (r : ℕ) → Member p n c r → level_of S p n r ≡ c.level
  member-level c m r h =
      let k = listed c m in
      let w : is_whole S p n (class_at p r c.level) ≡ true = rw h.congruent k.whole in
      sym (level-constant S p n r c.level k.is_class.level_fits w) ∙ ap (level_of S p n) h.congruent ∙ k.its-level

  -- "No residue is a member of the classes in two of these slots"
  pub shortest-disjoint : (c d : Class) → In c (shortest S p n) → In d (shortest S p n) → (r : ℕ)
      → Member p n c r → Member p n d r → c ≡ d
  shortest-disjoint c d mc md r hc hd =
      let t : c.level ≡ d.level = sym (member-level c mc r hc) ∙ member-level d md r hd in
      class_equal (sym hc.congruent ∙ ap (λ (x : ℕ). r % p ^ x) t ∙ hd.congruent) t

pub shortest_no_repeat : (S : ℕ → Bool) (p n : ℕ) → NoRepeat (shortest S p n)
unfolding shortest largest
shortest_no_repeat S p n =
    no_repeat_map (largest S p n) (λ x y e i. (e i).residue) (passing (is_listed S p n) (p ^ n) 0)
    (passing_no_repeat (is_listed S p n) (p ^ n) 0)
