-- Rivals: none is shorter than `shortest`, and one of its length is `shortest` in some order.
use mathlib.Core.Path.{◌≡◌, refl, sym, ap, ◌∙◌, subst}
use mathlib.Core.Bool.{Bool, true}
use mathlib.Core.List.{List, map}
use Prim.Native.Nat.{ℕ, ◌+◌, ◌-◌, ◌%◌, ◌^◌, ◌≤◌, ◌<◌}
use native.Mathlib.Nat.{mod-mod_of_dvd, mod-eq_of_lt, mod-lt, pow-le-pow_right, add-mod_right, mod-eq-sub-mod, lt_of_lt_of_le, le_of_lt}
use native.Mathlib.Nat.{lt_of_not-le}
use native.Mathlib.Decide.{dec_le}
use native.Mathlib.Omega.{arith}
use lib.ListN.{length}
use Rattle.theory.specs.Lists.{In, Permutation}
use Rattle.theory.specs.Class.{Class, Member}
use Rattle.theory.specs.Shortest.{is_whole, class_at, level_of, shortest}
use Rattle.theory.specs.Rival.{Rival}
use Rattle.theory.proofs.Lists.Names.{perm-sym}
use Rattle.theory.proofs.Lists.Map.{map_in, map_kept}
use Rattle.theory.proofs.Lists.NoRepeat.{injective_on}
use Rattle.theory.proofs.Lists.Permutation.{perm_in, perm_no_repeat}
use Rattle.theory.proofs.Lists.Pigeonhole.{pigeonhole, pigeonhole-full}
use Rattle.theory.proofs.Numbers.Power.{pow_pos, pow-lt, pow_dvd}
use Rattle.theory.proofs.Classes.Equal.{class_equal}
use Rattle.theory.proofs.Classes.Whole.{whole-intro}
use Rattle.theory.proofs.Classes.Level.{level-whole, level-constant}
use Rattle.theory.proofs.Classes.Cover.{own_member, listed, shortest-sound, shortest-disjoint, shortest_no_repeat}

-- b and b + x, 0 < x < y, differ modulo y
moved : (b x y : ℕ) → 0 < x → x < y → b < y → (b + x) % y ≡ b → ⊥
moved b x y h k l e = go (dec_le y (b + x))
  where
    go : Dec (y ≤ b + x) → ⊥
    go (no f) = omega (arith, mod-eq_of_lt (lt_of_not-le f))
    go (yes f) = let q : (b + x - y) % y ≡ b + x - y = mod-eq_of_lt (omega arith) in omega (arith, mod-eq-sub-mod f)

-- the largest whole class that a whole class lies in
container : (ℕ → Bool) → ℕ → ℕ → Class → Class
container S p n e = class_at p e.residue (level_of S p n e.residue)

module _ (S : ℕ → Bool) (p n : ℕ) (hp : 0 < p) (R : List Class) (rival : Rival S p n R) where
  entry_whole : (e : Class) → In e R → is_whole S p n e ≡ true
  entry_whole e u = whole-intro S p n hp e (rival.classes e u) (rival.no_other e u)

  -- a member r of the entry e has e's level in `shortest`, and it is at most e's own
  entry-level : (e : Class) → In e R → (r : ℕ) → Member p n e r
      → (level_of S p n e.residue ≡ level_of S p n r) × (level_of S p n r ≤ e.level)
  entry-level e u r m =
      let fits = (rival.classes e u).level_fits in
      let w : is_whole S p n (class_at p r e.level) ≡ true = rw m.congruent (entry_whole e u) in
      (ap (level_of S p n) (sym m.congruent) ∙ level-constant S p n r e.level fits w, (level-whole S p n r e.level fits w).1)

  container-of : (e : Class) → In e R → (r : ℕ) → Member p n e r → container S p n e ≡ class_at p r (level_of S p n r)
  unfolding container
  container-of e u r m =
      let k = entry-level e u r m in
      let l = level_of S p n r in
      let q : e.residue % p ^ l ≡ r % p ^ l =
      ap (λ (x : ℕ). x % p ^ l) (sym m.congruent) ∙ mod-mod_of_dvd (p ^ l) r (pow_dvd p k.1) in
      class_equal (rw k.0 q) k.0

  -- each class of `shortest` is the container of an entry
  onto : (c : Class) → In c (shortest S p n) → (e : Class) × In e R × (c ≡ container S p n e)
  onto c m =
      let k = listed S p n hp c m in
      let own = own_member p n hp c k.is_class in
      let h = rival.every c.residue own.below (shortest-sound S p n hp c m c.residue own) in
      let q : c.residue ≡ c.residue % p ^ level_of S p n c.residue = rw k.its-level (sym own.congruent) in
      (h.entry, h.listed, class_equal q (sym k.its-level) ∙ sym (container-of h.entry h.listed c.residue h.member))

  -- "Every rival has at least k entries"
  pub rival-at-least-as-long : length (shortest S p n) ≤ length R
  rival-at-least-as-long = pigeonhole (container S p n) (shortest S p n) R (shortest_no_repeat S p n) onto

  in-container : (e : Class) → In e R → (r : ℕ) → Member p n e r → Member p n (container S p n e) r
  in-container e u r m = rw (container-of e u r m) (record { below = m.below; congruent = refl })

  module _ (two : 2 ≤ p) (as_long : length (shortest S p n) ≡ length R) where
    containers : Permutation (map (container S p n) R) (shortest S p n)
    containers = pigeonhole-full (container S p n) (shortest S p n) R (shortest_no_repeat S p n) onto as_long

    container-listed : (e : Class) → In e R → In (container S p n e) (shortest S p n)
    container-listed e u = perm_in containers (map_in (container S p n) R e u)

    -- two entries in one class of `shortest` are one
    one_each : (e d : Class) → In e R → In d R → (r : ℕ) → Member p n (container S p n e) r → Member p n d r → d ≡ e
    one_each e d u v r h k =
        injective_on (container S p n) R (perm_no_repeat (perm-sym containers) (shortest_no_repeat S p n)) d e v u
        (shortest-disjoint S p n hp (container S p n d) (container S p n e) (container-listed d v) (container-listed e u) r
        (in-container d v r k) h)

    -- so an entry holds all of its container
    holds-container : (e : Class) → In e R → (r : ℕ) → Member p n (container S p n e) r → Member p n e r
    holds-container e u r m =
        let h = rival.every r m.below (shortest-sound S p n hp (container S p n e) (container-listed e u) r m) in
        subst (λ (d : Class). Member p n d r) (one_each e h.entry u h.listed r m h.member) h.member

    -- and is not of a higher level: the residue p^l further on would be in the container and not in the entry
    not_lower : (e : Class) → In e R → ¬ (level_of S p n e.residue < e.level)
    unfolding container
    not_lower e u h =
        let l = level_of S p n e.residue in
        let k = rival.classes e u in
        let r = (e.residue + p ^ l) % p ^ e.level in
        let rm : r < p ^ e.level = mod-lt (e.residue + p ^ l) (pow_pos p hp e.level) in
        let q : r % p ^ l ≡ e.residue % p ^ l =
        mod-mod_of_dvd (p ^ l) (e.residue + p ^ l) (pow_dvd p (le_of_lt h)) ∙ add-mod_right e.residue (p ^ l) in
        let m = holds-container e u r (record { below = lt_of_lt_of_le rm (pow-le-pow_right hp k.level_fits); congruent = q }) in
        moved e.residue (p ^ l) (p ^ e.level) (pow_pos p hp l) (pow-lt p two h) k.residue_fits
        (sym (mod-eq_of_lt rm) ∙ m.congruent)

    entry-is-container : (e : Class) → In e R → container S p n e ≡ e
    unfolding container
    entry-is-container e u =
        let own = own_member p n hp e (rival.classes e u) in
        let h : level_of S p n e.residue ≡ e.level = omega (arith, not_lower e u, (entry-level e u e.residue own).1) in
        class_equal (rw h own.congruent) h

    -- "and one with exactly k has the same pairs of residue and level as these slots, order aside"
    pub rival-as-long-is-shortest : Permutation R (shortest S p n)
    rival-as-long-is-shortest =
        subst (λ (l : List Class). Permutation l (shortest S p n)) (map_kept (container S p n) R entry-is-container) containers
