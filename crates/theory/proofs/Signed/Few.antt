-- Fewer classes than p that share no member fill no larger class: joined, they stay as they are.
use mathlib.Core.Path.{◌≡◌, sym, ◌∙◌}
use mathlib.Core.Bool.{false}
use mathlib.Core.List.{List}
use Prim.Native.Nat.{ℕ, suc, ◌-◌, ◌*◌, ◌^◌, ◌≤◌, ◌<◌}
use native.Mathlib.Nat.{mul-le-mul_right, pow-succ', pow-le-pow_right}
use native.Mathlib.Decide.{dec_le, dec_lt}
use native.Mathlib.Omega.{arith}
use lib.Dec.{eqb, leb}
use lib.ListN.{length, length-map}
use borrow.Author.Tests.{eqb-true, leb-true}
use Rattle.theory.specs.Lists.{In}
use Rattle.theory.specs.Polynomial.{reduce}
use Rattle.theory.specs.ClassList.{members, member_total}
use Rattle.theory.specs.Shortest.{level_of}
use Rattle.theory.specs.SignedClass.{SignedClass, naturals, levels_of}
use Rattle.theory.specs.inner.Keep.{keep}
use Rattle.theory.specs.inner.Join.{inside_at, inside_total, adds_up, joined_level}
use Rattle.theory.proofs.Tests.{contradiction, not_holding, and_left, and_right}
use Rattle.theory.proofs.Lists.Map.{in_map}
use Rattle.theory.proofs.Lists.Keep.{in-keep, keep-length}
use Rattle.theory.proofs.Numbers.Power.{pow_pos}
use Rattle.theory.proofs.Numbers.Reduction.{reduce-lt, reduce_lower}
use Rattle.theory.proofs.Classes.Sum.{total_most}
use Rattle.theory.proofs.Classes.Apart.{Apart}
use Rattle.theory.proofs.Signed.AddsUp.{Around, level_in, own-around, one-level, entry-level, whole-adds-up, joined-level}

module _ (p n : ℕ) (hp : 0 < p) (L : List SignedClass) (apart : Apart p n (naturals p L)) (few : length L < p) where
  -- a class larger than an entry that lies in it
  module _ (d : SignedClass) (u : In d L) (t : ℕ) (h : t < d.level) where
    abbrev a : ℕ
    a = reduce (p ^ t) d.residue

    abbrev inside : List SignedClass
    inside = keep (inside_at p a t) L

    abbrev x : ℕ
    x = reduce (p ^ n) d.residue

    level_fits : d.level ≤ n
    level_fits = level_in p n hp L apart d u

    -- an entry inside is of a higher level: else it would have the residue of d as a member
    deeper : (e : SignedClass) → In e L → t ≤ e.level → reduce (p ^ t) e.residue ≡ a → t < e.level
    deeper e v l q = go (dec_le e.level t)
      where
        go : Dec (e.level ≤ t) → t < e.level
        go (no k) = omega arith
        go (yes k) =
            let s : e.level ≡ t = omega arith in
            let around : Around p e x = rw s (reduce_lower p hp t n (omega (arith, level_fits)) d.residue ∙ sym q) in
            absurd (omega (
              arith,
              s,
              one-level p n hp L apart d e u v x (reduce-lt (p ^ n) (pow_pos p hp n) d.residue)
                  (own-around p n hp L apart d u) around,
            ))

    -- so it has at most p^(n − t − 1) members
    small : (s : ℕ) → In s (levels_of inside) → p ^ (n - s) ≤ p ^ (n - suc t)
    unfolding inside_at
    small s w =
        let (e, v, q) = in_map (λ (c : SignedClass). c.level) inside s w in
        let (z, i) = in-keep (inside_at p a t) L e v in
        let b = leb t e.level in
        let c = eqb (reduce (p ^ t) e.residue) a in
        let k = deeper e z (leb-true t e.level (and_left b c i)) (eqb-true (reduce (p ^ t) e.residue) a (and_right b c i)) in
        pow-le-pow_right {n = p} hp {i = n - s} {j = n - suc t} (omega (arith, k, q))

    -- and fewer than p of them are fewer than p^(n − t)
    unfilled : adds_up p n L d.residue t ≡ false
    unfolding adds_up inside_total
    unfilled =
        not_holding (adds_up p n L d.residue t) (λ e.
        let q = p ^ (n - suc t) in
        let fewer : suc (length (levels_of inside)) ≤ p =
        omega (arith, few, length-map inside (λ (c : SignedClass). c.level), keep-length (inside_at p a t) L) in
        let one : n - t ≡ suc (n - suc t) = omega (arith, level_fits) in
        let power : p ^ (n - t) ≡ p * q = rw one (pow-succ' p (n - suc t)) in
        omega (
          arith,
          eqb-true (member_total p n (levels_of inside)) (p ^ (n - t)) e,
          total_most p n q (levels_of inside) small,
          mul-le-mul_right q fewer,
          power,
          pow_pos p hp (n - suc t),
        ))

  -- each entry keeps its level
  pub few-stay : (d : SignedClass) → In d L → joined_level p n L d.residue ≡ d.level
  few-stay d u = joined-level p n hp L apart d u ∙ go (dec_lt l d.level)
    where
      x : ℕ
      x = reduce (p ^ n) d.residue

      l : ℕ
      l = level_of (members p (naturals p L)) p n x

      go : Dec (l < d.level) → l ≡ d.level
      go (yes h) =
          let (w, k) = entry-level p n hp L apart d u x (own-around p n hp L apart d u) in
          absurd (contradiction (whole-adds-up p n hp L apart d u l k ∙ w) (unfilled d u l h))
      go (no h) = let (w, k) = entry-level p n hp L apart d u x (own-around p n hp L apart d u) in omega (arith, k)
