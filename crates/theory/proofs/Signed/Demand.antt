-- The third demand for the list with residues of least size.
use mathlib.Core.Path.{◌≡◌, sym, ap, ◌∙◌}
use mathlib.Core.Bool.{Bool}
use mathlib.Core.List.Permᴰ
use mathlib.Core.List.{List}
use Prim.Native.Nat.{ℕ, ◌≤◌, ◌<◌}
use native.Mathlib.Omega.{arith}
use lib.IntN.{pos}
use lib.ListN.{length, length-map}
use Rattle.theory.specs.Lists.{In, Permutation}
use Rattle.theory.specs.Class.{Class, Member}
use Rattle.theory.specs.Rival.{Rival}
use Rattle.theory.specs.Shortest.{shortest}
use Rattle.theory.specs.Stepping.{Answer, answers_from}
use Rattle.theory.specs.SignedClass.{SignedClass, signed_class, signed, natural, naturals, signed_slot}
use Rattle.theory.specs.SignedList.{signed_list}
use Rattle.theory.specs.SignedDemand.{SignedRival, SignedDemand}
use Rattle.theory.proofs.Lists.Names.{perm-trans, perm-sym}
use Rattle.theory.proofs.Lists.Index.{in_at, same_index}
use Rattle.theory.proofs.Lists.Map.{map_in}
use Rattle.theory.proofs.Lists.Permutation.{perm_in}
use Rattle.theory.proofs.Classes.Cover.{shortest-rival, shortest-disjoint}
use Rattle.theory.proofs.Classes.Rival.{rival-at-least-as-long, rival-as-long-is-shortest}
use Rattle.theory.proofs.Stepping.{stepping}
use Rattle.theory.proofs.ThirdDemand.{rival-next}
use Rattle.theory.proofs.Signed.Classes.{signed-natural, all-signed-natural}
use Rattle.theory.proofs.Signed.List.{signed-no-repeat, signed-permutation}
use Rattle.theory.proofs.Signed.Entries.{signed-length, natural-permutation, list-class}

-- being a rival is about entries only
pub rival_permuted : (S : ℕ → Bool) (p n : ℕ) {l m : List Class} → Permutation l m → Rival S p n m → Rival S p n l
rival_permuted S p n d rival =
    record {
      classes = λ e u. rival.classes e (perm_in d u);
      every = λ r h s.
          let k = rival.every r h s in
          record { entry = k.entry; listed = perm_in (perm-sym d) k.listed; member = k.member };
      no_other = λ e u. rival.no_other e (perm_in d u);
    }

module _ (S : ℕ → Bool) (p n : ℕ) (two : 2 ≤ p) where
  hp : 0 < p
  hp = omega arith

  abbrev L : List SignedClass
  L = signed_list S p n

  pub signed-rival : SignedRival S p n L
  signed-rival =
      record {
        classes = list-class S p n hp;
        on_members = rival_permuted S p n (natural-permutation S p n hp) (shortest-rival S p n hp);
      }

  signed-alone : (R : List SignedClass) → SignedRival S p n R → length R ≡ length L → Permutation R L
  signed-alone R rival e =
      let same : length (shortest S p n) ≡ length (naturals p R) =
      omega (arith, e, signed-length S p n hp, length-map R (natural p)) in
      let d = rival-as-long-is-shortest S p n hp (naturals p R) rival.on_members two same in
      perm-trans (rw (all-signed-natural p n hp R rival.classes) at (Permᴰ.map (signed p) d)) (perm-sym (signed-permutation S p n hp))

  -- two classes of the list with a member in common are the same
  pub signed-disjoint : (c d : SignedClass) → In c L → In d L → (r : ℕ) → Member p n (natural p c) r → Member p n (natural p d) r → c ≡ d
  signed-disjoint c d u v r mc md =
      let at : (e : SignedClass) → In e L → In (natural p e) (shortest S p n) =
      λ e w. perm_in (natural-permutation S p n hp) (map_in (natural p) L e w) in
      sym (signed-natural p n hp c (list-class S p n hp c u))
      ∙ ap (signed p) (shortest-disjoint S p n hp (natural p c) (natural p d) (at c u) (at d v) r mc md)
      ∙ signed-natural p n hp d (list-class S p n hp d v)

  pub signed-demand : SignedDemand S p n L
  signed-demand =
      record {
        rival = signed-rival;
        shortest_of_all = λ R rival.
            omega (
              arith,
              signed-length S p n hp,
              rival-at-least-as-long S p n hp (naturals p R) rival.on_members,
              length-map R (natural p),
            );
        alone = signed-alone;
        disjoint = λ i j hi hj r mi mj.
            same_index L (signed_class (pos 0) 0) (signed-no-repeat S p n) i j hi hj
            (signed-disjoint (signed_slot L i) (signed_slot L j) (in_at L i (signed_class (pos 0) 0) hi)
            (in_at L j (signed_class (pos 0) 0) hj) r mi mj);
        stepping = λ q m.
            ap (λ (next : ℕ → Answer). answers_from next q m) (rival-next S p n two (naturals p L) signed-rival.on_members)
            ∙ stepping S p n q m;
      }
