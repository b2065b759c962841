-- The map of the solver's list: its bits are the roots, and its count is the root count.
use Rattle.std.specs.Prelude.{Ok}
use mathlib.Core.Path.{◌≡◌, refl}
use Prim.Native.Nat.{ℕ, ◌^◌, ◌≤◌, ◌<◌}
use mathlib.Core.List.{List}
use lib.Dec.{eqb}
use lib.ListN.{length}
use Rattle.theory.specs.Polynomial.{roots}
use Rattle.theory.specs.RootMap.{bit, map_length}
use Rattle.theory.specs.Rival.{Rival}
use Rattle.theory.specs.SignedClass.{naturals}
use Rattle.classes.specs.Rule7.{classes_of}
use Rattle.rootmap.specs.Map.{map_filled, counted_of}
use Rattle.rootmap.proofs.Rivals.{rival-map-bit, rival-map-count}
use Rattle.stepping.specs.Call.{Input, Accepted, first_residues, first_levels, first_slots}
use Rattle.stepping.proofs.Accept.{accepted-count}
use Rattle.stepping.proofs.Demand.{third-demand, list-usable}

-- after an accepted call of the solver with pⁿ up to 524,288, with a map of the right length
module _ (x : Input) {k roots-found : ℕ} (A : Accepted x k roots-found) (small : x.p ^ x.n ≤ 524288) (old : List ℕ)
    (long : length old ≡ map_length (x.p ^ x.n)) where
  rival : Rival (roots x.f x.p x.n) x.p x.n (naturals x.p (classes_of (first_residues x k) (first_levels x k)))
  unfolding first_slots
  rival = (third-demand x A).rival.on_members

  -- bit r is 1 exactly if r is a root
  pub map-roots : (r : ℕ) → r < x.p ^ x.n
      → eqb (bit (map_filled x.p x.n (first_residues x k) (first_levels x k) old) r) 1 ≡ roots x.f x.p x.n r
  map-roots =
      rival-map-bit x.p x.n (first_residues x k) (first_levels x k) old (list-usable x A _ _ refl refl) small long
      (roots x.f x.p x.n) rival

  -- a map with these bits, whatever its spare bits, counts the roots: the solver's root count
  pub map-count : (map : List ℕ) → length map ≡ length old
      → ((r : ℕ) → r < x.p ^ x.n → bit map r ≡ bit (map_filled x.p x.n (first_residues x k) (first_levels x k) old) r)
      → counted_of x.p x.n map ≡ Ok roots-found
  map-count map same bits =
      rw (accepted-count x A)
      (rival-map-count x.p x.n (first_residues x k) (first_levels x k) old (list-usable x A _ _ refl refl) small long
      (roots x.f x.p x.n) rival map same bits)
