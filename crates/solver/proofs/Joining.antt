-- Joining the classes of a list of entries: what the loop over them keeps true.
use mathlib.Core.Path.{◌≡◌, refl, sym, ap, ◌∙◌}
use mathlib.Core.Bool.{true, false}
use mathlib.Core.List.{List, [], ◌∷◌, ◌++◌, map}
use Prim.Native.Nat.{ℕ, ◌+◌, ◌≤◌, ◌<◌}
use native.Mathlib.Omega.{arith}
use lib.ListN.{length, get_or, take, set, length-set}
use lib.Seq.{take-length}
use Rattle.theory.specs.SignedClass.{SignedClass}
use Rattle.theory.specs.inner.Keep.{keep}
use Rattle.theory.specs.inner.Join.{joined_level, joined_class, is_first, joined}
use Rattle.theory.proofs.Lists.Fill.{map-take-next, take_set_next}
use Rattle.theory.proofs.Lists.Keep.{keep-next-on, keep-next-off}
use Rattle.theory.proofs.Lists.Map.{map-append}
use Rattle.solver.specs.declared.entry.Entry.{Entry}
use Rattle.solver.specs.inner.Entry.{entry, class_of}
use Rattle.solver.proofs.Entries.{none}

module _ (p n : ℕ) (codes : List Entry) where
  abbrev L : List SignedClass
  L = map class_of codes

  -- the entries of the joined classes of these
  abbrev joined_of : List SignedClass → List Entry
  joined_of l = map entry (map (joined_class p n L) (keep (is_first p n L) l))

  -- of the first i classes joined, there are k, and they are the first entries of out
  pub record Joining (out₀ : List Entry) (i k : ℕ) (out : List Entry) : Type 0 where
    pub long : length out ≡ length out₀
    pub number : k ≤ i
    pub entries : take k out ≡ joined_of (map class_of (take i codes))

  pub joining-none : (out : List Entry) → Joining out 0 0 out
  unfolding keep
  joining-none out = record { long = refl; number = omega arith; entries = refl }

  module _ {out₀ out : List Entry} {i k : ℕ} (j : Joining out₀ i k out) (h : i < length codes) where
    abbrev x : Entry
    x = get_or codes i none

    -- at the level that it is joined to
    abbrev at : Entry
    at = record { residue = x.residue; level = joined_level p n L x.residue }

    next : map class_of (take (i + 1) codes) ≡ map class_of (take i codes) ++ (class_of x ∷ [])
    next = map-take-next class_of codes i none h

    pub joining-on : k < length out → is_first p n L (class_of x) ≡ true
        → Joining out₀ (i + 1) (k + 1) (set out k at)
    unfolding joined_class
    joining-on room e =
        let l = map class_of (take i codes) in
        record {
          long = length-set out k at ∙ j.long;
          number = omega (arith, j.number);
          entries =
              take_set_next out k at room
              ∙ ap (λ (ys : List Entry). ys ++ (at ∷ [])) j.entries
              ∙ sym (ap joined_of next
              ∙ ap (λ (ys : List SignedClass). map entry (map (joined_class p n L) ys)) (keep-next-on (is_first p n L) l (class_of x) e)
              ∙ ap (map entry) (map-append (joined_class p n L) (keep (is_first p n L) l) (class_of x ∷ []))
              ∙ map-append entry (map (joined_class p n L) (keep (is_first p n L) l)) (joined_class p n L (class_of x) ∷ []));
        }

    pub joining-off : is_first p n L (class_of x) ≡ false → Joining out₀ (i + 1) k out
    joining-off e =
        record {
          long = j.long;
          number = omega (arith, j.number);
          entries =
              j.entries
              ∙ sym (ap joined_of next
              ∙ ap (λ (ys : List SignedClass). map entry (map (joined_class p n L) ys))
              (keep-next-off (is_first p n L) (map class_of (take i codes)) (class_of x) e));
        }

  pub joining-all : {out₀ out : List Entry} {i k : ℕ} → Joining out₀ i k out → i ≡ length codes → take k out ≡ map entry (joined p n L)
  unfolding joined
  joining-all j e = j.entries ∙ ap (λ (l : List Entry). joined_of (map class_of l)) (ap (λ (m : ℕ). take m codes) e ∙ take-length codes)
