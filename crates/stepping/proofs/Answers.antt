-- The answers of a row of calls, one call at a time.
use mathlib.Core.Path.{◌≡◌, refl, sym, ap, ap₂, ◌∙◌}
use mathlib.Core.Bool.{Bool}
use mathlib.Core.List.{List, [], ◌∷◌, ◌++◌, map}
use Prim.Native.Nat.{ℕ, zero, suc, ◌+◌, ◌-◌, ◌^◌, ◌≤◌, ◌<◌}
use native.Mathlib.Omega.{arith}
use native.Mathlib.Decide.{dec_lt}
use lib.IntN.{ℤ}
use lib.ListN.{length, length-map, set, drop, get_or}
use lib.Seq.{set_at, append_snoc}
use Rattle.theory.specs.Lists.{here}
use Rattle.theory.specs.ClassList.{members, from}
use Rattle.theory.specs.SignedClass.{naturals}
use Rattle.theory.specs.Stepping.{Answer, answers_from, following}
use Rattle.theory.proofs.Lists.Fill.{drop_next}
use Rattle.theory.proofs.Lists.Map.{map-append}
use Rattle.theory.proofs.Range.{passing_sound}
use Rattle.refusal.specs.declared.Refusal.TheVariants.{Point}
use Rattle.refusal.specs.Number.{number_of, place_of}
use Rattle.refusal.specs.Rules.{passes, refuses, rule8, value_or}
use Rattle.refusal.proofs.Rules.{rule8_passes, rule8_refuses}
use Rattle.classes.specs.Rule7.{classes_of}
use Rattle.classes.specs.Next.{next_verdict, first, next_of}
use Rattle.classes.specs.inner.Usable.{UsableList}
use Rattle.classes.proofs.Checks.{checked-leads}
use Rattle.stepping.specs.Encoded.{encode}
use Rattle.stepping.specs.inner.Reached.{Reached}

-- the point of the call after i calls
unfoldable pub point_after : (ℕ → Answer) → ℕ → ℕ → ℕ
point_after next q zero = q
point_after next q (suc i) = point_after next (following (next q) q) i

-- one call more
answers-suc : (next : ℕ → Answer) (q i : ℕ) → answers_from next q (suc i) ≡ answers_from next q i ++ (next (point_after next q i) ∷ [])
unfolding answers_from point_after
answers-suc next q zero = refl
answers-suc next q (suc i) = ap (λ (l : List Answer). next q ∷ l) (answers-suc next (following (next q) q) i)

point-suc : (next : ℕ → Answer) (q i : ℕ)
    → point_after next q (suc i) ≡ following (next (point_after next q i)) (point_after next q i)
unfolding point_after
point-suc next q zero = refl
point-suc next q (suc i) = point-suc next (following (next q) q) i

answers_next : (next : ℕ → Answer) (q i : ℕ) → answers_from next q (i + 1) ≡ answers_from next q i ++ (next (point_after next q i) ∷ [])
answers_next next q i = let e : i + 1 ≡ suc i = omega arith in rw e (answers-suc next q i)

point-next : (next : ℕ → Answer) (q i : ℕ)
    → point_after next q (i + 1) ≡ following (next (point_after next q i)) (point_after next q i)
point-next next q i = let e : i + 1 ≡ suc i = omega arith in rw e (point-suc next q i)

-- after i calls the first i slots hold their answers, and `point` is the following call's
pub record Gone (next : ℕ → Answer) (q i point : ℕ) (old answers : List ℕ) : Type 0 where
  pub slots : answers ≡ map encode (answers_from next q i) ++ drop i old
  pub at : point ≡ point_after next q i

pub gone-none : (next : ℕ → Answer) (q : ℕ) (old : List ℕ) → Gone next q 0 q old old
unfolding answers_from point_after
gone-none next q old = record { slots = refl; at = refl }

pub answers-length : (next : ℕ → Answer) (q i : ℕ) → length (answers_from next q i) ≡ i
unfolding answers_from
answers-length next q zero = refl
answers-length next q (suc i) = ap suc (answers-length next (following (next q) q) i)

-- an entry written right after a front of i entries
set_after : (front old : List ℕ) (i v : ℕ) → length front ≡ i → i < length old
    → set (front ++ drop i old) i v ≡ (front ++ (v ∷ [])) ++ drop (i + 1) old
set_after front old i v n h =
    ap (λ (l : List ℕ). set (front ++ l) i v) (drop_next old i 0 h)
    ∙ set_at front (get_or old i 0) (drop (i + 1) old) v i n
    ∙ sym (append_snoc front v (drop (i + 1) old))

pub gone-next : (next : ℕ → Answer) (q i point point' code : ℕ) (old answers : List ℕ) → i < length old → Gone next q i point old answers
    → code ≡ encode (next point) → point' ≡ following (next point) point → Gone next q (i + 1) point' old (set answers i code)
gone-next next q i point point' code old answers h g c p =
    record {
      slots =
          ap₂ (λ (l : List ℕ) (x : ℕ). set l i x) g.slots (c ∙ ap (λ (x : ℕ). encode (next x)) g.at)
          ∙ set_after (map encode (answers_from next q i)) old i (encode (next (point_after next q i)))
          (length-map (answers_from next q i) encode ∙ answers-length next q i) h
          ∙ ap (λ (l : List ℕ). l ++ drop (i + 1) old)
          (sym (ap (map encode) (answers_next next q i) ∙ map-append encode (answers_from next q i) (next (point_after next q i) ∷ [])));
      at = p ∙ ap (λ (x : ℕ). following (next x) x) g.at ∙ sym (point-next next q i);
    }

-- What next may answer on an accepted list

module _ (m : ℕ) (small : m ≤ 4294967295) where
  from_list : (l : List ℕ) → ((r : ℕ) (rest : List ℕ) → l ≡ r ∷ rest → r < m) → Reached (value_or passes (first l))
  from_list [] h =
      record {
        root_fits = λ r e. let z : ◌≡◌ {A = ℕ} 0 1 = cc e in absurd (omega arith);
        only_point = λ r e. let z : ◌≡◌ {A = ℕ} 0 1 = cc e in absurd (omega arith);
      }
  from_list (x ∷ l) h =
      record {
        root_fits = λ r e. let same : x ≡ r = cc e in omega (arith, h x l refl);
        only_point = λ r e. let z : ◌≡◌ {A = ℕ} 0 1 = cc e in absurd (omega arith);
      }

from-point : (l : List ℕ) → Reached (value_or (refuses Point) (first l))
from-point l =
    record {
      root_fits = λ r e. let z : ◌≡◌ {A = ℕ} 0 1 = cc e in absurd (omega arith);
      only_point = λ r e. let same : Point ≡ r = cc e in (ap number_of (sym same), ap place_of (sym same));
    }

module _ (p n : ℕ) (residues : List ℤ) (levels : List ℕ) (C : UsableList p n residues levels (p ^ n)) (q : ℕ) where
  abbrev S : ℕ → Bool
  S = members p (naturals p (classes_of residues levels))

  below : (r : ℕ) (rest : List ℕ) → from S p n q ≡ r ∷ rest → r < p ^ n
  unfolding from
  below r rest e =
      omega (
        arith,
        (passing_sound S (p ^ n - q) q r (rw e (here refl))).high,
        (passing_sound S (p ^ n - q) q r (rw e (here refl))).low,
      )

  pub reached : Reached (next_of p n residues levels q)
  unfolding next_of next_verdict
  reached = go (dec_lt q (p ^ n))
    where
      go : Dec (q < p ^ n) → Reached (next_of p n residues levels q)
      go (yes h) =
          rw (checked-leads p n residues levels C (rule8 q (p ^ n) ∷ []), rule8_passes q (p ^ n) h)
          (from_list (p ^ n) C.modulus.within (from S p n q) below)
      go (no h) =
          rw (checked-leads p n residues levels C (rule8 q (p ^ n) ∷ []), rule8_refuses q (p ^ n) (omega arith))
          (from-point (from S p n q))
