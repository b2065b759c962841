-- A program that reads a text in pieces writes the report on the whole text, however it is cut, for every kind of record.
use mathlib.Core.Path.{◌≡◌, sym, ap, ◌∙◌}
use mathlib.Core.List.{List, ◌++◌, append_assoc, append-nil}
use Prim.Native.Nat.{ℕ, ◌≤◌}
use native.Mathlib.Omega.{arith}
use lib.ListN.{length, drop}
use lib.Seq.{drop-append-le}
use Rattle.report.specs.Run.{Outcome, next, stop, wait, joined, Run, line, stopped, more, ended}

-- what is asked of outcomes and of the report R from a place on: bytes to come change no outcome but `wait`, a record lies within the bytes
-- that show it, and R goes by outcomes
pub record Laws {S : Type 0} (outcome : S → List ℕ → Outcome S) (ending R : S → List ℕ → List ℕ) : Type 0 where
  pub kept : (s : S) (w t : List ℕ) → (outcome s w ≡ wait → ⊥) → outcome s (w ++ t) ≡ outcome s w
  pub inside : (s s' : S) (w l : List ℕ) (n : ℕ) → outcome s w ≡ next s' l n → n ≤ length w
  pub at_next : (s s' : S) (w l : List ℕ) (n : ℕ) → outcome s w ≡ next s' l n → R s w ≡ l ++ R s' (drop n w)
  pub at_stop : (s : S) (w l : List ℕ) → outcome s w ≡ stop l → R s w ≡ l
  pub at_wait : (s : S) (w : List ℕ) → outcome s w ≡ wait → R s w ≡ ending s w

module _ {S : Type 0} (outcome : S → List ℕ → Outcome S) (ending R : S → List ℕ → List ℕ) (L : Laws outcome ending R) where
  next-no-wait : (o : Outcome S) (s : S) (l : List ℕ) (n : ℕ) → o ≡ next s l n → o ≡ wait → ⊥
  next-no-wait o s l n e f = let z : ◌≡◌ {A = ℕ} 0 1 = cc in omega arith

  stop-no-wait : (o : Outcome S) (l : List ℕ) → o ≡ stop l → o ≡ wait → ⊥
  stop-no-wait o l e f = let z : ◌≡◌ {A = ℕ} 0 1 = cc in omega arith

  -- what such a program writes is the report on its bytes and all the pieces to come
  pub runs : {s : S} {w : List ℕ} {pieces : List (List ℕ)} {out : List ℕ} → Run outcome ending s w pieces out
      → out ≡ R s (w ++ joined pieces)
  unfolding joined
  runs (line s s' w l n pieces out e r) =
      let rest = joined pieces in
      let k : outcome s (w ++ rest) ≡ next s' l n = L.kept s w rest (next-no-wait (outcome s w) s' l n e) ∙ e in
      ap (λ (o : List ℕ). l ++ o) (runs r ∙ ap (λ (v : List ℕ). R s' v) (sym (drop-append-le n w rest (L.inside s s' w l n e))))
      ∙ sym (L.at_next s s' (w ++ rest) l n k)
  runs (stopped s w l pieces e) =
      let rest = joined pieces in
      sym (L.at_stop s (w ++ rest) l (L.kept s w rest (stop-no-wait (outcome s w) l e) ∙ e))
  runs (more s w piece pieces out e r) = runs r ∙ ap (λ (v : List ℕ). R s v) (append_assoc w piece (joined pieces))
  runs (ended s w e) = sym (L.at_wait s w e) ∙ ap (λ (v : List ℕ). R s v) (sym (append-nil w))
