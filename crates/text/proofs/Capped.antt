-- A size above 64 bits stays above them, so nothing is lost where it is kept as a fault.
use mathlib.Core.Path.{◌≡◌, refl, sym, ap, ◌∙◌}
use mathlib.Core.Bool.{Bool, true, false}
use mathlib.Core.List.{List, [], ◌∷◌, ◌++◌, append-nil, append_assoc}
use Prim.Native.Nat.{ℕ, ◌+◌, ◌*◌, ◌<◌}
use Rattle.std.specs.Prelude.{Option, Some, None}
use native.Mathlib.Omega.{arith}
use borrow.Author.Tests.{ne_eqb, lt-leb, leb-false}
use lib.Dec.{leb}
use lib.ListN.{length, get_or, take, drop, take-append-drop}
use lib.Seq.{take-suc}
use native.Mathlib.Numerals.{add-one}
use Rattle.text.specs.declared.column.Part.{Part}
use Rattle.text.specs.declared.column.Part.TheVariants.{Blanks, Minus, Number}
use Rattle.text.specs.Reading.{after_digit, step, step_on, scan}
use Rattle.text.specs.inner.Capped.{capped}
use Rattle.text.proofs.Steps.{Kind, a_blank, a_minus, a_digit, a_fault, kind, step-blank, step-minus, step_of_digit, scan_next}

-- a digit more of a size that is not 0
pub digit_large : (m : Bool) (x d : ℕ) → 0 < x → 18446744073709551615 < x * 10 + d → capped (after_digit (Number m x) d) ≡ None
digit_large m x d h l = rw (ne_eqb x 0 (λ e. omega arith), lt-leb (x * 10 + d) 18446744073709551615 l)

-- one byte more of a size that is kept as a fault
large_step : (m : Bool) (x b : ℕ) → 18446744073709551615 < x → capped (step (Number m x) b) ≡ None
large_step m x b h = go (kind b)
  where
    go : Kind b → capped (step (Number m x) b) ≡ None
    go (a_blank e) = rw (step-blank (Number m x) b e)
    go (a_minus e) = rw (step-minus (Number m x) b e)
    go (a_digit d l e) = rw (step_of_digit (Number m x) b d l e) (digit_large m x d (omega arith) (omega arith))
    go (a_fault f) = rw (f (Number m x))

-- one byte more
pub capped-step : (o : Option Part) (b : ℕ) → capped (step_on (capped o) b) ≡ capped (step_on o b)
capped-step None b = refl
capped-step (Some Blanks) b = refl
capped-step (Some Minus) b = refl
capped-step (Some (Number m x)) b = go (leb x 18446744073709551615) refl
  where
    go : (t : Bool) → leb x 18446744073709551615 ≡ t → capped (step_on (capped (Some (Number m x))) b) ≡ capped (step (Number m x) b)
    go true e = rw e
    go false e =
        let h : 18446744073709551615 < x = leb-false x 18446744073709551615 e in
        rw (e, large_step m x b h)

-- a column that is scanned byte by byte with capped sizes
pub capped_next : (bytes : List ℕ) (b : ℕ) (o r : Option Part) → o ≡ capped (scan bytes) → r ≡ capped (step_on o b)
    → r ≡ capped (scan (bytes ++ b ∷ []))
capped_next bytes b o r e f =
    f ∙ ap (λ (q : Option Part). capped (step_on q b)) e ∙ capped-step (scan bytes) b ∙ ap capped (sym (scan_next bytes b))

-- a fault stays one, whatever follows
pub fault_stays : (bytes rest : List ℕ) → None ≡ capped (scan bytes) → None ≡ capped (scan (bytes ++ rest))
fault_stays bytes [] e = e ∙ ap (λ (l : List ℕ). capped (scan l)) (sym (append-nil bytes))
fault_stays bytes (b ∷ rest) e =
    fault_stays (bytes ++ b ∷ []) rest (capped_next bytes b None None e refl)
    ∙ ap (λ (l : List ℕ). capped (scan l)) (append_assoc bytes (b ∷ []) rest)

-- a column read byte by byte: what its first i + 1 bytes make, and the whole where these have a fault
module _ (l : List ℕ) (i : ℕ) (p : Part) (r : Option Part) (here : i < length l) (so_far : Some p ≡ capped (scan (take i l)))
    (next : r ≡ capped (step p (get_or l i 0))) where
  pub one_more : r ≡ capped (scan (take (i + 1) l))
  one_more = rw (add-one i, take-suc l i 0 here) (capped_next (take i l) (get_or l i 0) (Some p) r so_far next)

  pub stopped : None ≡ r → None ≡ capped (scan l)
  stopped e = fault_stays (take (i + 1) l) (drop (i + 1) l) (e ∙ one_more)
      ∙ ap (λ (m : List ℕ). capped (scan m)) (take-append-drop (i + 1) l)
