-- What the bytes of a column are, by what they make: the writer's column of the number.
use mathlib.Core.Path.{◌≡◌, refl, sym, ap, ap₂, ◌∙◌}
use mathlib.Core.Bool.{Bool, true, false}
use mathlib.Core.List.{List, [], ◌∷◌, ◌++◌}
use Prim.Native.Nat.{ℕ, zero, suc, ◌+◌, ◌*◌, ◌≤◌, ◌<◌}
use Rattle.std.specs.Prelude.{Option, Some, None}
use native.Mathlib.Omega.{arith}
use borrow.Author.Tests.{eqb-false}
use lib.Dec.{eqb}
use lib.ListN.{length, get_or, take, replicate}
use lib.Seq.{take-suc, take-length}
use Rattle.columns.specs.Column.{blank, column, sign, minus_column}
use Rattle.columns.proofs.Digits.{column_short, column_long, minus_short, minus_long}
use Rattle.text.specs.declared.column.Part.{Part}
use Rattle.text.specs.declared.column.Part.TheVariants.{Blanks, Minus, Number}
use Rattle.text.specs.Reading.{after_blank, after_minus, after_digit, step, step_on, scan}
use Rattle.text.proofs.Steps.{Kind, a_blank, a_minus, a_digit, a_fault, kind, step-blank, step-minus, step_of_digit, scan_next}

pub replicate_next : (w a : ℕ) → replicate w a ++ a ∷ [] ≡ replicate (suc w) a
replicate_next zero a = refl
replicate_next (suc w) a = ap (λ (l : List ℕ). a ∷ l) (replicate_next w a)

-- What w bytes are that make p

abbrev pub Holds : Option Part → ℕ → List ℕ → Type 0
Holds None w l = Unit {0}
Holds (Some Blanks) w l = l ≡ replicate w blank
Holds (Some Minus) w l = l ≡ sign w
Holds (Some (Number false x)) w l = l ≡ column w x
Holds (Some (Number true x)) w l = (0 < x) × (l ≡ minus_column w x)

number_of_digit : (m : Bool) (x : ℕ) (d w : ℕ) (l : List ℕ) → d ≤ 9 → (x ≡ 0 → ⊥) → Holds (Some (Number m x)) w l
    → Holds (Some (Number m (x * 10 + d))) (suc w) (l ++ (d + 48) ∷ [])
number_of_digit false x d w l h ne e = ap (λ (k : List ℕ). k ++ (d + 48) ∷ []) e ∙ sym (column_long w x d h (omega arith))
number_of_digit true x d w l h ne e =
    (omega arith, ap (λ (k : List ℕ). k ++ (d + 48) ∷ []) e.1 ∙ sym (minus_long w x d h (omega arith)))

holds_digit : (p : Part) (d w : ℕ) (l : List ℕ) → d ≤ 9 → Holds (Some p) w l → Holds (after_digit p d) (suc w) (l ++ (d + 48) ∷ [])
holds_digit Blanks d w l h e = ap (λ (k : List ℕ). k ++ (d + 48) ∷ []) e ∙ sym (column_short w d h)
holds_digit Minus d w l h e = go (eqb d 0) refl
  where
    go : (t : Bool) → eqb d 0 ≡ t → Holds (after_digit Minus d) (suc w) (l ++ (d + 48) ∷ [])
    go true q = rw q tt
    go false q =
        let ne : d ≡ 0 → ⊥ = eqb-false d 0 q in
        rw q (omega arith, ap (λ (k : List ℕ). k ++ (d + 48) ∷ []) e ∙ sym (minus_short w d h))
holds_digit (Number m x) d w l h e = go (eqb x 0) refl
  where
    go : (t : Bool) → eqb x 0 ≡ t → Holds (after_digit (Number m x) d) (suc w) (l ++ (d + 48) ∷ [])
    go true q = rw q tt
    go false q = rw q (number_of_digit m x d w l h (eqb-false x 0 q) e)

holds_step : (o : Option Part) (b w : ℕ) (l : List ℕ) → Holds o w l → Holds (step_on o b) (suc w) (l ++ b ∷ [])
unfolding sign
holds_step None b w l h = tt
holds_step (Some p) b w l h = go (kind b)
  where
    blanks : (p : Part) → b ≡ 32 → Holds (Some p) w l → Holds (after_blank p) (suc w) (l ++ b ∷ [])
    blanks Blanks e h = ap₂ (λ k x. k ++ x ∷ []) h e ∙ replicate_next w blank
    blanks Minus e h = tt
    blanks (Number m x) e h = tt

    minuses : (p : Part) → b ≡ 45 → Holds (Some p) w l → Holds (after_minus p) (suc w) (l ++ b ∷ [])
    minuses Blanks e h = ap₂ (λ k x. k ++ x ∷ []) h e
    minuses Minus e h = tt
    minuses (Number m x) e h = tt

    go : Kind b → Holds (step p b) (suc w) (l ++ b ∷ [])
    go (a_blank e) = rw (step-blank p b e) (blanks p e h)
    go (a_minus e) = rw (step-minus p b e) (minuses p e h)
    go (a_digit d u e) = rw (step_of_digit p b d u e, e) (holds_digit p d w l u h)
    go (a_fault f) = rw (f p) tt

-- the bytes of a column are what the writer puts for what they make
holds_first : (l : List ℕ) (i : ℕ) → i ≤ length l → Holds (scan (take i l)) i (take i l)
unfolding scan
holds_first l zero h = refl
holds_first l (suc i) h =
    rw (take-suc l i 0 h, scan_next (take i l) (get_or l i 0)) (holds_step (scan (take i l)) (get_or l i 0) i (take i l)
    (holds_first l i (omega arith)))

pub scan_holds : (l : List ℕ) → Holds (scan l) (length l) l
scan_holds l = rw (take-length l) at (holds_first l (length l) (omega arith))
