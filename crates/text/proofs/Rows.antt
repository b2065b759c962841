-- The lines of the coefficients, read one after another.
use mathlib.Core.Path.{◌≡◌, refl, sym, ap, ap₂, ◌∙◌}
use mathlib.Core.List.{List, [], ◌∷◌, ◌++◌, append-nil}
use Rattle.std.specs.Prelude.{Result, Some, None, unwrap_or, Ok, Err}
use Prim.Native.Nat.{ℕ, zero, suc, ◌+◌, ◌-◌, ◌*◌, ◌≤◌, ◌<◌}
use native.Mathlib.Omega.{arith}
use native.Mathlib.Numerals.{add-one}
use borrow.Author.Tests.{eq-eqb, ne_eqb}
use lib.IntN.{ℤ, pos}
use lib.ListN.{length, get_or, set, replicate, take, drop}
use Rattle.std.proofs.lemmas.List.{take-replicate, drop-replicate, length-replicate}
use lib.Seq.{set_at, append_snoc}
use Rattle.refusal.specs.declared.Refusal.TheVariants.{Form}
use Rattle.refusal.specs.Rules.{Verdict, passes, refuses, tried, value_or}
use Rattle.text.specs.Text.{cursor_at, signed_value}
use Rattle.refusal.specs.declared.Refusal.{Refusal}
use Rattle.text.specs.declared.Cursor.{Cursor}
use Rattle.text.specs.declared.Problem.{Problem}
use Rattle.text.specs.Form.{ends_line, coefficient_rules, coefficients_at, row_of}

-- Each rule's verdict

pub ends_line_passes : (text : List ℕ) (place : ℕ) → get_or text place 0 ≡ 10 → ends_line text place ≡ passes
ends_line_passes text place e = rw (eq-eqb (get_or text place 0) 10 e)

pub ends_line_refuses : (text : List ℕ) (place : ℕ) → (get_or text place 0 ≡ 10 → ⊥) → ends_line text place ≡ refuses (Form place)
ends_line_refuses text place e = rw (ne_eqb (get_or text place 0) 10 e)

module _ (text : List ℕ) (place c : ℕ) where
  pub line-passes : (x : ℤ) → signed_value text place 20 ≡ Some x → get_or text (place + 20) 0 ≡ 10
      → tried (coefficient_rules text place (suc c)) ≡ tried (coefficient_rules text (place + 21) c)
  unfolding coefficient_rules
  line-passes x e f = rw (e, ends_line_passes text (place + 20) f)

  line-refuses-column : signed_value text place 20 ≡ None → tried (coefficient_rules text place (suc c)) ≡ refuses (Form place)
  unfolding coefficient_rules
  line-refuses-column e = rw e

  line-refuses-end : (x : ℤ) → signed_value text place 20 ≡ Some x → (get_or text (place + 20) 0 ≡ 10 → ⊥)
      → tried (coefficient_rules text place (suc c)) ≡ refuses (Form (place + 20))
  unfolding coefficient_rules
  line-refuses-end x e f = rw (e, ends_line_refuses text (place + 20) f)

-- The problem by the verdict

abbrev pub problem : (p n count end : ℕ) → (row : List ℤ) → Problem
problem p n count end row = record { p = p; n = n; count = count; end = end; coefficients = row }

pub refused_by : {A : Type 0} (v : Verdict) (r : Refusal) (x : A) → v ≡ refuses r → Err r ≡ value_or v x
refused_by v r x e = rw e

pub given_by : {A : Type 0} (v : Verdict) (x : A) → v ≡ passes → Ok x ≡ value_or v x
given_by v x e = rw e

-- The coefficients

coefficient_at : List ℕ → ℕ → ℤ
coefficient_at text place = unwrap_or (signed_value text place 20) (pos 0)

pub coefficients_length : (text : List ℕ) (at c : ℕ) → length (coefficients_at text at c) ≡ c
unfolding coefficients_at
coefficients_length text at zero = refl
coefficients_length text at (suc c) = ap suc (coefficients_length text (at + 21) c)

coefficients_next : (text : List ℕ) (at c : ℕ)
    → coefficients_at text at (suc c) ≡ coefficients_at text at c ++ coefficient_at text (at + 21 * c) ∷ []
unfolding coefficients_at coefficient_at
coefficients_next text at zero =
    let e : at ≡ at + 21 * 0 = omega arith in
    ap (λ (k : ℕ). coefficient_at text k ∷ []) e
coefficients_next text at (suc c) =
    let e : at + 21 + 21 * c ≡ at + 21 * suc c = omega arith in
    ap (λ (l : List ℤ). coefficient_at text at ∷ l)
    (coefficients_next text (at + 21) c ∙ ap (λ (k : ℕ). coefficients_at text (at + 21) c ++ coefficient_at text k ∷ []) e)

-- the first slots of the row when i of the c are read
abbrev pub slots_with : List ℕ → ℕ → ℕ → ℕ → List ℤ
slots_with text at c i = coefficients_at text at i ++ replicate (c - i) (pos 0)

slots_next : (text : List ℕ) (at c i : ℕ) (x : ℤ) → i < c → coefficient_at text (at + 21 * i) ≡ x
    → set (slots_with text at c i) i x ≡ slots_with text at c (suc i)
slots_next text at c i x h e =
    let k : c - i ≡ suc (c - suc i) = omega arith in
    let zeros = replicate (c - suc i) (pos 0) in
    ap (λ (m : ℕ). set (coefficients_at text at i ++ replicate m (pos 0)) i x) k
    ∙ set_at (coefficients_at text at i) (pos 0) zeros x i (coefficients_length text at i)
    ∙ sym (append_snoc (coefficients_at text at i) x zeros)
    ∙ ap (λ (l : List ℤ). l ++ zeros) (ap (λ (y : ℤ). coefficients_at text at i ++ y ∷ []) (sym e) ∙ sym (coefficients_next text at i))

pub slots_length : (c : ℕ) → c ≤ 65 → length (take c (replicate 65 (pos 0))) ≡ c
slots_length c h = ap length (take-replicate c 65 (pos 0) h) ∙ length-replicate c (pos 0)

-- i lines are read, from `start` to `place`
pub record Reading (text : List ℕ) (start place count i : ℕ) (slots : List ℤ) : Type 0 where
  pub within : i ≤ count
  pub here : place ≡ start + 21 * i
  pub left : tried (coefficient_rules text start count) ≡ tried (coefficient_rules text place (count - i))
  pub filled : slots ≡ slots_with text start count i

pub reading_start : (text : List ℕ) (start count : ℕ) → count ≤ 65 → Reading text start start count 0 (take count (replicate 65 (pos 0)))
unfolding coefficients_at
reading_start text start count h =
    let e : count ≡ count - 0 = omega arith in
    record {
      within = omega arith;
      here = omega arith;
      left = ap (λ (k : ℕ). tried (coefficient_rules text start k)) e;
      filled = take-replicate count 65 (pos 0) h ∙ ap (λ (k : ℕ). replicate k (pos 0)) e;
    }

module _ (text : List ℕ) (start place count i : ℕ) (slots : List ℤ) (R : Reading text start place count i slots) where
  one_left : i < count → count - i ≡ suc (count - suc i)
  one_left h = omega arith

  left-rules : i < count → tried (coefficient_rules text start count) ≡ tried (coefficient_rules text place (suc (count - suc i)))
  left-rules h = R.left ∙ ap (λ (k : ℕ). tried (coefficient_rules text place k)) (one_left h)

  pub reading-next : (x : ℤ) (next : ℕ) → i < count → signed_value text place 20 ≡ Some x → get_or text (place + 20) 0 ≡ 10
      → next ≡ place + 21
      → Reading text start next count (i + 1) (set slots i x)
  unfolding coefficient_at
  reading-next x next h e f g =
      let p : start + 21 * i ≡ place = sym R.here in
      let v : coefficient_at text (start + 21 * i) ≡ x = rw (p, e) in
      let k : count - suc i ≡ count - (i + 1) = omega arith in
      record {
        within = omega arith;
        here = omega (arith, R.here);
        left = left-rules h ∙ line-passes text place (count - suc i) x e f
            ∙ ap₂ (λ (a b : ℕ). tried (coefficient_rules text a b)) (sym g) k;
        filled = ap (λ (l : List ℤ). set l i x) R.filled ∙ slots_next text start count i x h v
            ∙ ap (λ (j : ℕ). slots_with text start count j) (sym (add-one i));
      }

  pub reading-column-fault : i < count → signed_value text place 20 ≡ None
      → tried (coefficient_rules text start count) ≡ refuses (Form place)
  reading-column-fault h e = left-rules h ∙ line-refuses-column text place (count - suc i) e

  pub reading-end-fault : (x : ℤ) (end : ℕ) → i < count → signed_value text place 20 ≡ Some x → end ≡ place + 20
      → (get_or text end 0 ≡ 10 → ⊥)
      → tried (coefficient_rules text start count) ≡ refuses (Form end)
  reading-end-fault x end h e g f =
      left-rules h ∙ line-refuses-end text place (count - suc i) x e (λ q. f (ap (λ (k : ℕ). get_or text k 0) g ∙ q))
      ∙ ap (λ (k : ℕ). refuses (Form k)) (sym g)

  reading-passes : i ≡ count → tried (coefficient_rules text start count) ≡ passes
  unfolding coefficient_rules
  reading-passes e =
      let k : count - i ≡ 0 = omega arith in
      R.left ∙ ap (λ (j : ℕ). tried (coefficient_rules text place j)) k

  reading-row : i ≡ count → slots ++ drop count (replicate 65 (pos 0)) ≡ row_of (coefficients_at text start count)
  reading-row e =
      let cs = coefficients_at text start in
      let k : count - i ≡ 0 = omega arith in
      ap₂ (λ (l m : List ℤ). l ++ m) (R.filled ∙ ap₂ (λ (j m : ℕ). cs j ++ replicate m (pos 0)) e k ∙ append-nil (cs count))
      (drop-replicate count 65 (pos 0) ∙ ap (λ (m : ℕ). replicate (65 - m) (pos 0)) (sym (coefficients_length text start count)))

  abbrev whole : List ℤ × Cursor
  whole = (row_of (coefficients_at text start count), cursor_at (start + 21 * count))

  pub reading-done : i ≡ count → ◌≡◌ {A = Result (List ℤ × Cursor) Refusal}
      (Ok (slots ++ drop count (replicate 65 (pos 0)), cursor_at place))
      (value_or (tried (coefficient_rules text start count)) whole)
  reading-done e =
      let h : place ≡ start + 21 * count = omega (arith, R.here) in
      let same : ◌≡◌ {A = List ℤ × Cursor} (slots ++ drop count (replicate 65 (pos 0)), cursor_at place) whole = rw (h, reading-row e) in
      ap Ok same ∙ given_by (tried (coefficient_rules text start count)) whole (reading-passes e)
