-- Rows of counts that numbers are added to.
use mathlib.Core.Path.{◌≡◌, sym, ap, ◌∙◌}
use mathlib.Core.List.{List, ◌++◌}
use Prim.Native.Nat.{ℕ, ◌+◌, ◌-◌, ◌≤◌, ◌<◌}
use native.Mathlib.Decide.{dec_lt}
use native.Mathlib.Omega.{arith}
use lib.ListN.{length, get_or, take, drop, length-append, length-drop, get_or-append, get_or-eq_default}
use lib.Seq.{get_or-take, get_or-drop, get_or-append-add, get_or-append_right, length-take-le, take_all}
use Rattle.theory.specs.inner.Overwritten.{Overwritten}

-- A i is added to each entry i below e
abbrev pub Plus : (ℕ → ℕ) → ℕ → List ℕ → List ℕ → Type 0
Plus A e l₀ l = Overwritten (λ i. get_or l₀ i 0 + A i) 0 e l₀ l

-- one number after another
pub plus-both : (A B C : ℕ → ℕ) {e : ℕ} {l₀ l l' : List ℕ} → Plus A e l₀ l → Plus B e l l'
    → ((i : ℕ) → i < e → C i ≡ A i + B i) → Plus C e l₀ l'
plus-both A B C a b c =
    record {
      long = b.long ∙ a.long;
      inside = λ k low high. omega (arith, b.inside k low high, a.inside k low high, c k high);
      below = λ k u. absurd (omega arith);
      above = λ k u. b.above k u ∙ a.above k u;
    }

-- the same number is added to the first entries only, where A is it or 0
pub plus-some : (A : ℕ → ℕ) (x v e : ℕ) {l₀ l : List ℕ} → v ≤ e → Plus (λ i. x) v l₀ l → ((i : ℕ) → i < v → A i ≡ x)
    → ((i : ℕ) → v ≤ i → i < e → A i ≡ 0) → Plus A e l₀ l
plus-some A x v e {l₀} {l} h a same none =
    record {
      long = a.long;
      inside = λ k low high. inside k high (dec_lt k v);
      below = λ k u. absurd (omega arith);
      above = λ k u. a.above k (omega arith);
    }
  where
    inside : (k : ℕ) → k < e → Dec (k < v) → get_or l k 0 ≡ get_or l₀ k 0 + A k
    inside k high (yes u) = omega (arith, a.inside k (omega arith) u, same k u)
    inside k high (no u) = omega (arith, a.above k (omega arith), none k (omega arith) high)

-- in a part of its own, which is the first e entries
pub plus-front : (A : ℕ → ℕ) (e : ℕ) {l₀ part : List ℕ} → e ≤ length l₀ → Plus A e (take e l₀) part → Plus A e l₀ (part ++ drop e l₀)
plus-front A e {l₀} {part} h a =
    record {
      long = length-append part (drop e l₀) ∙ omega (arith, long, length-drop e l₀);
      inside = λ k low high.
          get_or-append part (drop e l₀) 0 k (omega (arith, long)) ∙ a.inside k low high ∙ ap (λ (y : ℕ). y + A k) (get_or-take e l₀ k 0 high);
      below = λ k u. absurd (omega arith);
      above = λ k u.
          let at : e + (k - length part) ≡ k = omega (arith, long) in
          get_or-append_right part (drop e l₀) k 0 (omega (arith, long))
          ∙ get_or-drop e l₀ (k - length part) 0
          ∙ ap (λ (i : ℕ). get_or l₀ i 0) at;
    }
  where
    long : length part ≡ e
    long = a.long ∙ length-take-le e l₀ h

-- x is added to the first s entries, and then B to the others, in a part of their own
module _ (A B : ℕ → ℕ) (x s e e' : ℕ) {l₀ l : List ℕ} (long : length l₀ ≡ e) (h : s ≤ e) (e'-is : e' ≡ e - s) (a : Plus (λ i. x) s l₀ l)
    (same : (i : ℕ) → A (s + i) ≡ B i) where
  abbrev part : List ℕ
  part = take (length l - s) (drop s l)

  part-is : part ≡ drop s l
  part-is = take_all (length l - s) (drop s l) (omega (arith, length-drop s l))

  pub part-long : length (take (length l - s) (drop s l)) ≡ e'
  part-long = ap length part-is ∙ length-drop s l ∙ ap (λ (k : ℕ). k - s) (a.long ∙ long) ∙ sym e'-is

  part_at : (i : ℕ) → get_or part i 0 ≡ get_or l₀ (s + i) 0
  part_at i = ap (λ (r : List ℕ). get_or r i 0) part-is ∙ get_or-drop s l i 0 ∙ a.above (s + i) (omega arith)

  pub part-fits : {most : ℕ} → ((i : ℕ) → i < e → get_or l₀ i 0 + A i < most) → (i : ℕ) → i < e'
      → get_or (take (length l - s) (drop s l)) i 0 + B i < most
  part-fits fits i u = omega (arith, part_at i, same i, fits (s + i) (omega arith))

  module _ {ys : List ℕ} (b : Plus B e' (take (length l - s) (drop s l)) ys) where
    abbrev whole : List ℕ
    whole = take s l ++ (ys ++ drop (length l - s) (drop s l))

    front : length (take s l) ≡ s
    front = length-take-le s l (omega (arith, a.long))

    whole_long : length whole ≡ length l₀
    whole_long =
        length-append (take s l) (ys ++ drop (length l - s) (drop s l))
        ∙ omega (
          arith,
          front,
          length-append ys (drop (length l - s) (drop s l)),
          length-drop (length l - s) (drop s l),
          length-drop s l,
          b.long,
          part-long,
          a.long,
        )

    first : (k : ℕ) → k < s → get_or whole k 0 ≡ get_or l₀ k 0 + x
    first k u =
        get_or-append (take s l) (ys ++ drop (length l - s) (drop s l)) 0 k (omega (arith, front))
        ∙ get_or-take s l k 0 u
        ∙ a.inside k (omega arith) u

    later : (i : ℕ) → i < e' → get_or whole (s + i) 0 ≡ get_or l₀ (s + i) 0 + A (s + i)
    later i u =
        let at : length (take s l) + i ≡ s + i = omega (arith, front) in
        ap (λ (k : ℕ). get_or whole k 0) (sym at)
        ∙ get_or-append-add (take s l) (ys ++ drop (length l - s) (drop s l)) i 0
        ∙ get_or-append ys (drop (length l - s) (drop s l)) 0 i (omega (arith, b.long, part-long))
        ∙ b.inside i (omega arith) u
        ∙ omega (arith, part_at i, same i)

    pub plus-parts : ((i : ℕ) → i < s → A i ≡ x) → Plus A e l₀ (take s l ++ (ys ++ drop (length l - s) (drop s l)))
    plus-parts content =
        record {
          long = whole_long;
          inside = λ k low high. inside k high (dec_lt k s);
          below = λ k u. absurd (omega arith);
          above = λ k u. beyond k u;
        }
      where
        inside : (k : ℕ) → k < e → Dec (k < s) → get_or whole k 0 ≡ get_or l₀ k 0 + A k
        inside k high (yes u) = omega (arith, first k u, content k u)
        inside k high (no u) =
            let q : s + (k - s) ≡ k = omega arith in
            rw q at (later (k - s) (omega arith))

        beyond : (k : ℕ) → e ≤ k → get_or whole k 0 ≡ get_or l₀ k 0
        beyond k u =
            get_or-eq_default whole 0 {n = k} (omega (arith, whole_long)) ∙ sym (get_or-eq_default l₀ 0 {n = k} (omega arith))
