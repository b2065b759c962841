-- Rows of differences modulo p.
use mathlib.Core.Path.{◌≡◌, refl, ap, ◌∙◌}
use mathlib.Core.List.{List}
use Prim.Native.Nat.{ℕ, suc, ◌+◌, ◌-◌, ◌*◌, ◌%◌, ◌≤◌, ◌<◌, min}
use native.Mathlib.Decide.{dec_le, dec_lt}
use native.Mathlib.Nat.{add-zero, sub-zero}
use native.Mathlib.Numerals.{add-one}
use native.Mathlib.Omega.{arith}
use lib.ListN.{length, get_or}
use Rattle.theory.specs.Polynomial.{value}
use Rattle.theory.specs.inner.Polynomial.{difference}
use Rattle.theory.specs.inner.Overwritten.{Overwritten}
use Rattle.theory.proofs.Numbers.Congruence.{Congruent, cong_refl, cong_sym, cong_trans, cong_of_eq}
use Rattle.theory.proofs.Numbers.Congruence.{cong_residue, cong_add, cong_mul, dvd_cong}
use Rattle.theory.proofs.Polynomials.Differences.{difference-step, difference-value}
use Rattle.solver.specs.inner.Table.{Below, Differences}
use Rattle.solver.proofs.Tables.{remainders_below}

difference_next : (p j : ℕ) (F : ℕ → ℕ) (c : ℕ) → difference p j F (suc c) + (p - 1) * difference p j F c ≡ difference p (suc j) F c
unfolding difference
difference_next p j F c = refl

-- after k stages the first entries are those of row 0, and from k on stand the k-th differences at 0, 1, …
abbrev pub Stage : ℕ → List ℕ → ℕ → List ℕ → Type 0
Stage p f k row = (i : ℕ) → i < length row → get_or row i 0 ≡ difference p (min i k) (value f) (i - k) % p

module _ (p : ℕ) (f : List ℕ) (pos : 0 < p) where
  -- the j-th difference at c
  d : ℕ → ℕ → ℕ
  d j c = difference p j (value f) c

  pub row_below : (c : ℕ) (row : List ℕ) → Differences p f c row → Below p row
  row_below c row r = remainders_below p row (λ j. difference p j (value f) c) pos r.at

  -- the value itself stands first
  pub row_first : (c : ℕ) (row : List ℕ) → 0 < length row → Differences p f c row → get_or row 0 0 ≡ value f c % p
  unfolding difference
  row_first c row h r = r.at 0 h

  -- to each entry the next is added, and the last stays
  pub row_next : (c : ℕ) (row row' : List ℕ) → length row ≡ length f → Differences p f c row
      → Overwritten (λ i. (get_or row i 0 + get_or row (i + 1) 0) % p) 0 (length row - 1) row row' → Differences p f (c + 1) row'
  unfolding d
  row_next c row row' n r w = record { at = λ j h. entry j (omega (arith, w.long)) (dec_lt (j + 1) (length row)) }
    where
      step : (j : ℕ) → Congruent p (d j c + d (j + 1) c) (d j (c + 1))
      step j = rw (add-one j, add-one c) (cong_sym (difference-step p j (value f) c pos))

      entry : (j : ℕ) → j < length row → Dec (j + 1 < length row) → get_or row' j 0 ≡ d j (c + 1) % p
      entry j h (yes l) =
          w.inside j (omega arith) (omega arith)
          ∙ (cong_trans (cong_add (cong_residue (r.at j h)) (cong_residue (r.at (j + 1) l))) (step j)).same
      entry j h (no l) =
          let k : j + 1 ≡ length f = omega arith in
          let none : Congruent p (d (j + 1) c) 0 = rw k (dvd_cong (difference-value p f c pos)) in
          let kept : Congruent p (d j c + d (j + 1) c) (d j c) =
          cong_trans (cong_add (cong_refl {x = d j c}) none) (cong_of_eq (add-zero (d j c))) in
          w.above j (omega arith) ∙ r.at j h ∙ (cong_trans (cong_sym kept) (step j)).same

  pub stage-start : (row row' : List ℕ) → Overwritten (λ i. value f i % p) 0 (length row) row row' → Stage p f 0 row'
  unfolding difference
  stage-start row row' w i h =
      let z : min i 0 ≡ 0 = omega arith in
      rw (z, sub-zero i) (w.inside i (omega arith) (omega (arith, w.long)))

  -- one stage: each entry after index k less the one before it
  pub stage-next : (k : ℕ) (row row' : List ℕ) → Stage p f k row
      → Overwritten (λ i. (get_or row i 0 + (p - 1) * get_or row (i - 1) 0) % p) (k + 1) (length row) row row' → Stage p f (k + 1) row'
  stage-next k row row' s w i h = entry (omega (arith, w.long)) (dec_le i k)
    where
      entry : i < length row → Dec (i ≤ k) → get_or row' i 0 ≡ difference p (min i (k + 1)) (value f) (i - (k + 1)) % p
      entry l (yes u) =
          let m : min i k ≡ min i (k + 1) = omega arith in
          let z : i - k ≡ i - (k + 1) = omega arith in
          w.below i (omega arith) ∙ s i l ∙ rw (m, z)
      entry l (no u) =
          w.inside i (omega arith) l
          ∙ (cong_add (cong_residue (s i l)) (cong_mul (cong_refl {x = p - 1}) (cong_residue (s (i - 1) (omega arith))))).same
          ∙ ap (λ (x : ℕ). x % p) (less (i - (k + 1)) (omega arith) (omega arith) (omega arith) (omega arith) (omega arith))
        where
          less : (c : ℕ) → min i k ≡ k → i - k ≡ suc c → min (i - 1) k ≡ k → i - 1 - k ≡ c → min i (k + 1) ≡ suc k
              → difference p (min i k) (value f) (i - k) + (p - 1) * difference p (min (i - 1) k) (value f) (i - 1 - k)
              ≡ difference p (min i (k + 1)) (value f) c
          less c a b x y z = rw (a, b, x, y, z) (difference_next p k (value f) c)

  pub stage-end : (row : List ℕ) → Stage p f (length row) row → Differences p f 0 row
  stage-end row s = record {
    at = λ j h.
        let m : min j (length row) ≡ j = omega arith in
        let z : j - length row ≡ 0 = omega arith in
        rw (m, z) at (s j h);
  }
