-- The number of least size congruent to a residue: it and the residue determine each other.
use mathlib.Core.Path.{◌≡◌, sym, ap, ◌∙◌}
use mathlib.Core.Bool.{true}
use Prim.Native.Nat.{ℕ, suc, ◌+◌, ◌-◌, ◌*◌, ◌/◌, ◌%◌, ◌≤◌, ◌<◌}
use native.Mathlib.Nat.{mod-eq_of_lt}
use native.Mathlib.Decide.{dec_le}
use native.Mathlib.Omega.{arith}
use borrow.Author.Tests.{le-leb, lt-leb}
use lib.IntN.{ℤ, pos, negsuc, neg_ℤ, sub_ℕ, ◌-ℤ◌, ◌*ℤ◌}
use lib.Signed.{lt_z, le_z}
use Rattle.theory.specs.Polynomial.{reduce, Multiple}
use Rattle.theory.specs.Centered.{is_centered, centered}
use Rattle.theory.specs.SignedList.{from_lowest}
use Rattle.theory.proofs.Tests.{and_left, and_right, and_intro}
use Rattle.theory.proofs.Numbers.Integers.{up, down, is_unique, difference_is, negative_is, product_is}
use Rattle.theory.proofs.Numbers.Integers.{less-is, is-less, at-most-is, is-at-most}
use Rattle.theory.proofs.Numbers.Reduction.{congruent-multiple, multiple-congruent}

-- The range −q < 2z ≤ q

pub record Centered (q : ℕ) (z : ℤ) : Type 0 where
  pub above : 2 * down z < 2 * up z + q
  pub fits : 2 * up z ≤ q + 2 * down z

module _ (q : ℕ) (z : ℤ) where
  abbrev low : ℤ
  low = neg_ℤ (pos q)

  abbrev twice : ℤ
  twice = pos 2 *ℤ z

  pub in_range : is_centered q z ≡ true → Centered q z
  unfolding is_centered up down
  in_range e =
      let l = less-is low twice (and_left (lt_z low twice) (le_z twice (pos q)) e) in
      let h = at-most-is twice (pos q) (and_right (lt_z low twice) (le_z twice (pos q)) e) in
      record { above = omega (arith, l, product_is 2 z, negative_is q); fits = omega (arith, h, product_is 2 z) }

  pub range-in : Centered q z → is_centered q z ≡ true
  unfolding is_centered up down
  range-in k =
      and_intro (lt_z low twice) (le_z twice (pos q)) (is-less low twice (omega (arith, k.above, product_is 2 z, negative_is q)))
      (is-at-most twice (pos q) (omega (arith, k.fits, product_is 2 z)))

-- a larger q has a larger range
pub range_wider : (q m : ℕ) → q ≤ m → (z : ℤ) → is_centered q z ≡ true → is_centered m z ≡ true
range_wider q m h z e =
    let k = in_range q z e in range-in m z (record { above = omega (arith, k.above); fits = omega (arith, k.fits) })

-- The residue's number

pub centered_low : (q a : ℕ) → 2 * a ≤ q → centered q a ≡ pos a
unfolding centered
centered_low q a h = rw (le-leb (2 * a) q h, centered)

pub centered_high : (q a : ℕ) → q < 2 * a → centered q a ≡ sub_ℕ a q
unfolding centered
centered_high q a h = rw (lt-leb (2 * a) q h, centered)

pub centered_negative : (q a : ℕ) → q < 2 * a → a < q → centered q a ≡ negsuc (q - suc a)
unfolding up down
centered_negative q a h l = centered_high q a h ∙ is_unique (sub_ℕ a q) (negsuc (q - suc a)) a q (difference_is a q) (omega arith)

module _ (q a : ℕ) (h : a < q) where
  -- it is congruent to the residue
  pub reduce-centered : reduce q (centered q a) ≡ a
  unfolding reduce
  reduce-centered = go (dec_le (2 * a) q)
    where
      go : Dec (2 * a ≤ q) → reduce q (centered q a) ≡ a
      go (yes l) = rw (centered_low q a l) (mod-eq_of_lt h)
      go (no l) =
          let small : (q - suc a) % q ≡ q - suc a = mod-eq_of_lt (omega arith) in
          rw (centered_negative q a (omega arith) h) (omega (arith, small))

  -- and in the range
  pub centered-range : is_centered q (centered q a) ≡ true
  unfolding up down
  centered-range = go (dec_le (2 * a) q)
    where
      go : Dec (2 * a ≤ q) → is_centered q (centered q a) ≡ true
      go (yes l) = rw (centered_low q a l) (range-in q (pos a) (record { above = omega arith; fits = omega arith }))
      go (no l) =
          rw (centered_negative q a (omega arith) h)
          (range-in q (negsuc (q - suc a)) (record { above = omega arith; fits = omega arith }))

-- a number of the range is that of its residue
pub centered-reduce : (q : ℕ) (z : ℤ) → 0 < q → is_centered q z ≡ true → centered q (reduce q z) ≡ z
unfolding reduce up down
centered-reduce q (pos k) hq e =
    let r = in_range q (pos k) e in
    let small : k % q ≡ k = mod-eq_of_lt (omega (arith, r.fits)) in
    rw small (centered_low q k (omega (arith, r.fits)))
centered-reduce q (negsuc k) hq e =
    let r = in_range q (negsuc k) e in
    let small : k % q ≡ k = mod-eq_of_lt (omega (arith, r.above)) in
    let back : q - suc (q - 1 - k) ≡ k = omega (arith, r.above) in
    rw small (centered_negative q (q - 1 - k) (omega (arith, r.above)) (omega arith) ∙ ap negsuc back)

-- so two numbers of the range with one residue are equal
pub centered_unique : (q : ℕ) (y z : ℤ) → 0 < q → is_centered q y ≡ true → is_centered q z ≡ true → reduce q y ≡ reduce q z → y ≡ z
centered_unique q y z hq ey ez e = sym (centered-reduce q y hq ey) ∙ ap (centered q) e ∙ centered-reduce q z hq ez

-- "the whole number congruent to a modulo p^t with −p^t < 2a ≤ p^t": there is one, and no other
pub centered_congruent : (q a : ℕ) → a < q → Multiple q (pos a -ℤ centered q a)
centered_congruent q a h =
    congruent-multiple q (omega arith) a (centered q a) (mod-eq_of_lt h ∙ sym (reduce-centered q a h))

pub centered_only : (q a : ℕ) (z : ℤ) → a < q → is_centered q z ≡ true → Multiple q (pos a -ℤ z) → z ≡ centered q a
centered_only q a z h e k =
    let same : reduce q z ≡ a = sym (multiple-congruent q (omega arith) a z k) ∙ mod-eq_of_lt h in
    sym (centered-reduce q z (omega arith) e) ∙ ap (centered q) same

-- for a q of 32 bits it is from −2,147,483,647 to 2,147,483,647: 32 bits hold it, and −2^31 does not occur
pub centered_fits : (q : ℕ) (z : ℤ) → q ≤ 4294967295 → is_centered q z ≡ true
    → (le_z (negsuc 2147483646) z ≡ true) × (le_z z (pos 2147483647) ≡ true)
unfolding up down
centered_fits q z h e =
    let r = in_range q z e in (
      is-at-most (negsuc 2147483646) z (omega (arith, r.above)),
      is-at-most z (pos 2147483647) (omega (arith, r.fits)),
    )

-- The range by the index of its numbers

pub index_range : (q i : ℕ) → i < q → is_centered q (from_lowest q i) ≡ true
unfolding from_lowest
index_range q i h =
    let d = difference_is i ((q - 1) / 2) in
    range-in q (sub_ℕ i ((q - 1) / 2)) (record { above = omega (arith, d); fits = omega (arith, d) })

pub index_in : ℕ → ℤ → ℕ
index_in q z = up z + (q - 1) / 2 - down z

module _ (q : ℕ) (z : ℤ) (e : is_centered q z ≡ true) where
  pub index-lt : index_in q z < q
  unfolding index_in up down
  index-lt = let r = in_range q z e in omega (arith, r.above, r.fits)

  pub index_back : from_lowest q (index_in q z) ≡ z
  unfolding from_lowest index_in
  index_back =
      let r = in_range q z e in
      is_unique (sub_ℕ (index_in q z) ((q - 1) / 2)) z (index_in q z) ((q - 1) / 2) (difference_is (index_in q z) ((q - 1) / 2))
      (omega (arith, r.above, r.fits))

-- a later index has a larger number
pub indices_rise : (q i j : ℕ) → i < j → lt_z (from_lowest q i) (from_lowest q j) ≡ true
unfolding from_lowest
indices_rise q i j h =
    let y = sub_ℕ i ((q - 1) / 2) in
    let z = sub_ℕ j ((q - 1) / 2) in
    is-less y z (omega (arith, difference_is i ((q - 1) / 2), difference_is j ((q - 1) / 2)))

pub indices_apart : (q i j : ℕ) → from_lowest q i ≡ from_lowest q j → i ≡ j
unfolding from_lowest
indices_apart q i j e = omega (arith, difference_is i ((q - 1) / 2), difference_is j ((q - 1) / 2), ap up e, ap down e)
