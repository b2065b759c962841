-- A map with one bit more.
use mathlib.Core.Path.{◌≡◌, refl, sym, ap}
use mathlib.Core.Bool.{true, ◌||◌}
use mathlib.Core.List.{List}
use Prim.Native.Nat.{ℕ, ◌*◌, ◌/◌, ◌%◌, ◌^◌, ◌<◌}
use native.Mathlib.Decide.{ℕ_discrete}
use native.Mathlib.Omega.{arith}
use borrow.Author.Tests.{eq-eqb, ne_eqb}
use lib.Bits.{bit_or}
use lib.Dec.{eqb}
use lib.ListN.{length, get_or, set}
use lib.Seq.{get_or-set_same, get_or-set_other}
use Rattle.theory.specs.RootMap.{bit}
use Rattle.theory.proofs.Tests.{or_right}
use Rattle.rootmap.specs.inner.Bits.{is_set, Added}
use Rattle.theory.proofs.Tests.{or_none}
use Rattle.rootmap.proofs.Or.{or_same, or_other, or_byte}

-- the byte of residue r with its bit set
abbrev pub byte_with : List ℕ → ℕ → ℕ
byte_with l r = bit_or (get_or l (r / 8) 0) (2 ^ (r % 8))

module _ (l : List ℕ) (r : ℕ) (h : r < 8 * length l) where
  abbrev new : List ℕ
  new = set l (r / 8) (byte_with l r)

  in_range : r / 8 < length l
  in_range = omega arith

  same_byte : get_or new (r / 8) 0 ≡ byte_with l r
  same_byte = get_or-set_same l (r / 8) (byte_with l r) 0 in_range

  bit-same : bit new r ≡ 1
  unfolding bit
  bit-same = rw (same_byte) (or_same (get_or l (r / 8) 0) (r % 8))

  bit-other : (s : ℕ) → (s ≡ r → ⊥) → Dec (s / 8 ≡ r / 8) → bit new s ≡ bit l s
  unfolding bit
  bit-other s ne (yes e) = rw (e, same_byte, or_other (get_or l (r / 8) 0) (r % 8) (s % 8) (λ q. ne (omega arith)))
  bit-other s ne (no d) = ap (λ (n : ℕ). n / 2 ^ (s % 8) % 2) (get_or-set_other l (r / 8) (s / 8) (byte_with l r) 0 d)

  is-set : (s : ℕ) → Dec (s ≡ r) → is_set new s ≡ (is_set l s || eqb s r)
  unfolding is_set
  is-set s (yes e) =
      rw (e, bit-same, eq-eqb r r refl) (sym (or_right (eqb (bit l r) 1) true refl))
  is-set s (no e) = rw (bit-other s e (ℕ_discrete (s / 8) (r / 8)), ne_eqb s r e) (sym (or_none (eqb (bit l s) 1)))

  are-bytes : ((i : ℕ) → get_or l i 0 < 256) → (i : ℕ) → Dec (i ≡ r / 8) → get_or new i 0 < 256
  are-bytes b i (yes e) = rw (e, same_byte) (or_byte (get_or l (r / 8) 0) (r % 8) (omega arith) (b (r / 8)))
  are-bytes b i (no e) = rw (get_or-set_other l (r / 8) i (byte_with l r) 0 e) (b i)

  -- one store adds one bit
  pub bit_added : Added (λ s. eqb s r) l new
  bit_added =
      record { bits = λ s. is-set s (ℕ_discrete s r); bytes = λ b i. are-bytes b i (ℕ_discrete i (r / 8)) }
