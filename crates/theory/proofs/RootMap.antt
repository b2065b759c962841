-- The root map: its bits are the members of the list, and its ones are counted as they are.
use mathlib.Core.Path.{◌≡◌, refl, sym, ap, ◌∙◌}
use mathlib.Core.Bool.{Bool, true, false, ◌&&◌}
use mathlib.Core.List.{List}
use Prim.Native.Nat.{ℕ, zero, suc, ◌+◌, ◌*◌, ◌/◌, ◌%◌, ◌^◌, ◌≤◌, ◌<◌}
use native.Mathlib.Nat.{pow-zero, pow-succ', div-one, div-div-eq-div-mul, add-zero}
use native.Mathlib.Omega.{arith}
use borrow.Author.Tests.{lt-ltb, le-ltb}
use lib.Dec.{eqb, ltb}
use lib.ListN.{length, get_or}
use Rattle.theory.specs.Class.{Class}
use Rattle.theory.specs.ClassList.{members}
use Rattle.theory.specs.Shortest.{count}
use Rattle.theory.specs.Rival.{Rival}
use Rattle.theory.specs.RootMap.{bit_of, bits_from, bytes_from, map_length, root_map, bit, ones}
use Rattle.theory.proofs.Range.{passing_same}
use Rattle.theory.proofs.Classes.Members.{rival_members}

-- Bits of bytes

-- every bit is 0 or 1
abbrev pub Bits : (ℕ → ℕ) → Type 0
Bits b = (r : ℕ) → b r < 2

pub bits_of : (S : ℕ → Bool) (m : ℕ) → Bits (bit_of S m)
unfolding bit_of
bits_of S m r = go (ltb r m && S r) refl
  where
    go : (t : Bool) → (ltb r m && S r) ≡ t → bit_of S m r < 2
    go true e = rw (e, bit_of) (omega arith)
    go false e = rw (e, bit_of) (omega arith)

pub bit_in : (S : ℕ → Bool) (m r : ℕ) → r < m → eqb (bit_of S m r) 1 ≡ S r
unfolding bit_of
bit_in S m r h = go (S r) refl
  where
    go : (t : Bool) → S r ≡ t → eqb (bit_of S m r) 1 ≡ S r
    go true e = rw (lt-ltb r m h, e, bit_of)
    go false e = rw (lt-ltb r m h, e, bit_of)

-- a spare bit is 0
pub bit_spare : (S : ℕ → Bool) (m r : ℕ) → m ≤ r → bit_of S m r ≡ 0
unfolding bit_of
bit_spare S m r h = rw (le-ltb r m h, bit_of)

pub bits_lt : (b : ℕ → ℕ) → Bits b → (k r : ℕ) → bits_from b k r < 2 ^ k
unfolding bits_from
bits_lt b h zero r = rw (pow-zero 2) (omega arith)
bits_lt b h (suc k) r = omega (arith, pow-succ' 2 k, bits_lt b h k (suc r), h r)

bits_at : (b : ℕ → ℕ) → Bits b → (k r i : ℕ) → i < k → bits_from b k r / 2 ^ i % 2 ≡ b (r + i)
unfolding bits_from
bits_at b h zero r i l = absurd (omega arith)
bits_at b h (suc k) r zero l = rw (pow-zero 2, div-one (b r + 2 * bits_from b k (suc r)), add-zero r) (omega (arith, h r))
bits_at b h (suc k) r (suc i) l =
    let half : (b r + 2 * bits_from b k (suc r)) / 2 ≡ bits_from b k (suc r) = omega (arith, h r) in
    let next : suc r + i ≡ r + suc i = omega arith in
    ap (λ (x : ℕ). (b r + 2 * bits_from b k (suc r)) / x % 2) (pow-succ' 2 i)
    ∙ ap (λ (x : ℕ). x % 2) (sym (div-div-eq-div-mul (b r + 2 * bits_from b k (suc r)) 2 (2 ^ i)))
    ∙ ap (λ (x : ℕ). x / 2 ^ i % 2) half
    ∙ bits_at b h k (suc r) i (omega arith)
    ∙ ap b next

pub byte_at : (b : ℕ → ℕ) (k j i : ℕ) → i < k → get_or (bytes_from b k j) i 0 ≡ bits_from b 8 (8 * (j + i))
unfolding bytes_from
byte_at b zero j i l = absurd (omega arith)
byte_at b (suc k) j zero l = ap (λ (x : ℕ). bits_from b 8 (8 * x)) (sym (add-zero j))
byte_at b (suc k) j (suc i) l =
    let next : suc j + i ≡ j + suc i = omega arith in
    byte_at b k (suc j) i (omega arith) ∙ ap (λ (x : ℕ). bits_from b 8 (8 * x)) next

pub bytes_length : (b : ℕ → ℕ) (k j : ℕ) → length (bytes_from b k j) ≡ k
unfolding bytes_from
bytes_length b zero j = refl
bytes_length b (suc k) j = ap suc (bytes_length b k (suc j))

-- bit r of the bytes is the bit of residue r
pub bytes_bit : (b : ℕ → ℕ) → Bits b → (k r : ℕ) → r < 8 * k → bit (bytes_from b k 0) r ≡ b r
unfolding bit
bytes_bit b h k r l =
    let i : r / 8 < k = omega arith in
    let place : 8 * (0 + r / 8) + r % 8 ≡ r = omega arith in
    ap (λ (x : ℕ). x / 2 ^ (r % 8) % 2) (byte_at b k 0 (r / 8) i)
    ∙ bits_at b h 8 (8 * (0 + r / 8)) (r % 8) (omega arith)
    ∙ ap b place

-- The map

pub map-covers : (p n r : ℕ) → r < p ^ n → r < 8 * map_length (p ^ n)
unfolding map_length
map-covers p n r h = omega arith

-- below pⁿ the map's bits are the members of the list
pub map-bit : (p n : ℕ) (l : List Class) (r : ℕ) → r < p ^ n → eqb (bit (root_map p n l) r) 1 ≡ members p l r
unfolding root_map
map-bit p n l r h =
    ap (λ (x : ℕ). eqb x 1) (bytes_bit (bit_of (members p l) (p ^ n)) (bits_of (members p l) (p ^ n)) (map_length (p ^ n)) r
    (map-covers p n r h))
    ∙ bit_in (members p l) (p ^ n) r h

-- "spare high bits of the last byte are zero"
pub map_spare : (p n : ℕ) (l : List Class) (r : ℕ) → p ^ n ≤ r → r < 8 * map_length (p ^ n) → bit (root_map p n l) r ≡ 0
unfolding root_map
map_spare p n l r h b =
    bytes_bit (bit_of (members p l) (p ^ n)) (bits_of (members p l) (p ^ n)) (map_length (p ^ n)) r b ∙ bit_spare (members p l) (p ^ n) r h

-- maps that agree in their first pⁿ bits have as many ones
pub ones_agree : (p n : ℕ) (x y : List ℕ) → ((r : ℕ) → r < p ^ n → bit x r ≡ bit y r) → ones p n x ≡ ones p n y
unfolding ones
ones_agree p n x y h =
    ap length (passing_same (λ r. eqb (bit x r) 1) (λ r. eqb (bit y r) 1) (p ^ n) 0 (λ r l b. ap (λ (z : ℕ). eqb z 1) (h r (omega arith))))

-- a rival's map has the set's bits, and its ones are the set's count
module _ (S : ℕ → Bool) (p n : ℕ) (R : List Class) (rival : Rival S p n R) where
  pub rival-bit : (r : ℕ) → r < p ^ n → eqb (bit (root_map p n R) r) 1 ≡ S r
  rival-bit r h = map-bit p n R r h ∙ rival_members S p n R rival r h

  pub rival-ones : ones p n (root_map p n R) ≡ count S p n
  unfolding ones count
  rival-ones = ap length (passing_same (λ r. eqb (bit (root_map p n R) r) 1) S (p ^ n) 0 (λ r l b. rival-bit r (omega arith)))
