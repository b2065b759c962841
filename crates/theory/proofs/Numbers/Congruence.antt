-- Congruence modulo m.
use mathlib.Core.Path.{◌≡◌, refl, sym, ap, ◌∙◌}
use Prim.Native.Nat.{ℕ, suc, ◌+◌, ◌-◌, ◌*◌, ◌/◌, ◌%◌, ◌<◌, ◌∣◌}
use native.Mathlib.Nat.{add-mod, mod-mod, mul-add-mod_self_right, div-add-mod', mod-mod_of_dvd, mul_comm, mod-eq-zero_of_dvd}
use native.Mathlib.Nat.{dvd_of_mod-eq-zero, zero-mod, add-mul-mod_self_right, mod-eq_of_lt, mod-lt, mul-lt-mul_of_pos_left}
use native.Mathlib.Nat.{zero-add, add-zero, add_comm, dvd-zero}
use native.Mathlib.Omega.{arith}
use lib.Arith.{digits_mod}

-- x ≡ y mod m, as a record, so that x and y can be implicit
pub record Congruent (m x y : ℕ) : Type 0 where
  pub same : x % m ≡ y % m

pub cong_refl : {m x : ℕ} → Congruent m x x
cong_refl = record { same = refl }

pub cong_sym : {m x y : ℕ} → Congruent m x y → Congruent m y x
cong_sym e = record { same = sym e.same }

pub cong_trans : {m x y z : ℕ} → Congruent m x y → Congruent m y z → Congruent m x z
cong_trans e f = record { same = e.same ∙ f.same }

pub cong_of_eq : {m x y : ℕ} → x ≡ y → Congruent m x y
cong_of_eq {m} e = record { same = ap (λ (z : ℕ). z % m) e }

pub cong_mod : (m a : ℕ) → Congruent m (a % m) a
cong_mod m a = record { same = mod-mod a m }

pub cong_residue : {m x y : ℕ} → x ≡ y % m → Congruent m x y
cong_residue {m} {x} {y} e = cong_trans (cong_of_eq e) (cong_mod m y)

-- a number below m that differs from x by a multiple of m
pub residue_is : (m r q x : ℕ) → r < m → x ≡ r + q * m → r ≡ x % m
residue_is m r q x h e = sym (mod-eq_of_lt h) ∙ sym (add-mul-mod_self_right r q m) ∙ ap (λ (z : ℕ). z % m) (sym e)

pub cong_add : {m a b c d : ℕ} → Congruent m a b → Congruent m c d → Congruent m (a + c) (b + d)
cong_add {m} {a} {b} {c} {d} e f = record { same = add-mod a c m ∙ rw (e.same, f.same) (sym (add-mod b d m)) }

mul_mod_left : (a b m : ℕ) → a % m * b % m ≡ a * b % m
mul_mod_left a b m =
    let s : a / m * b * m + a % m * b ≡ a * b = omega (arith, ap (λ (x : ℕ). x * b) (div-add-mod' a m)) in
    sym (mul-add-mod_self_right (a / m * b) m (a % m * b)) ∙ ap (λ (x : ℕ). x % m) s

cong_mul_left : {m a b : ℕ} (c : ℕ) → Congruent m a b → Congruent m (a * c) (b * c)
cong_mul_left {m} {a} {b} c e = record { same = sym (mul_mod_left a c m) ∙ rw e.same (mul_mod_left b c m) }

pub cong_mul : {m a b c d : ℕ} → Congruent m a b → Congruent m c d → Congruent m (a * c) (b * d)
cong_mul {b} {c} {d} e f =
    cong_trans (cong_mul_left c e) (cong_trans (cong_of_eq (mul_comm b c)) (cong_trans (cong_mul_left b f) (cong_of_eq (mul_comm d b))))

-- a congruence holds modulo a divisor
pub cong_down : {m k x y : ℕ} → k ∣ m → Congruent m x y → Congruent k x y
cong_down {m} {k} {x} {y} d e =
    record { same = sym (mod-mod_of_dvd k x d) ∙ ap (λ (z : ℕ). z % k) e.same ∙ mod-mod_of_dvd k y d }

-- of two congruent numbers m divides both or neither
pub cong_dvd : {m x y : ℕ} → Congruent m x y → m ∣ x → m ∣ y
cong_dvd {m} {x} {y} e d = dvd_of_mod-eq-zero m (sym e.same ∙ mod-eq-zero_of_dvd m d)

pub dvd_cong : {m x : ℕ} → m ∣ x → Congruent m x 0
dvd_cong {m} {x} d = record { same = mod-eq-zero_of_dvd m d ∙ sym (zero-mod m) }

-- a summand may be taken away
pub cong_cancel : {m x y : ℕ} (z : ℕ) → 0 < m → Congruent m (x + z) (y + z) → Congruent m x y
cong_cancel {m} {x} {y} z hm e =
    cong_trans (cong_sym (whole x)) (cong_trans (cong_add e (cong_refl {x = z * (m - 1)})) (whole y))
  where
    whole : (a : ℕ) → Congruent m (a + z + z * (m - 1)) a
    whole a =
        let q : suc (m - 1) ≡ m = omega arith in
        let s : a + z + z * (m - 1) ≡ a + z * m = omega (arith, ap (λ (x : ℕ). z * x) q) in
        record { same = ap (λ (x : ℕ). x % m) s ∙ add-mul-mod_self_right a z m }

-- x and x + k agree modulo m exactly if m divides k
pub cong_apart : {m x k : ℕ} → 0 < m → Congruent m x (x + k) → m ∣ k
cong_apart {m} {x} {k} hm e =
    cong_dvd (cong_cancel x hm (cong_trans (cong_of_eq (zero-add x)) (cong_trans e (cong_of_eq (add_comm x k))))) (dvd-zero m)

pub apart_cong : {m k : ℕ} (x : ℕ) → m ∣ k → Congruent m (x + k) x
apart_cong x d = cong_trans (cong_add cong_refl (dvd_cong d)) (cong_of_eq (add-zero x))

-- (k·x) mod (k·m)
pub mod_times : (k x m : ℕ) → 0 < k → 0 < m → k * x % (k * m) ≡ k * (x % m)
mod_times k x m hk hm =
    let s : k * x ≡ x / m * (k * m) + k * (x % m) = omega (arith, ap (λ (z : ℕ). k * z) (div-add-mod' x m)) in
    ap (λ (z : ℕ). z % (k * m)) s ∙ digits_mod (x / m) (mul-lt-mul_of_pos_left (mod-lt x hm) hk)
