-- Hensel's lemma: a simple zero of g modulo p lifts in one way to a zero modulo p^e.
use mathlib.Core.Path.{◌≡◌, sym, ◌∙◌, subst₂}
use mathlib.Core.Logic.{◌↔◌}
use mathlib.Core.List.{List}
use Prim.Native.Nat.{ℕ, zero, suc, ◌+◌, ◌-◌, ◌*◌, ◌/◌, ◌%◌, ◌^◌, ◌≤◌, ◌<◌, ◌∣◌}
use native.Mathlib.Nat.{mul_comm, mod-lt, dvd-mul_right_of_dvd, dvd-add_iff_right, mul-dvd-mul_left, mul-div_cancel'}
use native.Mathlib.Nat.{pow-suc}
use native.Mathlib.Decide.{dec_le}
use native.Mathlib.Omega.{arith}
use Rattle.theory.specs.Prime.{Prime}
use Rattle.theory.specs.Polynomial.{value, derivative}
use Rattle.theory.proofs.Numbers.Power.{pow_pos, pow-one, base_dvd}
use Rattle.theory.proofs.Numbers.Prime.{prime_pos}
use Rattle.theory.proofs.Numbers.Euclid.{euclid_power}
use Rattle.theory.proofs.Numbers.Inverse.{linear-solution}
use Rattle.theory.proofs.Numbers.Congruence.{Congruent, cong_refl, cong_sym, cong_trans, cong_of_eq, cong_down}
use Rattle.theory.proofs.Numbers.Congruence.{cong_add, cong_mul, cong_dvd, cong_apart, apart_cong}
use Rattle.theory.proofs.Polynomials.Congruence.{cong_argument}
use Rattle.theory.proofs.Polynomials.Quotient.{quotient, quotient-value, quotient-derivative}

module _ (p : ℕ) (P : Prime p) (g : List ℕ) (c : ℕ) (simple : ¬ (p ∣ value (derivative g) c)) where
  hp : 0 < p
  hp = prime_pos P

  -- above c the quotient (g(r + k) − g(r)) / k is g'(c) modulo p
  slope : (r k : ℕ) → Congruent p r c → p ∣ k → Congruent p (value (quotient r g) (r + k)) (value (derivative g) c)
  slope r k near d =
      cong_trans (cong_argument (quotient r g) (apart_cong r d))
      (cong_trans (cong_of_eq (quotient-derivative r g)) (cong_argument (derivative g) near))

  -- Two zeros above c are congruent modulo p^e

  ordered : (e r k : ℕ) → Congruent p r c → p ∣ k → p ^ e ∣ value g r → p ^ e ∣ value g (r + k) → p ^ e ∣ k
  ordered e r k near d zr zk =
      let q = value (quotient r g) (r + k) in
      let w : p ^ e ∣ k * q = (dvd-add_iff_right (p ^ e) zr).1 (rw (quotient-value r k g) at zk) in
      euclid_power p P e q k (λ u. simple (cong_dvd (slope r k near d) u)) (rw (mul_comm k q) at w)

  pub zeros-congruent : (e r t : ℕ) → Congruent p r c → Congruent p t c → p ^ e ∣ value g r → p ^ e ∣ value g t → Congruent (p ^ e) r t
  zeros-congruent e r t near near' zr zt = pick (dec_le r t)
    where
      go : (x y : ℕ) → x ≤ y → Congruent p x c → Congruent p y c → p ^ e ∣ value g x → p ^ e ∣ value g y → Congruent (p ^ e) y x
      go x y h u v zx zy =
          let s : x + (y - x) ≡ y = omega arith in
          let d : p ∣ y - x = cong_apart hp (cong_trans u (cong_trans (cong_sym v) (cong_of_eq (sym s)))) in
          cong_trans (cong_of_eq (sym s)) (apart_cong x (ordered e x (y - x) u d zx (rw s zy)))

      pick : Dec (r ≤ t) → Congruent (p ^ e) r t
      pick (yes h) = cong_sym (go r t h near near' zr zt)
      pick (no h) = go t r (omega arith) near' near zt zr

  -- There is one: from u modulo p^e to u + p^e·y modulo p^(e + 1)

  module _ (e u : ℕ) (near : Congruent p u c) (deep : 0 < e) (d : p ^ e ∣ value g u) where
    abbrev m : ℕ
    m = p ^ e

    next : (y : ℕ) × (Congruent p (u + m * y) c) × (p ^ suc e ∣ value g (u + m * y))
    next =
        let w = value g u / m in
        let (y, s) = linear-solution p P (value (derivative g) c) w simple in
        let step : p ∣ m * y = dvd-mul_right_of_dvd p (base_dvd p deep) y in
        let q = value (quotient u g) (u + m * y) in
        let lifted : p ∣ w + y * q =
        cong_dvd (cong_add cong_refl (cong_mul cong_refl (cong_sym (slope u (m * y) near step)))) s in
        let sum : m * (w + y * q) ≡ value g (u + m * y) =
        together w y q (value g u) (mul-div_cancel' m d) ∙ sym (quotient-value u (m * y) g) in
        (y, cong_trans (apart_cong u step) near, subst₂ (λ (a b : ℕ). a ∣ b) (sym (pow-suc p e)) sum (mul-dvd-mul_left p m lifted))
      where
        together : (w y q x : ℕ) → m * w ≡ x → m * (w + y * q) ≡ x + m * y * q
        together w y q x s = omega arith

  pub zero-lifts : p ∣ value g c → (e : ℕ) → (u : ℕ) × (Congruent p u c) × (p ^ suc e ∣ value g u)
  zero-lifts z zero = (c, cong_refl, rw (pow-one p) z)
  zero-lifts z (suc e) =
      let (u, near, d) = zero-lifts z e in
      let (y, near', d') = next (suc e) u near (omega arith) d in
      (u + p ^ suc e * y, near', d')

  -- so the zeros modulo p^e above c are the numbers of one class a/e
  pub hensel : p ∣ value g c → (e : ℕ) → 0 < e
      → (a : ℕ) × (a < p ^ e) × ((r : ℕ) → ((p ^ e ∣ value g r) × Congruent p r c) ↔ (r % p ^ e ≡ a))
  hensel z zero deep = absurd (omega arith)
  hensel z (suc e) deep = go (zero-lifts z e)
    where
      go : (u : ℕ) × (Congruent p u c) × (p ^ suc e ∣ value g u)
          → (a : ℕ) × (a < p ^ suc e) × ((r : ℕ) → ((p ^ suc e ∣ value g r) × Congruent p r c) ↔ (r % p ^ suc e ≡ a))
      go (u, near, d) =
          let m = p ^ suc e in (
            u % m,
            mod-lt u (pow_pos p hp (suc e)),
            (λ r. (
              (λ k. (zeros-congruent (suc e) r u k.1 near k.0 d).same),
              (λ q.
                  let same : Congruent m u r = record { same = sym q } in
                  (cong_dvd (cong_argument g same) d, cong_trans (cong_sym (cong_down (base_dvd p deep) same)) near)),
            )),
          )
