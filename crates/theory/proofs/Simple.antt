-- Simple roots lift in one way (02, 2.14): the roots above a simple digit, their class in the list, and its mark.
use mathlib.Core.Path.{◌≡◌, sym, ap, ◌∙◌}
use mathlib.Core.Bool.{true, false, not}
use mathlib.Core.List.{List, [], ◌∷◌}
use Prim.Native.Nat.{ℕ, ◌-◌, ◌%◌, ◌^◌, ◌<◌}
use native.Mathlib.Nat.{mod-lt, mod-eq_of_lt}
use native.Mathlib.Decide.{dec_lt}
use native.Mathlib.Omega.{arith}
use borrow.Author.Tests.{eqb-true, eq-eqb, not-true}
use lib.Dec.{eqb}
use lib.IntN.{ℤ, pos}
use Rattle.theory.specs.Lists.{In}
use Rattle.theory.specs.Range.{all_below}
use Rattle.theory.specs.Prime.{Prime}
use Rattle.theory.specs.Polynomial.{reduced, value, vanishes, derivative, zeros, roots}
use Rattle.theory.specs.Degree.{all_zero, primitive}
use Rattle.theory.specs.Class.{Class, class, IsClass, Member}
use Rattle.theory.specs.Shortest.{count}
use Rattle.theory.specs.SignedClass.{signed_class, signed}
use Rattle.theory.specs.SignedList.{signed_list}
use Rattle.theory.specs.Mark.{mark_by, mark}
use Rattle.theory.specs.Simple.{content_valuation, primitive_part, is_simple_root, SimpleDigit, is_above, is_exceptional}
use Rattle.theory.proofs.Tests.{contradiction, and_left, and_right, and_intro, not_holding}
use Rattle.theory.proofs.Range.{all_elim, all_intro}
use Rattle.theory.proofs.Numbers.Power.{pow-one}
use Rattle.theory.proofs.Numbers.Prime.{prime_pos, divides_dvd, dvd_divides}
use Rattle.theory.proofs.Numbers.Congruence.{Congruent, cong_mod, cong_dvd}
use Rattle.theory.proofs.Polynomials.Congruence.{cong_argument}
use Rattle.theory.proofs.Polynomials.Zeros.{zero_dvd, dvd_zero_at}
use Rattle.theory.proofs.Polynomials.Roots.{everything, content-below, roots-primitive, root-vanishes, everything-digits}
use Rattle.theory.proofs.Polynomials.Hensel.{hensel}
use Rattle.theory.proofs.Classes.OneAbove.{OneAbove, Everything, above-count, not-everything, one-maximal}
use Rattle.theory.proofs.Mark.{vanishes_periodic, derivative-vanishes, mark-over, mark-all-zero, mark-deep, mark-one-none}
use Rattle.theory.proofs.Mark.{mark-zero-all}
use Rattle.theory.proofs.Signed.Classes.{signed-class, natural-signed}
use Rattle.theory.proofs.Signed.Entries.{maximal-list, signed-everything}

module _ (p : ℕ) (g : List ℕ) (c : ℕ) where
  pub simple-intro : vanishes p g c ≡ true → vanishes p (derivative g) c ≡ false → is_simple_root p g c ≡ true
  unfolding is_simple_root
  simple-intro e d = and_intro (vanishes p g c) (not (vanishes p (derivative g) c)) e (ap not d)

  pub simple-elim : is_simple_root p g c ≡ true → (vanishes p g c ≡ true) × (vanishes p (derivative g) c ≡ false)
  unfolding is_simple_root
  simple-elim h =
      let slope = vanishes p (derivative g) c in
      (and_left (vanishes p g c) (not slope) h, not-true slope (and_right (vanishes p g c) (not slope) h))

module _ {f : List ℤ} {p n c : ℕ} (P : Prime p) (D : SimpleDigit f p n c) where
  abbrev g : List ℕ
  g = primitive_part f p n

  abbrev s : ℕ
  s = content_valuation f p n

  hp : 0 < p
  hp = prime_pos P

  zero-here : vanishes p g c ≡ true
  zero-here = (simple-elim p g c D.simple).0

  slope-here : vanishes p (derivative g) c ≡ false
  slope-here = (simple-elim p g c D.simple).1

  -- where all coefficients are zero modulo pⁿ, no digit is simple
  pub simple-left : all_zero (reduced f p n) ≡ false
  unfolding primitive_part
  simple-left =
      not_holding (all_zero (reduced f p n)) (λ z. contradiction (derivative-vanishes p (reduced f p n) z c) slope-here)

  -- "with s below n"
  pub simple-below : s < n
  unfolding content_valuation
  simple-below = content-below f p n P simple-left

  -- the roots are the zeros of g modulo p^(n − s)
  roots-are : roots f p n ≡ zeros g p (n - s)
  unfolding content_valuation primitive_part
  roots-are = roots-primitive f p n P simple-left

  -- Hensel's lemma for g: the roots above c are the residues of one class of level n − s
  pub class-above : (a : ℕ) × OneAbove (roots f p n) p n c (n - s) a
  unfolding vanishes
  class-above =
      let e = n - s in
      let (a, small, exactly) =
      hensel p P g c (λ d. contradiction (dvd_divides p (value (derivative g) c) d) slope-here) (divides_dvd p (value g c) zero-here) e
      (omega (arith, simple-below)) in
      let own : c % p ≡ c = mod-eq_of_lt D.digit in (
        a,
        record {
          deep = omega (arith, simple-below);
          is_class = record { level_fits = omega arith; residue_fits = small };
          exactly = λ r. (
            (λ k. (exactly r).0 (zero_dvd g p e r (rw (← roots-are) k.0), record { same = k.1 ∙ sym own })),
            (λ q. let (d, near) = (exactly r).1 q in (rw roots-are (dvd_zero_at g p e r d), near.same ∙ own)),
          );
        },
      )

  -- "exactly p^s roots of f modulo pⁿ are congruent to c modulo p"
  pub lifts-number : count (is_above (roots f p n) p c) p n ≡ p ^ s
  lifts-number =
      let back : n - (n - s) ≡ s = omega (arith, simple-below) in
      above-count P.two class-above.1 ∙ ap (λ (x : ℕ). p ^ x) back

  -- Everything is a root in the exceptional case, and only there

  pub exceptional-everything : is_exceptional f p n ≡ true → Everything (roots f p n) p n
  unfolding is_exceptional vanishes
  exceptional-everything h r l =
      let all = all_below (vanishes p g) p in
      let one : n - s ≡ 1 = eqb-true (n - s) 1 (and_left (eqb (n - s) 1) all h) in
      let at : vanishes p g (r % p) ≡ true = all_elim (vanishes p g) p (r % p) (and_right (eqb (n - s) 1) all h) (mod-lt r hp) in
      rw (roots-are, one)
      (dvd_zero_at g p 1 r (rw (pow-one p) (cong_dvd (cong_argument g (cong_mod p r)) (divides_dvd p (value g (r % p)) at))))

  pub usual-some : is_exceptional f p n ≡ false → ¬ Everything (roots f p n) p n
  unfolding is_exceptional primitive_part
  usual-some h all = go (dec_lt 1 (n - s))
    where
      go : Dec (1 < n - s) → ⊥
      go (yes l) = not-everything P.two class-above.1 l all
      go (no l) =
          contradiction
          (and_intro (eqb (n - s) 1) (all_below (vanishes p g) p) (eq-eqb (n - s) 1 (omega (arith, simple-below)))
          (all_intro (vanishes p g) p (everything-digits f p n P simple-left all))) h

  pub exceptional-list : is_exceptional f p n ≡ true → signed_list (roots f p n) p n ≡ signed_class (pos 0) 0 ∷ []
  exceptional-list h =
      signed-everything (roots f p n) p n hp (everything (roots f p n) p n P.two (exceptional-everything h))

  -- otherwise the class is listed
  pub usual-listed : is_exceptional f p n ≡ false → In (signed p (class class-above.0 (n - s))) (signed_list (roots f p n) p n)
  usual-listed h =
      let d = class class-above.0 (n - s) in
      let k = class-above.1.is_class in
      maximal-list (roots f p n) p n hp (signed p d) (signed-class p n hp d k)
      (rw (natural-signed p n hp d k) (one-maximal P.two class-above.1 (usual-some h)))

  -- Marks

  -- a class of level 1 or more above c has mark 1
  pub mark-above : (d : Class) → 0 < d.level → d.residue % p ≡ c → mark f p n d ≡ 1
  unfolding mark primitive_part mark_by
  mark-above d deep near =
      let w = reduced f p n in
      let S = vanishes p (derivative (primitive p w)) in
      let periodic = vanishes_periodic p (derivative (primitive p w)) in
      let here : S d.residue ≡ false =
      periodic d.residue c (record { same = near ∙ sym (mod-eq_of_lt D.digit) }) ∙ slope-here in
      mark-over w p n hp d ∙ mark-deep S p n hp periodic d deep ∙ rw here

  -- and one with a member above c has not mark 0
  pub mark-not-zero : (d : Class) → IsClass p n d → (r : ℕ) → Member p n d r → r % p ≡ c → ¬ (mark f p n d ≡ 0)
  unfolding mark primitive_part
  mark-not-zero d k r m near e =
      let w = reduced f p n in
      contradiction
      (sym (vanishes_periodic p (derivative (primitive p w)) r c (record { same = near ∙ sym (mod-eq_of_lt D.digit) }))
      ∙ mark-zero-all w p n hp d k e r m) slope-here

-- Conversely, a class of roots with mark 1 lies above simple digits
module _ (f : List ℤ) {p n : ℕ} (P : Prime p) (d : Class) (k : IsClass p n d) (m : mark f p n d ≡ 1) where
  mark-one-left : all_zero (reduced f p n) ≡ false
  unfolding mark
  mark-one-left =
      not_holding (all_zero (reduced f p n)) (λ z. omega (arith, m, mark-all-zero (reduced f p n) p n (prime_pos P) z d))

  pub mark-one-simple : (r : ℕ) → Member p n d r → roots f p n r ≡ true → SimpleDigit f p n (r % p)
  unfolding primitive_part mark
  mark-one-simple r member root =
      let g = primitive p (reduced f p n) in
      let down : Congruent p (r % p) r = cong_mod p r in
      record {
        digit = mod-lt r (prime_pos P);
        simple =
            simple-intro p g (r % p) (vanishes_periodic p g (r % p) r down ∙ root-vanishes f p n P mark-one-left r root)
            (vanishes_periodic p (derivative g) (r % p) r down ∙ mark-one-none (reduced f p n) p n (prime_pos P) d k m r member);
      }
