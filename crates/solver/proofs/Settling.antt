-- One class settled: whole at once, not at all, or after a division by the common power of p.
use mathlib.Core.Path.{◌≡◌, refl, sym, ap, ◌∙◌}
use mathlib.Core.Bool.{Bool, true, false}
use mathlib.Core.List.{List, [], ◌∷◌, map}
use Prim.Native.Nat.{ℕ, ◌+◌, ◌-◌, ◌*◌, ◌/◌, ◌^◌, ◌≤◌, ◌<◌, ◌∣◌}
use native.Mathlib.Nat.{div-le_self, div-lt_iff_lt-mul, le_trans, mul-div_cancel, pow-le-pow_right, pow-zero}
use native.Mathlib.Omega.{arith}
use lib.Dec.{eqb}
use lib.ListN.{length, length-map}
use Rattle.theory.specs.Range.{all_below}
use Rattle.theory.specs.Polynomial.{zeros}
use Rattle.theory.specs.Degree.{least_valuation, primitive, degree_bound, all_zero, every}
use Rattle.theory.specs.Live.{live_of}
use Rattle.theory.specs.inner.Polynomial.{coef}
use Rattle.theory.proofs.Tests.{contradiction}
use Rattle.theory.proofs.Numbers.Power.{pow_pos, pow_split}
use Rattle.theory.proofs.Numbers.Prime.{prime_pos}
use Rattle.theory.proofs.Range.{all_one, all_intro}
use Rattle.theory.proofs.Classes.Tree.{tree_whole, tree_none}
use Rattle.theory.proofs.Polynomials.Arithmetic.{coef-divided, divided-map}
use Rattle.theory.proofs.Polynomials.Degree.{least-valuation-dvd, least-valuation-lt, some-passes}
use Rattle.theory.proofs.Polynomials.Highest.{some-map, highest-map}
use Rattle.theory.proofs.Polynomials.Zeros.{zeros-all, zeros_constant, zeros-divided}
use Rattle.theory.proofs.Live.Carried.{live-divided}
use Rattle.solver.specs.declared.entry.Entry.{Entry}
use Rattle.solver.specs.declared.tree.PrimePower.{PrimePower}
use Rattle.solver.specs.declared.tree.Node.{Node}
use Rattle.solver.specs.inner.Table.{Below, prime_to, degree_modulo, nonzero_modulo}
use Rattle.solver.specs.inner.Recursion.{IsPrimePower, lowered, AtNode, Primitive, Done, most_classes}
use Rattle.solver.proofs.Tables.{below_entry}
use Rattle.solver.proofs.Appended.{added_none}
use Rattle.solver.proofs.Most.{most_some, tree-most}

-- where a coefficient is not zero there is one
pub some_length : (g : List ℕ) → all_zero g ≡ false → 0 < length g
unfolding all_zero every
some_length [] z = absurd (contradiction refl z)
some_length (a ∷ g) z = omega arith

module _ {f : List ℕ} {M : PrimePower} {x : Node} (N : AtNode f M x) where
  abbrev p : ℕ
  p = M.p

  abbrev e : ℕ
  e = M.exponent

  abbrev S : ℕ → Bool
  S = zeros f p e

  hp : 0 < p
  hp = prime_pos N.modulus.prime

  below : Below (p ^ e) f
  below = rw (← N.modulus.power_is) N.below

  pub zero-whole : all_zero f ≡ true → all_below S (p ^ x.left) ≡ true
  zero-whole z = all_intro S (p ^ x.left) (λ y u. zeros-all f p e z y)

  -- with no level left there is one residue, a root exactly if the constant coefficient is 0
  pub last-whole : x.left ≡ 0 → all_below S (p ^ x.left) ≡ eqb (coef f 0) 0
  last-whole z = rw (z, pow-zero p) (all_one S ∙ zeros_constant f p e (below.at 0))

  pub last_none : (k live : ℕ) (out : List Entry) → x.left ≡ 0 → all_below S (p ^ x.left) ≡ false
      → Done S p x k (record { k = k; whole = false; live = live }) out out
  last_none k live out z w = record { added = rw (z, tree_none S p (rw z at w)) (added_none k out); is_whole = sym w }

  -- a class that is whole takes room
  pub whole_room : {k n : ℕ} → all_below S (p ^ x.left) ≡ true → k + most_classes p f ≤ n → k < n
  whole_room w fits = omega (arith, ap length (tree_whole S p x.left w), tree-most p N.modulus.prime f e x.left below)

-- The division by p^s

module _ {f : List ℕ} {M : PrimePower} (I : IsPrimePower M) (b : Below M.power f) (z : all_zero f ≡ false) where
  abbrev s : ℕ
  s = least_valuation M.p f

  below_power : Below (M.p ^ M.exponent) f
  below_power = rw (← I.power_is) b

  pub valuation-lt : least_valuation M.p f < M.exponent
  valuation-lt =
      least-valuation-lt M.p I.prime.two f z M.exponent (below_entry (M.p ^ M.exponent) f below_power)

  -- p^s is a word of 32 bits
  pub power-fits : M.p ^ least_valuation M.p f ≤ 4294967295
  power-fits =
      omega (
        arith,
        I,
        pow-le-pow_right {n = M.p} (prime_pos I.prime) {i = s} {j = M.exponent} (omega (arith, valuation-lt)),
      )

  split : M.p ^ M.exponent ≡ M.p ^ (M.exponent - s) * M.p ^ s
  split = pow_split M.p {t = s} {n = M.exponent} (omega (arith, valuation-lt))

  quotient_power : M.power / M.p ^ s ≡ M.p ^ (M.exponent - s)
  quotient_power =
      ap (λ (m : ℕ). m / M.p ^ s) (I.power_is ∙ split)
      ∙ mul-div_cancel (M.p ^ (M.exponent - s)) (pow_pos M.p (prime_pos I.prime) s)

-- by f divided by the highest common power of p
primitive-zeros : (p : ℕ) → 2 ≤ p → (f : List ℕ) (i : ℕ) → zeros f p (least_valuation p f + i) ≡ zeros (primitive p f) p i
unfolding primitive
primitive-zeros p two f i = zeros-divided f p (least_valuation p f) i (omega arith) (least-valuation-dvd p two f)

primitive-live : (p : ℕ) → 2 ≤ p → (f : List ℕ) (e levels : ℕ) → least_valuation p f ≤ e
    → live_of f p e levels ≡ live_of (primitive p f) p (e - least_valuation p f) levels
unfolding primitive
primitive-live p two f e levels h =
    live-divided p two e (least_valuation p f) (e - least_valuation p f) levels f (omega arith) (least-valuation-dvd p two f)

-- the quotient modulo what is left: f divided by the highest common power of p. Its zeros are those of f, one power for another, and so are
-- its live classes; its degree modulo p is D
pub record Quotient (f : List ℕ) (M : PrimePower) (x : Node) : Type 0 where
  pub primitive_at : Primitive (primitive M.p f) (lowered M (least_valuation M.p f)) x
  pub degree : degree_modulo M.p (primitive M.p f) ≡ most_classes M.p f
  pub same_zeros : (i : ℕ) → zeros f M.p (least_valuation M.p f + i) ≡ zeros (primitive M.p f) M.p i
  pub all_zeros : zeros f M.p M.exponent ≡ zeros (primitive M.p f) M.p (M.exponent - least_valuation M.p f)
  pub same_live : live_of f M.p M.exponent x.left
      ≡ live_of (primitive M.p f) M.p (M.exponent - least_valuation M.p f) x.left

module _ {f : List ℕ} {M : PrimePower} {x : Node} (N : AtNode f M x) (z : all_zero f ≡ false) where
  abbrev I : IsPrimePower M
  I = N.modulus

  abbrev v : ℕ
  v = least_valuation M.p f

  abbrev rest : ℕ
  rest = M.exponent - v

  image : primitive M.p f ≡ map (λ (a : ℕ). a / M.p ^ least_valuation M.p f) f
  unfolding primitive
  image = divided-map (M.p ^ v) f

  divides-all : (i : ℕ) → M.p ^ least_valuation M.p f ∣ coef f i
  divides-all = least-valuation-dvd M.p I.prime.two f

  quotient-at : AtNode (primitive M.p f) (lowered M (least_valuation M.p f)) x
  unfolding primitive
  quotient-at =
      let q = quotient_power I N.below z in
      record {
        modulus =
            record {
              prime = I.prime;
              small = I.small;
              power_is = q;
              fits = le_trans (div-le_self M.power (M.p ^ v)) I.fits;
            };
        node = N.node;
        short = rw (image, length-map f (λ (a : ℕ). a / M.p ^ v)) N.short;
        below =
            record {
              at = λ i.
                  rw (coef-divided (M.p ^ v) f i, q)
                  ((div-lt_iff_lt-mul (pow_pos M.p (prime_pos I.prime) v)).1
                  (rw (← split I N.below z) ((below_power I N.below z).at i)));
            };
      }

  pub quotient : 0 < x.left → Quotient f M x
  unfolding nonzero_modulo degree_modulo degree_bound
  quotient deep =
      let lt = valuation-lt I N.below z in
      record {
        primitive_at =
            record {
              at = quotient-at;
              precise = omega (arith, lt);
              deep = deep;
              nonzero =
                  ap (nonzero_modulo M.p) image
                  ∙ some-map (prime_to M.p) (λ a. a / M.p ^ v) f
                  ∙ some-passes M.p I.prime.two f z;
            };
        degree = ap (degree_modulo M.p) image ∙ highest-map (prime_to M.p) (λ a. a / M.p ^ v) f ∙ sym (most_some M.p f z);
        same_zeros = zeros-quotient;
        all_zeros = let e : v + rest ≡ M.exponent = omega arith in rw e at (zeros-quotient rest);
        same_live = live-quotient lt;
      }
    where
      zeros-quotient : (i : ℕ) → zeros f M.p (v + i) ≡ zeros (primitive M.p f) M.p i
      zeros-quotient i = primitive-zeros M.p I.prime.two f i

      live-quotient : v < M.exponent → live_of f M.p M.exponent x.left ≡ live_of (primitive M.p f) M.p rest x.left
      live-quotient lt = primitive-live M.p I.prime.two f M.exponent x.left (omega arith)
