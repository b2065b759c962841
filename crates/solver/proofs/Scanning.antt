-- The scan of a class's digits: what the loop over the digits at which the polynomial vanishes keeps true.
use mathlib.Core.Path.{◌≡◌, refl, sym, ap, ap₂, ◌∙◌}
use mathlib.Core.Bool.{Bool, true, false, ◌&&◌}
use mathlib.Core.List.{List, [], ◌∷◌, ◌++◌}
use Prim.Native.Nat.{ℕ, suc, ◌+◌, ◌-◌, ◌^◌, ◌≤◌, ◌<◌}
use native.Mathlib.Nat.{mod-eq-zero_of_dvd}
use native.Mathlib.Omega.{arith}
use lib.Dec.{eqb}
use lib.ListN.{length, length-map}
use Rattle.theory.specs.Range.{all_below, passing}
use Rattle.theory.specs.Polynomial.{vanishes, zeros}
use Rattle.theory.specs.Degree.{every}
use Rattle.theory.specs.Class.{Class}
use Rattle.theory.specs.SignedClass.{signed}
use Rattle.theory.specs.inner.Tree.{tree, flat, branch, deeper}
use Rattle.theory.specs.Taylor.{taylor}
use Rattle.theory.proofs.Tests.{contradiction}
use Rattle.theory.proofs.Numbers.Prime.{prime_pos}
use Rattle.theory.proofs.Lists.Map.{map-append, map-map, map_same}
use Rattle.theory.proofs.Classes.Concat.{flat_next}
use Rattle.theory.proofs.Classes.Tree.{below}
use Rattle.theory.proofs.Classes.Branch.{concat-digits, tree-digits, whole-digits}
use Rattle.theory.proofs.Polynomials.Bound.{before-digit}
use Rattle.theory.proofs.Polynomials.Highest.{every_next}
use Rattle.theory.proofs.Polynomials.Orders.{AtMostOrder}
use Rattle.theory.proofs.Polynomials.Zeros.{no_zero_below}
use Rattle.solver.specs.declared.entry.Entry.{Entry}
use Rattle.solver.specs.declared.tree.PrimePower.{PrimePower}
use Rattle.solver.specs.declared.tree.Node.{Node}
use Rattle.solver.specs.declared.tree.Settled.{Settled}
use Rattle.solver.specs.inner.Entry.{entry}
use Rattle.solver.specs.inner.Table.{degree_modulo, zero_digits}
use Rattle.solver.specs.inner.Recursion.{Primitive, Appended, Done, child_at, within, entries_within}
use Rattle.solver.proofs.Appended.{added_none, added_more, added_anew}
use Rattle.solver.proofs.Node.{within_child}
use Rattle.solver.proofs.Zeros.{degree_modulo_lem, vanishes_on}

-- the classes of S below these digits are added, and `all` says whether each digit holds all
pub record Scanned (S : ℕ → Bool) (p : ℕ) (x : Node) (k : ℕ) (digits : List ℕ) (at : ℕ) (all : Bool) (out out' : List Entry) : Type 0 where
  pub long : length out' ≡ length out
  pub added : Appended (entries_within p x (flat (below S p (x.left - 1)) digits)) k at out out'
  pub whole : all ≡ every (λ c. all_below (branch S p c) (p ^ (x.left - 1))) digits

module _ (S : ℕ → Bool) (p : ℕ) (x : Node) (k : ℕ) where
  pub scanned-none : (out : List Entry) → Scanned S p x k [] k true out out
  unfolding flat every
  scanned-none out = record { long = refl; added = added_none k out; whole = refl }

  -- the codes below one digit more
  codes-next : (digits : List ℕ) (c : ℕ)
      → entries_within p x (flat (below S p (x.left - 1)) digits) ++ entries_within p (child_at x p c) (tree (branch S p c) p (x.left - 1))
      ≡ entries_within p x (flat (below S p (x.left - 1)) (digits ++ (c ∷ [])))
  codes-next digits c =
      let F = below S p (x.left - 1) in
      let T = tree (branch S p c) p (x.left - 1) in
      let at : Class → Entry = λ e. entry (signed p (within x e)) in
      ap (λ (l : List Entry). entries_within p x (flat F digits) ++ l)
      (map_same (λ (e : Class). entry (signed p (within (child_at x p c) e))) (λ (e : Class). at (deeper p c e)) T
      (λ e u. ap (λ (d : Class). entry (signed p d)) (within_child x p c e))
      ∙ sym (map-map at (deeper p c) T))
      ∙ sym (map-append at (flat F digits) (F c))
      ∙ ap (entries_within p x) (sym (flat_next F digits c))

  pub scanned-next : (c : ℕ) {digits : List ℕ} {at : ℕ} {all all' : Bool} {r : Settled} {out₀ out out' : List Entry}
      → Scanned S p x k digits at all out₀ out → Done (branch S p c) p (child_at x p c) at r out out' → length out' ≡ length out
      → all' ≡ (all && r.whole) → Scanned S p x k (digits ++ (c ∷ [])) r.k all' out₀ out'
  scanned-next c {digits} s d long which =
      record {
        long = long ∙ s.long;
        added = rw (← codes-next digits c) (added_more s.added d.added);
        whole = which ∙ ap₂ ◌&&◌ s.whole d.is_whole ∙ sym (every_next (λ y. all_below (branch S p y) (p ^ (x.left - 1))) digits c);
      }

module _ {f : List ℕ} {M : PrimePower} {x : Node} (P : Primitive f M x) where
  abbrev p : ℕ
  p = M.p

  abbrev S : ℕ → Bool
  S = zeros f p M.exponent

  hp : 0 < p
  hp = prime_pos P.at.modulus.prime

  left : suc (x.left - 1) ≡ x.left
  left = omega (arith, P.deep)

  -- a digit at which f does not vanish holds no zero
  none : (c : ℕ) → vanishes p f c ≡ false → (y : ℕ) → branch S p c y ≡ false
  none c e = no_zero_below f p M.exponent c P.precise (λ d. contradiction (vanishes_on p f c (mod-eq-zero_of_dvd p d)) e)

  module _ {k at : ℕ} {all : Bool} {out₀ out : List Entry} where
    -- at the digit c room is left for as many classes as the order of f there
    pub scanned-room : {c n : ℕ} → Scanned S p x k (passing (vanishes p f) c 0) at all out₀ out → c < p
        → k + degree_modulo p f ≤ length out₀ → AtMostOrder p n (taylor c f) → at + n ≤ length out
    scanned-room {c} {n} s c_lt fits order =
        let F = below S p (x.left - 1) in
        omega (
          arith,
          s.long,
          s.added.number,
          length-map (flat F (passing (vanishes p f) c 0)) (λ (e : Class). entry (signed p (within x e))),
          ap length (concat-digits S p (x.left - 1) hp (vanishes p f) none c),
          before-digit p P.at.modulus.prime M.exponent (x.left - 1) (degree_modulo p f) c n f P.precise
              (degree_modulo_lem p f P.nonzero) c_lt order,
        )

    module _ (s : Scanned S p x k (zero_digits p f) at all out₀ out) where
      -- after the last digit
      pub scanned-whole : all_below S (p ^ x.left) ≡ (all && eqb (length (zero_digits p f)) p)
      scanned-whole =
          sym (ap (λ (b : Bool). b && eqb (length (zero_digits p f)) p) s.whole
          ∙ whole-digits S p (x.left - 1) hp (vanishes p f) none
          ∙ ap (λ (l : ℕ). all_below S (p ^ l)) left)

      pub scanned-done : (live : ℕ) → all_below S (p ^ x.left) ≡ false
          → Done S p x k (record { k = at; whole = false; live = live }) out₀ out
      scanned-done live w =
          let T = ap (tree S p) (sym left) ∙ tree-digits S p (x.left - 1) hp (vanishes p f) none (rw left w) in
          record { added = rw T s.added; is_whole = sym w }

-- a class put after the first k anew
pub scanned_put : {S : ℕ → Bool} {p k at : ℕ} {x : Node} {digits : List ℕ} {all : Bool} {r : Settled} {out₀ out out' : List Entry}
    → Scanned S p x k digits at all out₀ out → k ≤ length out₀ → Done S p x k r out out' → Done S p x k r out₀ out'
scanned_put s fits d = record { added = added_anew s.added fits d.added; is_whole = d.is_whole }
