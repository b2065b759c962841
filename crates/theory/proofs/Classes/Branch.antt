-- A set, digit by digit.
use mathlib.Core.Path.{◌≡◌, refl, ap, ◌∙◌}
use mathlib.Core.Bool.{Bool, true, false, ◌&&◌}
use mathlib.Core.List.{List, [], ◌∷◌, map}
use Prim.Native.Nat.{ℕ, suc, ◌+◌, ◌*◌, ◌/◌, ◌%◌, ◌^◌, ◌<◌}
use native.Mathlib.Nat.{mul-le-mul_left, pow-suc, pow-succ', mod-lt, div-add-mod, div-lt_iff_lt-mul}
use native.Mathlib.Omega.{arith}
use borrow.Author.Tests.{eqb-true, eq-eqb}
use lib.Dec.{eqb}
use lib.ListN.{length}
use Rattle.theory.specs.Lists.{In, here}
use Rattle.theory.specs.Range.{all_below, passing}
use Rattle.theory.specs.Degree.{every}
use Rattle.theory.specs.Class.{Class}
use Rattle.theory.specs.inner.Tree.{concat_below, flat, branch, deeper, tree}
use Rattle.theory.proofs.Tests.{contradiction, same_test, and_left, and_right, and_intro}
use Rattle.theory.proofs.Numbers.Power.{pow_pos}
use Rattle.theory.proofs.Range.{all_elim, all_intro, passing_sound, passing_complete}
use Rattle.theory.proofs.Passing.{passing_full, passing-all}
use Rattle.theory.proofs.Polynomials.Highest.{every_in, in_every}
use Rattle.theory.proofs.Classes.Concat.{concat-passing}
use Rattle.theory.proofs.Classes.Whole.{whole-elim}
use Rattle.theory.proofs.Classes.Cover.{own_member}
use Rattle.theory.proofs.Classes.Tree.{below, entries, tree_split}

-- all of S is there exactly if all below each digit is
pub all_digits : (S : ℕ → Bool) (p l : ℕ) → 0 < p → ((c : ℕ) → c < p → all_below (branch S p c) (p ^ l) ≡ true)
    → all_below S (p ^ suc l) ≡ true
all_digits S p l hp h =
    all_intro S (p ^ suc l) (λ r u.
    let digits : r % p + p * (r / p) ≡ r = omega (arith, div-add-mod r p) in
    rw digits at (all_elim (branch S p (r % p)) (p ^ l) (r / p) (h (r % p) (mod-lt r hp))
    ((div-lt_iff_lt-mul hp).1 (rw (pow-suc p l) at u))))

pub digit_all : (S : ℕ → Bool) (p l c : ℕ) → all_below S (p ^ suc l) ≡ true → c < p → all_below (branch S p c) (p ^ l) ≡ true
digit_all S p l c h u =
    all_intro (branch S p c) (p ^ l) (λ y w. all_elim S (p ^ suc l) (c + p * y) h (omega (arith, pow-succ' p l, mul-le-mul_left p w)))

-- a set with no element has no class
pub tree-empty : (S : ℕ → Bool) (p l : ℕ) → 0 < p → ((y : ℕ) → S y ≡ false) → tree S p l ≡ []
tree-empty S p l hp none = go (tree S p l) refl
  where
    go : (t : List Class) → tree S p l ≡ t → tree S p l ≡ []
    go [] e = e
    go (e₀ ∷ t) e =
        let m : In e₀ (tree S p l) = rw e (here refl) in
        let k = entries p hp S l e₀ m in
        absurd (contradiction
        (whole-elim S p l hp e₀ k.is_class.level_fits k.whole e₀.residue (own_member p l hp e₀ k.is_class))
        (none e₀.residue))

-- Where only the digits that pass a test can hold something

module _ (S : ℕ → Bool) (p l : ℕ) (hp : 0 < p) (test : ℕ → Bool) (none : (c : ℕ) → test c ≡ false → (y : ℕ) → branch S p c y ≡ false) where
  pub concat-digits : (c : ℕ) → concat_below (below S p l) c ≡ flat (below S p l) (passing test c 0)
  concat-digits c =
      concat-passing (below S p l) test c (λ x u e. ap (map (deeper p x)) (tree-empty (branch S p x) p l hp (none x e)))

  pub tree-digits : all_below S (p ^ suc l) ≡ false → tree S p (suc l) ≡ flat (below S p l) (passing test p 0)
  tree-digits w = tree_split S p l w ∙ concat-digits p

  abbrev whole : ℕ → Bool
  whole c = all_below (branch S p c) (p ^ l)

  -- a digit that holds all passes
  whole-passes : (c : ℕ) → whole c ≡ true → test c ≡ true
  whole-passes c w = go (test c) refl
    where
      go : (b : Bool) → test c ≡ b → test c ≡ true
      go true e = e
      go false e = absurd (contradiction (all_elim (branch S p c) (p ^ l) 0 w (pow_pos p hp l)) (none c e 0))

  -- all is there exactly if all p digits pass and hold all
  pub whole-digits : (every whole (passing test p 0) && eqb (length (passing test p 0)) p) ≡ all_below S (p ^ suc l)
  whole-digits =
      let digits = passing test p 0 in
      same_test (every whole digits && eqb (length digits) p) (all_below S (p ^ suc l))
      (λ e. all_digits S p l hp (λ c h.
      every_in whole digits (and_left (every whole digits) (eqb (length digits) p) e) c (passing_complete test p 0 c
      (passing_full test p (eqb-true (length digits) p (and_right (every whole digits) (eqb (length digits) p) e)) c h)
      (omega arith) (omega arith))))
      (λ e. and_intro (every whole digits) (eqb (length digits) p)
      (in_every whole digits (λ c u. digit_all S p l c e (omega (arith, (passing_sound test p 0 c u).high))))
      (eq-eqb (length digits) p (passing-all test p 0 (λ c low high. whole-passes c (digit_all S p l c e (omega arith))))))
