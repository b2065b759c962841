-- Every number of the writer's output fits its column.
use mathlib.Core.Path.{◌≡◌, ap}
use mathlib.Core.Bool.{true}
use mathlib.Core.List.{List, [], ◌∷◌}
use Prim.Native.Nat.{ℕ, ◌-◌, ◌^◌, ◌≤◌, ◌<◌}
use native.Mathlib.Nat.{pow-le-pow_right}
use native.Mathlib.Omega.{arith}
use lib.IntN.{ℤ, pos, negsuc}
use lib.ListN.{length, get_or}
use Rattle.theory.specs.Class.{member_count}
use Rattle.theory.specs.Centered.{is_centered}
use Rattle.theory.specs.SignedClass.{SignedClass, IsSignedClass, natural, signed_slot}
use Rattle.theory.proofs.Numbers.Integers.{up, down}
use Rattle.theory.proofs.Numbers.Power.{exponent_lt}
use Rattle.theory.proofs.Numbers.Prime.{prime_pos}
use Rattle.theory.proofs.Signed.Centered.{in_range}
use Rattle.refusal.specs.declared.Refusal.{Refusal}
use Rattle.refusal.specs.Number.{number_of, place_of}
use Rattle.refusal.specs.Rules.{Verdict, passes, rule12, value_or}
use Rattle.refusal.proofs.Rules.{tried-both}
use Rattle.refusal.proofs.Places.{number_at_most}
use Rattle.numbers.specs.inner.Usable.{Usable}
use Rattle.classes.specs.Rule7.{classes_of}
use Rattle.classes.specs.Checked.{marked_rules, marked_checked_of}
use Rattle.classes.specs.inner.Usable.{UsableMarked}
use Rattle.classes.proofs.Entries.{classes_same_length}
use Rattle.classes.proofs.Faults.{faultless-few, faultless-most}
use Rattle.classes.proofs.MarkedChecks.{marked-accepted}
use Rattle.writer.specs.Fits.{Fits, OutputFits, RefusalFits, RowFits}
use Rattle.writer.specs.Written.{writer_verdict}

-- numbers of 32 bits
pub small_fits : (x : ℕ) → x ≤ 4294967295 → Fits (pos x)
small_fits x h = (omega arith, omega arith)

-- residues of least size, of which the least takes all eleven characters
residue_fits : (q : ℕ) (z : ℤ) → q ≤ 4294967295 → is_centered q z ≡ true → Fits z
unfolding up down
residue_fits q (pos k) h e = small_fits k (omega (arith, (in_range q (pos k) e).fits))
residue_fits q (negsuc k) h e = omega (arith, (in_range q (negsuc k) e).above)

-- the line of a refusal whose place has 32 bits
pub refusal_fits : (r : Refusal) → place_of r ≤ 4294967295 → RefusalFits r
refusal_fits r h = record { number = small_fits (number_of r) (omega (arith, number_at_most r)); place = small_fits (place_of r) h }

-- a row of numbers of 64 bits
pub row_fits : (row : List ℕ) → ((i : ℕ) → i < length row → get_or row i 0 ≤ 18446744073709551615) → RowFits row
row_fits row small i h = (omega arith, omega (arith, small i h))

module _ (p n : ℕ) (residues : List ℤ) (levels marks : List ℕ) where
  abbrev L : List SignedClass
  L = classes_of residues levels

  -- of a list that the rules accept
  pub usable-fits : (m : ℕ) → UsableMarked p n residues levels marks m → OutputFits p n (classes_of residues levels) marks
  unfolding natural member_count
  usable-fits m C =
      record {
        prime = small_fits p (omega (arith, U.small));
        precision = small_fits n (omega (arith, short));
        number = small_fits (length L) (omega (arith, U.within, faultless-few p n L hp C.faultless));
        roots = small_fits _ (omega (arith, U.within, faultless-most p n L hp C.faultless));
        residue = λ i h. residue_fits (p ^ (signed_slot L i).level) (signed_slot L i).residue (power i h) (class i h).residue_fits;
        level = λ i h. small_fits (signed_slot L i).level (omega (arith, (class i h).level_fits, short));
        members = λ i h.
            small_fits (p ^ (n - (signed_slot L i).level))
            (omega (arith, U.within, pow-le-pow_right {n = p} hp {i = n - (signed_slot L i).level} {j = n} (omega arith)));
        mark = λ i h. small_fits _ (omega (arith, C.marks_small i (omega (arith, classes_same_length residues levels C.same_length))));
      }
    where
      U : Usable p n m
      U = C.modulus

      hp : 0 < p
      hp = prime_pos U.prime

      short : n < 32
      short = exponent_lt p n 32 U.prime.two (omega (arith, U.within))

      class : (i : ℕ) → i < length L → IsSignedClass p n (signed_slot L i)
      class = C.faultless.class_at

      power : (i : ℕ) → i < length L → p ^ (signed_slot L i).level ≤ 4294967295
      power i h =
          omega (arith, U.within, pow-le-pow_right {n = p} hp {i = (signed_slot L i).level} {j = n} (class i h).level_fits)

  -- what the writer writes
  pub written-fits : (bytes : ℕ) → writer_verdict p n residues levels marks bytes ≡ passes
      → OutputFits p n (classes_of residues levels) marks
  unfolding writer_verdict marked_checked_of
  written-fits bytes v =
      let rules = (tried-both (marked_rules p n residues levels marks) (rule12 bytes (length residues) ∷ []) v).0 in
      usable-fits (p ^ n) (marked-accepted p n residues levels marks (p ^ n) (ap (λ (w : Verdict). value_or w (p ^ n)) rules))
