-- What the rules on p, n and the lists leave to the writer.
use Rattle.std.specs.Prelude.{Err}
use mathlib.Core.Path.{◌≡◌, refl, sym, ap, ◌∙◌}
use mathlib.Core.List.{List, [], ◌∷◌}
use Prim.Native.Nat.{ℕ, ◌+◌, ◌*◌}
use native.Mathlib.Omega.{arith}
use lib.IntN.{ℤ}
use lib.ListN.{length}
use Rattle.theory.specs.ClassList.{member_total}
use Rattle.theory.proofs.Numbers.Prime.{prime_pos}
use Rattle.refusal.specs.declared.Refusal.{Refusal}
use Rattle.refusal.specs.Rules.{Verdict, passes, refuses, tried, rule12, value_or}
use Rattle.numbers.specs.Saturated.{saturated}
use Rattle.numbers.proofs.Saturated.{saturated-within}
use Rattle.classes.specs.Rule7.{classes_of}
use Rattle.classes.specs.Checked.{marked_checked_of}
use Rattle.classes.specs.inner.Usable.{UsableMarked}
use Rattle.classes.proofs.Entries.{classes_levels}
use Rattle.classes.proofs.Faults.{faultless-most}
use Rattle.classes.proofs.MarkedChecks.{marked_refused, marked-leads}
use Rattle.writer.specs.Written.{writer_verdict, written_of}

-- a rule alone
one-rule : (v : Verdict) → tried (v ∷ []) ≡ v
one-rule passes = refl
one-rule (refuses r) = refl

module _ (p n : ℕ) (residues : List ℤ) (levels marks : List ℕ) where
  -- the root count is within the limit
  pub total-fits : {m : ℕ} → UsableMarked p n residues levels marks m → saturated (member_total p n levels) ≡ member_total p n levels
  total-fits C =
      let L = classes_of residues levels in
      let most = faultless-most p n L (prime_pos C.modulus.prime) C.faultless in
      saturated-within (member_total p n levels)
      (omega (arith, C.modulus.within, ap (member_total p n) (classes_levels residues levels C.same_length), most))

  -- the verdict of lists that pass is rule 12's
  pub verdict-12 : {m : ℕ} (bytes : ℕ) → UsableMarked p n residues levels marks m
      → rule12 bytes (length residues) ≡ writer_verdict p n residues levels marks bytes
  unfolding writer_verdict
  verdict-12 bytes C =
      let v = rule12 bytes (length residues) in
      sym (marked-leads p n residues levels marks C (v ∷ []) ∙ one-rule v)

  pub verdict-refuses : (r : Refusal) (bytes : ℕ) → marked_checked_of p n residues levels marks ≡ Err r
      → writer_verdict p n residues levels marks bytes ≡ refuses r
  unfolding writer_verdict
  verdict-refuses r bytes e = marked_refused p n residues levels marks r e (rule12 bytes (length residues) ∷ [])

  pub written-answer : (bytes : ℕ)
      → value_or (writer_verdict p n residues levels marks bytes) (45 * (length residues + 1)) ≡ written_of p n residues levels marks bytes
  unfolding written_of
  written-answer bytes = refl
