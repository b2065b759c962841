-- Every number that the program prints fits its column.
use Rattle.std.specs.Prelude.{Result, Ok, Err}
use Rattle.refusal.specs.declared.Refusal.{Refusal}
use mathlib.Core.Path.{◌≡◌, refl}
use mathlib.Core.List.{List}
use Prim.Native.Nat.{ℕ, ◌^◌}
use native.Mathlib.Omega.{arith}
use lib.IntN.{ℤ}
use lib.ListN.{take}
use Rattle.theory.specs.SignedClass.{residues_of, levels_of}
use Rattle.refusal.specs.Rules.{Verdict, passes, refuses}
use Rattle.refusal.proofs.Places.{PlaceAtMost}
use Rattle.numbers.specs.inner.Usable.{Usable}
use Rattle.numbers.proofs.Rules.{passes-usable}
use Rattle.numbers.proofs.Places.{modulus-place}
use Rattle.solver.specs.Solve.{solution, marks_of}
use Rattle.classes.proofs.Entries.{classes_of_parts}
use Rattle.classes.proofs.MarkedChecks.{marked-accepted}
use Rattle.text.specs.declared.Problem.{Problem}
use Rattle.text.specs.Form.{problem_of}
use Rattle.text.proofs.Places.{text-place}
use Rattle.writer.specs.Fits.{OutputFits, FitsOr}
use Rattle.writer.proofs.Fits.{usable-fits, refusal_fits}
use Rattle.program.specs.Printed.{judged}
use Rattle.program.specs.Fits.{FitsFor, PrintedFits}
use Rattle.program.proofs.Accepted.{solution-accepted}

module _ (f : List ℤ) (p n : ℕ) where
  block-fits : Usable p n (p ^ n) → OutputFits p n (solution f p n) (marks_of f p n)
  block-fits U =
      let L = solution f p n in
      let C = marked-accepted p n (residues_of L) (levels_of L) (marks_of f p n) (p ^ n) (solution-accepted f p n (p ^ n) U) in
      rw (classes_of_parts L) at (usable-fits p n (residues_of L) (levels_of L) (marks_of f p n) (p ^ n) C)

  solved-fits : FitsOr (judged p n) (OutputFits p n (solution f p n) (marks_of f p n))
  unfolding judged
  solved-fits = go (judged p n) refl (modulus-place p n)
    where
      go : (v : Verdict) → judged p n ≡ v → PlaceAtMost 65535 v → FitsOr v (OutputFits p n (solution f p n) (marks_of f p n))
      go passes e h = block-fits (passes-usable p n e (p ^ n) refl)
      go (refuses r) e h = refusal_fits r (omega arith)

pub printed_fits_columns : (text : List ℕ) → PrintedFits text
printed_fits_columns text = go (problem_of text) refl
  where
    go : (a : Result Problem Refusal) → problem_of text ≡ a → FitsFor a
    go (Ok P) e = solved-fits (take P.count P.coefficients) P.p P.n
    go (Err r) e = refusal_fits r (omega (arith, text-place text r e))
