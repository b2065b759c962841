-- `solver::entry::Entry::new` meets its contract.
use mathlib.Core.Path.{◌≡◌, ap, ◌∙◌}
use Prim.Native.Nat.{ℕ, ◌≤◌, ◌<◌}
use lib.IntN.{ℤ}
use mir.Syntax.{w32, w64}
use mir.Val.{SFits, to_z, of_z}
use mir.ValLaws.{to_z-of_z}
use Rattle.theory.specs.Centered.{centered}
use Rattle.theory.proofs.Signed.Centered.{centered-range}
use Rattle.numbers.proofs.Words.{wide_fits, narrow_fits}
use Rattle.solver.proofs.entry.Entry.new.Goals as goal

-- the residue of least size, as the call's result r is read
module _ (a q : ℕ) (r : ℤ) (below : a < q) (small : q ≤ 4294967295) (is : r ≡ centered q a) where
  abbrev z : ℤ
  z = centered q a

  fits : SFits w32 z
  fits = narrow_fits q z small (centered-range q a below)

  read : to_z w64 (of_z w64 r) ≡ z
  read = ap (λ (x : ℤ). to_z w64 (of_z w64 x)) is ∙ to_z-of_z w64 z (wide_fits z fits)

  kept : to_z w32 (of_z w32 (to_z w64 (of_z w64 r))) ≡ z
  kept = ap (λ (x : ℤ). to_z w32 (of_z w32 x)) read ∙ to_z-of_z w32 z fits

pub overflow_cast-result : goal.overflow_cast-result
overflow_cast-result c =
    rw (read c.args.a c.args.q c.centered.result c.requires.0 c.requires.1 c.centered.ensures)
    (fits c.args.a c.args.q c.centered.result c.requires.0 c.requires.1 c.centered.ensures)

pub returns : goal.returns
returns c =
    ap (λ (x : ℤ). record { residue = x; level = c.args.level })
    (kept c.args.a c.args.q c.centered.result c.requires.0 c.requires.1 c.centered.ensures)
