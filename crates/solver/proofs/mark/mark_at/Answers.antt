-- `solver::mark::mark_at` meets its contract.
use mathlib.Core.Path.{◌≡◌, sym, ◌∙◌}
use mathlib.Core.Bool.{not}
use mathlib.Core.List.{List}
use Prim.Native.Nat.{ℕ, ◌%◌}
use native.Mathlib.Decide.{ℕ_discrete}
use borrow.Author.Tests.{eq-eqb, ne_eqb}
use lib.Dec.{eqb}
use mir.Val.{bool_byte}
use Rattle.theory.specs.Polynomial.{value}
use Rattle.solver.specs.inner.Marks.{mark_at}
use Rattle.solver.proofs.Marks.{mark_zero, mark-one}
use Rattle.solver.proofs.mark.mark_at.Goals as goal

mark-value : (p a v : ℕ) (d : List ℕ) → v ≡ value d a % p → bool_byte (not (eqb v 0)) ≡ mark_at p d a
mark-value p a v d e = go (ℕ_discrete v 0)
  where
    go : Dec (v ≡ 0) → bool_byte (not (eqb v 0)) ≡ mark_at p d a
    go (yes z) = rw (eq-eqb v 0 z) (mark_zero p a d (sym e ∙ z))
    go (no h) = rw (ne_eqb v 0 h) (mark-one p a d (λ z. h (e ∙ z)))

pub returns : goal.returns
returns c = mark-value c.args.p c.args.a c.value.result c.args.d.now c.value.ensures
