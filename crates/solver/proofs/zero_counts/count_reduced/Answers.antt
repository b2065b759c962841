-- `solver::zero_counts::count_reduced` meets its contract.
use mathlib.Core.Path.{◌≡◌, sym, ◌∙◌}
use mathlib.Core.List.{List, ◌++◌}
use Prim.Native.Nat.{ℕ, ◌<◌}
use native.Mathlib.Omega.{arith}
use lib.ListN.{length, length-append, length-drop, get_or, take, drop, replicate, get_or-append}
use lib.Seq.{length-take-le}
use Rattle.theory.proofs.Lists.Fill.{replicate_taken}
use Rattle.theory.proofs.Lists.Overwritten.{written_same}
use Rattle.theory.proofs.Numbers.Power.{exponent_lt}
use Rattle.theory.proofs.Numbers.Prime.{prime_pos}
use Rattle.numbers.specs.inner.Usable.{Usable}
use Rattle.solver.specs.declared.tree.PrimePower.{PrimePower}
use Rattle.solver.specs.declared.tree.Node.{Node}
use Rattle.solver.specs.inner.Recursion.{over, everything}
use Rattle.solver.specs.inner.Counts.{zeros_at, Room, Added}
use Rattle.solver.proofs.Top.{top-at}
use Rattle.solver.proofs.ZeroCounts.{zeros_most, scaled_is}
use Rattle.solver.proofs.zero_counts.count_reduced.Goals as goal

-- the counts before any is added
abbrev blank : List ℕ
blank = replicate 32 0

module _ (f : List ℕ) {p n m : ℕ} (U : Usable p n m) where
  n-lt : n < 32
  n-lt = exponent_lt p n 32 U.prime.two (omega (arith, U.within))

  blank-long : length (take n blank) ≡ n
  blank-long = length-take-le n blank (omega (arith, n-lt))

  room : Room f (over p n m) (everything n) (take n blank)
  room =
      record {
        long = blank-long;
        fits = λ i u. omega (arith, replicate_taken {A = ℕ} 0 32 n i, zeros_most f p n i, U.within);
      }

  -- a copy of the coefficients is counted
  module _ {g part : List ℕ} {M : PrimePower} {x : Node} (copied : g ≡ f) (modulus : M ≡ over p n m) (top : x ≡ everything n)
      (counted : Added g M x (take n blank) part) where
    added : Added f (over p n m) (everything n) (take n blank) part
    added = rw (copied, modulus, top) at counted

    part-long : length part ≡ n
    part-long = added.long ∙ blank-long

    row_long : length (part ++ drop n blank) ≡ 32
    row_long = length-append part (drop n blank) ∙ omega (arith, part-long, length-drop n blank, n-lt)

    -- the counts of all residues
    row_at : (k : ℕ) → k < n → get_or (part ++ drop n blank) k 0 ≡ zeros_at f p n k
    row_at k u =
        get_or-append part (drop n blank) 0 k (omega (arith, part-long))
        ∙ omega (arith, added.inside k (omega arith) u, replicate_taken {A = ℕ} 0 32 n k)

pub slice_bounds-zeros-end : goal.slice_bounds-zeros-end
slice_bounds-zeros-end c = omega (arith, n-lt c.args.f.now c.requires.0)

pub slice_bounds-count_class-end : goal.slice_bounds-count_class-end
slice_bounds-count_class-end c = sym (blank-long c.args.f.now c.requires.0)

pub count_class-requires : goal.count_class-requires
count_class-requires c =
    rw (c.copy_from_slice.ensures.after, c.new-over.ensures, c.everything-everything.ensures) (top-at c.requires.0 c.requires.1 c.requires.2, room c.args.f.now c.requires.0)

pub slice_bounds-write_counts-end : goal.slice_bounds-write_counts-end
slice_bounds-write_counts-end c = sym (row_long c.args.f.now c.requires.0 c.copy_from_slice.ensures.after c.new-over.ensures c.everything-everything.ensures c.count_class.ensures)

pub write_counts-requires : goal.write_counts-requires
write_counts-requires c = (
  c.requires.0,
  omega (arith, row_long c.args.f.now c.requires.0 c.copy_from_slice.ensures.after c.new-over.ensures c.everything-everything.ensures c.count_class.ensures, n-lt c.args.f.now c.requires.0),
  c.requires.3,
)

pub returns : goal.returns
returns c =
    written_same (λ j low high. scaled_is c.args.f.now c.args.p c.args.n (prime_pos c.requires.0.prime)
    _ (row_at c.args.f.now c.requires.0 c.copy_from_slice.ensures.after c.new-over.ensures c.everything-everything.ensures c.count_class.ensures) j high)
    c.write_counts.ensures
