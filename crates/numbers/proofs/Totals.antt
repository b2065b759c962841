-- The sum of the member numbers of a set's list is the number of its residues, and stays below the limit of `saturated`.
use mathlib.Core.Path.{◌≡◌, ap, ◌∙◌}
use mathlib.Core.Bool.{Bool}
use Prim.Native.Nat.{ℕ, ◌^◌}
use native.Mathlib.Omega.{arith}
use Rattle.theory.specs.ClassList.{member_total}
use Rattle.theory.specs.Shortest.{count}
use Rattle.theory.specs.SignedClass.{levels_of}
use Rattle.theory.specs.SignedList.{signed_list}
use Rattle.theory.proofs.Numbers.Prime.{prime_pos}
use Rattle.theory.proofs.Passing.{passing_most}
use Rattle.theory.proofs.Signed.Entries.{signed_total}
use Rattle.numbers.specs.Saturated.{saturated}
use Rattle.numbers.specs.inner.Usable.{Usable}
use Rattle.numbers.proofs.Saturated.{saturated-within}

pub total_is : (S : ℕ → Bool) {p n m : ℕ} → Usable p n m → saturated (member_total p n (levels_of (signed_list S p n))) ≡ count S p n
unfolding count
total_is S {p} {n} U =
    ap saturated (signed_total S p n (prime_pos U.prime))
    ∙ saturated-within (count S p n) (omega (arith, U.within, passing_most S (p ^ n) 0))
