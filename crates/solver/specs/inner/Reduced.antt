-- The solver once the coefficients are reduced modulo pⁿ: what it answers and writes for a list w of residues.
use Rattle.std.specs.Prelude.{List, map, ℕ, ◌^◌, ◌≤◌, ◌<◌, length, Result}
use Rattle.solver.specs.declared.Found.{Found}
use Rattle.refusal.specs.declared.Refusal.{Refusal}
use Rattle.theory.specs.Polynomial.{zeros}
use Rattle.theory.specs.SignedClass.{SignedClass, natural}
use Rattle.theory.specs.SignedList.{signed_list}
use Rattle.theory.specs.Shortest.{count}
use Rattle.theory.specs.Mark.{mark_of}
use Rattle.theory.specs.Live.{live_of}
use Rattle.refusal.specs.Rules.{Verdict, tried, value_or}
use Rattle.numbers.specs.inner.Usable.{Usable}
use Rattle.solver.specs.Solve.{Lists, list_rules, lists_filled, found}

-- coefficients to be used modulo pⁿ
pub record UsableCoefficients (w : List ℕ) (p n : ℕ) : Type 0 where
  pub modulus : Usable p n (p ^ n)
  pub some : 0 < length w
  pub few : length w ≤ 65

-- the classes of the zeros modulo pⁿ
abbrev pub zero_classes : List ℕ → ℕ → ℕ → List SignedClass
zero_classes w p n = signed_list (zeros w p n) p n

-- rules 6 and 11
unfoldable pub reduced_verdict : List ℕ → ℕ → ℕ → Lists → Verdict
reduced_verdict w p n given = tried (list_rules given (length (zero_classes w p n)))

abbrev pub reduced_solved : List ℕ → ℕ → ℕ → Lists → Result Found Refusal
reduced_solved w p n given =
    value_or (reduced_verdict w p n given) (found (length (zero_classes w p n)) (count (zeros w p n) p n) (live_of w p n n))

abbrev pub reduced_lists : List ℕ → ℕ → ℕ → Lists → Lists
reduced_lists w p n given =
    lists_filled (reduced_verdict w p n given) (zero_classes w p n) (map (λ c. mark_of w p n (natural p c)) (zero_classes w p n)) given
