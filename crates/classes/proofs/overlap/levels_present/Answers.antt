-- `classes::overlap::levels_present` meets its contract.
use Rattle.std.proofs.Common.{◌≡◌, ◌+◌, ◌<◌, ◌%◌, ℕ, Bool, true, false, List, length, get_or, set, sym, ap, ◌∙◌, arith}
use native.Mathlib.Decide.{ℕ_discrete, dec_lt}
use Rattle.std.proofs.lemmas.List.{length-set, get_or-set_other}
use Rattle.std.proofs.lemmas.Grind.{get_or-set_at}
use Rattle.classes.proofs.overlap.levels_present.Goals as goal

-- the table with the level of entry i
module _ (levels : List ℕ) (present : List Bool) (i k : ℕ) (k-is : k ≡ get_or levels i 0 % 32) (long : length present ≡ 32)
    (known : (j : ℕ) → j < i → get_or present (get_or levels j 0 % 32) false ≡ true) where
  told : (j : ℕ) → j < i + 1 → get_or (set present k true) (get_or levels j 0 % 32) false ≡ true
  told j h = go (ℕ_discrete (get_or levels j 0 % 32) k) (dec_lt j i)
    where
      go : Dec (get_or levels j 0 % 32 ≡ k) → Dec (j < i) → get_or (set present k true) (get_or levels j 0 % 32) false ≡ true
      go (yes e) u = get_or-set_at present k (get_or levels j 0 % 32) true false e (omega (arith, long, k-is))
      go (no e) (yes u) = get_or-set_other present k (get_or levels j 0 % 32) true false e ∙ known j u
      go (no e) (no u) = let same : j ≡ i = omega arith in absurd (e (ap (λ (x : ℕ). get_or levels x 0 % 32) same ∙ sym k-is))

pub loop-t-preserved : goal.loop-t-preserved
loop-t-preserved c =
    let l = c.loop-t in (
      length-set l.present _ true ∙ l.invariant.0,
      told c.args.levels.now l.present l.t-index _ c.from.ensures l.invariant.0 l.invariant.1,
    )
