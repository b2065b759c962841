-- Adding bits to a map, set after set.
use mathlib.Core.Path.{◌≡◌, sym, ap, ◌∙◌}
use mathlib.Core.Bool.{Bool, false, ◌||◌}
use mathlib.Core.List.{List}
use Prim.Native.Nat.{ℕ}
use Rattle.rootmap.specs.inner.Bits.{is_set, Added}
use Rattle.theory.proofs.Tests.{or_none, or_assoc}

-- no bit is added
pub added_none : (S : ℕ → Bool) (l : List ℕ) → ((r : ℕ) → S r ≡ false) → Added S l l
added_none S l h =
    record { bits = λ r. sym (ap (λ (b : Bool). is_set l r || b) (h r) ∙ or_none (is_set l r)); bytes = λ b i. b i }

-- the same set by another test
pub added_same : (S T : ℕ → Bool) (l m : List ℕ) → Added S l m → ((r : ℕ) → S r ≡ T r) → Added T l m
added_same S T l m a h = record { bits = λ r. a.bits r ∙ ap (λ (b : Bool). is_set l r || b) (h r); bytes = a.bytes }

-- one set and then another
pub added_both : (S T U : ℕ → Bool) (k l m : List ℕ) → Added S k l → Added T l m → ((r : ℕ) → (S r || T r) ≡ U r) → Added U k m
added_both S T U k l m a b h =
    record {
      bits =
          λ r.
          b.bits r
          ∙ ap (λ (x : Bool). x || T r) (a.bits r)
          ∙ or_assoc (is_set k r) (S r) (T r)
          ∙ ap (λ (x : Bool). is_set k r || x) (h r);
      bytes = λ z. b.bytes (a.bytes z);
    }
