-- Entries added to the scratch after its first k.
use mathlib.Core.Path.{◌≡◌, refl, sym, ap, ◌∙◌}
use mathlib.Core.List.{List, [], ◌∷◌, ◌++◌, append_assoc, append-nil}
use Prim.Native.Nat.{ℕ, ◌+◌, ◌≤◌, ◌<◌}
use native.Mathlib.Nat.{add-zero}
use native.Mathlib.Omega.{arith}
use lib.ListN.{length, length-append, take, set}
use lib.Seq.{length-take-le, take_at, take-take}
use Rattle.theory.proofs.Lists.Fill.{take_set_next}
use Rattle.solver.specs.inner.Recursion.{Appended}

pub added_none : {A : Type 0} (k : ℕ) (out : List A) → Appended [] k k out out
added_none k out = record { number = sym (add-zero k); entries = sym (append-nil (take k out)) }

pub added_one : {A : Type 0} (x : A) (k : ℕ) (out : List A) → k < length out → Appended (x ∷ []) k (k + 1) out (set out k x)
added_one x k out h = record { number = refl; entries = take_set_next out k x h }

pub added_more : {A : Type 0} {a b : List A} {k k₁ k₂ : ℕ} {out out₁ out₂ : List A} → Appended a k k₁ out out₁ → Appended b k₁ k₂ out₁ out₂
    → Appended (a ++ b) k k₂ out out₂
added_more {A} {a} {b} {k} {out = out} u v =
    record {
      number = omega (arith, u.number, v.number, length-append a b);
      entries = v.entries ∙ ap (λ (l : List A). l ++ b) u.entries ∙ append_assoc (take k out) a b;
    }

-- after the first k, which are kept, anew
pub added_anew : {A : Type 0} {a b : List A} {k k₁ k₂ : ℕ} {out out₁ out₂ : List A} → Appended a k k₁ out out₁ → k ≤ length out
    → Appended b k k₂ out₁ out₂ → Appended b k k₂ out out₂
added_anew {A} {a} {b} {k} {k₁} {out = out} {out₁} u h v =
    let kept : take k out₁ ≡ take k out =
    sym (take-take k k₁ out₁ (omega (arith, u.number)))
    ∙ ap (take k) u.entries
    ∙ take_at (take k out) a k (length-take-le k out h) in
    record { number = v.number; entries = v.entries ∙ ap (λ (l : List A). l ++ b) kept }
