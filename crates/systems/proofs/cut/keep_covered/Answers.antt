-- `systems::cut::keep_covered` meets its contract.
use Rattle.std.proofs.Common.{◌≡◌, List, ℕ, ◌+◌, ◌≤◌, ◌<◌, ℤ, pos, w32, to_z, of_z, length, get_or, Bool, false, true, ◌⊎◌, inl}
use Rattle.std.proofs.Common.{inr, refl, sym, ap, ◌∙◌, arith, rules}
use Rattle.std.specs.List.{list_any, zip}
use Rattle.theory.specs.SignedClass.{SignedClass, signed_slot}
use Rattle.theory.proofs.Tests.{contradiction}
use Rattle.classes.specs.Rule7.{classes_of}
use Rattle.classes.proofs.Entries.{classes_slot}
use Rattle.systems.specs.inner.Cutting.{covers_by, Powers, LevelsTo, covers, KeptIf}
use Rattle.systems.proofs.Cutting.{by_table}
use Rattle.systems.proofs.cut.keep_covered.Goals as goal

-- what the call says of entry i
told : {p n : ℕ} {table : List ℕ} → Powers p n table → (a : List ℤ) (t : List ℕ) (i more : ℕ) (b : List ℤ) (s : List ℕ) → LevelsTo n s
    → i < length a → length a ≡ length t
    → list_any (covers_by table (get_or t i 0 + more) (get_or a i (pos 0))) (zip b s)
    ≡ covers p more (classes_of b s) (signed_slot (classes_of a t) i)
told {p} P a t i more b s fits h same =
    by_table P (get_or t i 0 + more) (get_or a i (pos 0)) b s fits
    ∙ ap (covers p more (classes_of b s)) (sym (classes_slot a t i h (omega arith)))

-- a class that is not kept, or for which there is no slot
unwritten : {kept inside : Bool} {c : SignedClass} {k : ℕ} {residues : List ℤ} {levels : List ℕ} → inside ≡ kept
    → (inside ≡ false) ⊎ ((inside ≡ true) × (length residues ≤ k)) → KeptIf kept c k k residues residues levels levels
unwritten said w = record { put = λ e h. absurd (no (said ∙ e) h w); left = λ e. (refl, refl, refl) }
  where
    no : {inside : Bool} {k n : ℕ} → inside ≡ true → k < n → (inside ≡ false) ⊎ ((inside ≡ true) × (n ≤ k)) → ⊥
    no e h (inl q) = contradiction e q
    no e h (inr (_, l)) = omega arith

pub returns-then-not-inside-clause-kept : goal.returns-then-not-inside-clause-kept
returns-then-not-inside-clause-kept c p n table fits =
    let x = c.args in
    let same : to_z w32 (of_z w32 (get_or x.a.now x.i (pos 0))) ≡ get_or x.a.now x.i (pos 0) = search rules in
    let said = rw same at c.covered-inside.ensures ∙ told table x.a.now x.t.now x.i x.more x.b.now x.s.now fits c.requires.0 c.requires.1 in
    unwritten said c.then-not-inside.either

pub returns-clause-kept : goal.returns-clause-kept
returns-clause-kept c p n table fits =
    let x = c.args in
    let same : to_z w32 (of_z w32 (get_or x.a.now x.i (pos 0))) ≡ get_or x.a.now x.i (pos 0) = search rules in
    let said = rw same at c.covered-inside.ensures ∙ told table x.a.now x.t.now x.i x.more x.b.now x.s.now fits c.requires.0 c.requires.1 in
    let entry = classes_slot x.a.now x.t.now x.i c.requires.0 (omega arith) in
    record {
      put = λ e h. rw (entry, same) (refl, refl, refl);
      left = λ e. absurd (contradiction c.if-not-inside.false (said ∙ e));
    }
