-- The lines of the classes, entry by entry.
use mathlib.Core.Path.{◌≡◌, refl, sym, ap, ◌∙◌}
use mathlib.Core.List.{List, [], ◌∷◌, ◌++◌, append_assoc, append-nil}
use Prim.Native.Nat.{ℕ, zero, suc, ◌+◌, ◌-◌, ◌*◌, ◌^◌, ◌<◌}
use native.Mathlib.Numerals.{add-one}
use native.Mathlib.Omega.{arith}
use lib.IntN.{ℤ, pos}
use lib.ListN.{length, get_or, take, length-append}
use Rattle.theory.specs.Class.{member_count}
use Rattle.theory.specs.SignedClass.{SignedClass, signed_class, natural}
use Rattle.classes.specs.Rule7.{classes_of}
use Rattle.writer.specs.Output.{line, class_line, class_lines}
use Rattle.writer.proofs.Line.{line-length}

-- the line of a class, from its numbers
pub class_line_lem : (p n : ℕ) (a : ℤ) (t members mark : ℕ) → members ≡ p ^ (n - t)
    → line a t members mark ≡ class_line p n (signed_class a t) mark
unfolding class_line member_count natural
class_line_lem p n a t members mark e = ap (λ (x : ℕ). line a t x mark) e

class_line-length : (p n : ℕ) (c : SignedClass) (mark : ℕ) → length (class_line p n c mark) ≡ 45
unfolding class_line
class_line-length p n c mark = line-length c.residue c.level (member_count p n (natural p c)) mark

-- 45 bytes a class
pub lines_length : (p n : ℕ) (residues : List ℤ) (levels marks : List ℕ) → length levels ≡ length residues → length marks ≡ length residues
    → length (class_lines p n (classes_of residues levels) marks) ≡ 45 * length residues
unfolding class_lines classes_of
lines_length p n [] levels marks d e = refl
lines_length p n (a ∷ residues) [] marks d e = absurd (omega arith)
lines_length p n (a ∷ residues) (t ∷ levels) [] d e = absurd (omega arith)
lines_length p n (a ∷ residues) (t ∷ levels) (m ∷ marks) d e =
    let ih = lines_length p n residues levels marks (omega arith) (omega arith) in
    length-append (class_line p n (signed_class a t) m) (class_lines p n (classes_of residues levels) marks)
    ∙ omega (arith, class_line-length p n (signed_class a t) m, ih)

-- the lines of the first i classes
abbrev pub lines_to : ℕ → ℕ → List ℤ → List ℕ → List ℕ → ℕ → List ℕ
lines_to p n residues levels marks i = class_lines p n (classes_of (take i residues) (take i levels)) (take i marks)

-- the line of class i
abbrev pub line_at : ℕ → ℕ → List ℤ → List ℕ → List ℕ → ℕ → List ℕ
line_at p n residues levels marks i = class_line p n (signed_class (get_or residues i (pos 0)) (get_or levels i 0)) (get_or marks i 0)

lines_suc : (p n : ℕ) (residues : List ℤ) (levels marks : List ℕ) (i : ℕ) → i < length residues → i < length levels → i < length marks
    → lines_to p n residues levels marks (suc i) ≡ lines_to p n residues levels marks i ++ line_at p n residues levels marks i
unfolding class_lines classes_of
lines_suc p n [] levels marks i h₁ h₂ h₃ = absurd (omega arith)
lines_suc p n (a ∷ residues) [] marks i h₁ h₂ h₃ = absurd (omega arith)
lines_suc p n (a ∷ residues) (t ∷ levels) [] i h₁ h₂ h₃ = absurd (omega arith)
lines_suc p n (a ∷ residues) (t ∷ levels) (m ∷ marks) zero h₁ h₂ h₃ = append-nil (class_line p n (signed_class a t) m)
lines_suc p n (a ∷ residues) (t ∷ levels) (m ∷ marks) (suc i) h₁ h₂ h₃ =
    let first = class_line p n (signed_class a t) m in
    ap (λ (l : List ℕ). first ++ l) (lines_suc p n residues levels marks i (omega arith) (omega arith) (omega arith))
    ∙ sym (append_assoc first (lines_to p n residues levels marks i) (line_at p n residues levels marks i))

-- one line more
pub lines_next : (p n : ℕ) (residues : List ℤ) (levels marks : List ℕ) (i : ℕ) → i < length residues → i < length levels → i < length marks
    → lines_to p n residues levels marks (i + 1) ≡ lines_to p n residues levels marks i ++ line_at p n residues levels marks i
lines_next p n residues levels marks i h₁ h₂ h₃ =
    ap (lines_to p n residues levels marks) (add-one i) ∙ lines_suc p n residues levels marks i h₁ h₂ h₃
