-- How many bytes the block of a list of classes has.
use mathlib.Core.Path.{◌≡◌, sym, ap, ◌∙◌}
use mathlib.Core.List.{List}
use Prim.Native.Nat.{ℕ, ◌+◌, ◌*◌}
use native.Mathlib.Omega.{arith}
use lib.IntN.{pos}
use lib.ListN.{length, length-append, length-map}
use Rattle.theory.specs.ClassList.{member_total}
use Rattle.theory.specs.SignedClass.{SignedClass, residues_of, levels_of}
use Rattle.classes.proofs.Entries.{classes_of_parts}
use Rattle.writer.specs.Output.{line, class_lines, output_text}
use Rattle.writer.proofs.Line.{line-length}
use Rattle.writer.proofs.ClassLines.{lines_length}

-- a line of 45 bytes, and one a class
pub output_length : (p n : ℕ) (L : List SignedClass) (marks : List ℕ) → length marks ≡ length L
    → length (output_text p n L marks) ≡ 45 * (length L + 1)
unfolding output_text
output_length p n L marks e =
    let residues = residues_of L in
    let levels = levels_of L in
    let nr : length residues ≡ length L = length-map L (λ (c : SignedClass). c.residue) in
    let nl : length levels ≡ length L = length-map L (λ (c : SignedClass). c.level) in
    let parts : length (class_lines p n L marks) ≡ 45 * length residues =
    ap (λ (l : List SignedClass). length (class_lines p n l marks)) (sym (classes_of_parts L))
    ∙ lines_length p n residues levels marks (nl ∙ sym nr) (e ∙ sym nr) in
    length-append (line (pos p) n (length L) (member_total p n levels)) (class_lines p n L marks)
    ∙ omega (arith, line-length (pos p) n (length L) (member_total p n levels), parts, nr)
