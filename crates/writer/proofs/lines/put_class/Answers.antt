-- `writer::lines::put_class` meets its contract.
use mathlib.Core.Path.{ap, ◌∙◌}
use mathlib.Core.List.{List}
use Prim.Native.Nat.{ℕ, ◌+◌, ◌-◌, ◌*◌}
use native.Mathlib.Omega.{arith}
use Rattle.std.proofs.Common.{rules}
use lib.IntN.{ℤ, pos}
use lib.ListN.{get_or}
use mir.Syntax.{w32}
use mir.Val.{SFits}
use Rattle.theory.proofs.Numbers.Prime.{prime_pos}
use Rattle.numbers.proofs.Saturated.{saturated_power}
use Rattle.numbers.proofs.Words.{wide_read}
use Rattle.writer.specs.inner.Place.{laid}
use Rattle.writer.specs.Output.{line}
use Rattle.writer.proofs.ClassLines.{class_line_lem}
use Rattle.writer.proofs.lines.put_class.Goals as goal

pub returns : goal.returns
returns c =
    let a = c.args in
    let i = a.i in
    let z = get_or a.residues.now i (pos 0) in
    let t = get_or a.levels.now i 0 in
    let mark = get_or a.marks.now i 0 in
    let narrow : SFits w32 z = search rules in
    let U = c.requires.0.modulus in
    let members = saturated_power {t = a.n - t} (prime_pos U.prime) (omega arith) U.within c.member_count.ensures in
    c.put_line.ensures
    ∙ ap (λ (l : List ℕ). laid (45 * (i + 1)) l a.text.now)
    (ap (λ (y : ℤ). line y t c.member_count.result mark) (wide_read z narrow)
    ∙ class_line_lem a.p a.n z t c.member_count.result mark members)
