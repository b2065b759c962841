-- `systems::cut::covered` meets its contract.
use Rattle.std.proofs.Common.{rules, ◌≡◌, Bool, ◌||◌, List, refl, ℕ, ◌<◌, ℤ, pos, length, get_or, take, w32, to_z, of_z}
use Rattle.std.proofs.Common.{sym, ap, ap₂, ◌∙◌, arith}
use Rattle.std.specs.List.{list_any, zip}
use Rattle.std.proofs.lemmas.List.{take_all}
use Rattle.std.proofs.lemmas.List.Folds.{list_any_more, list_any_at}
use Rattle.std.proofs.lemmas.Slice.Zip.{length-zip, get_or-zip}
use Rattle.systems.specs.inner.Cutting.{covers_by}
use Rattle.systems.proofs.cut.covered.Goals as goal

-- what the test of an entry says, as the numbers are read
module _ (table : List ℕ) (limit : ℕ) (residues : List ℤ) (levels : List ℕ) (same : length residues ≡ length levels) where
  within : (i : ℕ) → i < length residues → i < length (zip residues levels)
  within i h = omega (arith, length-zip residues levels, same)

  entry : {z z' a : ℤ} {b : Bool} (i : ℕ) → i < length residues → z' ≡ z → a ≡ get_or residues i (pos 0)
      → b ≡ covers_by table limit z' (a, get_or levels i 0) → covers_by table limit z (get_or (zip residues levels) i (pos 0, 0)) ≡ b
  entry {z} i h z-is a-is e =
      ap (covers_by table limit z) (get_or-zip residues levels i (pos 0, 0) h (omega (arith, same)))
      ∙ sym (e ∙ ap₂ (λ x y. covers_by table limit x (y, get_or levels i 0)) z-is a-is)

pub returns-then-covers : goal.returns-then-covers
returns-then-covers c =
    let a = c.args in
    let i = c.loop-i.i in
    let z-is : to_z w32 (of_z w32 a.z) ≡ a.z = search rules in
    let a-is : to_z w32 (of_z w32 (get_or a.residues.now i (pos 0))) ≡ get_or a.residues.now i (pos 0) = search rules in
    sym (list_any_at (covers_by a.powers.now a.limit a.z) (zip a.residues.now a.levels.now) i (pos 0, 0)
    (within a.powers.now a.limit a.residues.now a.levels.now c.requires i c.loop-i-test.true)
    (entry a.powers.now a.limit a.residues.now a.levels.now c.requires i c.loop-i-test.true z-is a-is c.covers.ensures ∙ c.if-covers.true))

pub loop-i-preserved : goal.loop-i-preserved
loop-i-preserved c =
    let a = c.args in
    let i = c.loop-i.i in
    let z = to_z w32 (of_z w32 a.z) in
    let a-is : to_z w32 (of_z w32 (get_or a.residues.now i (pos 0))) ≡ get_or a.residues.now i (pos 0) = search rules in
    list_any_more (covers_by a.powers.now a.limit z) (zip a.residues.now a.levels.now) i (pos 0, 0)
    (within a.powers.now a.limit a.residues.now a.levels.now c.requires i c.loop-i-test.true)
    ∙ ap₂ (λ x y. x || y) c.loop-i.invariant
    (entry a.powers.now a.limit a.residues.now a.levels.now c.requires i c.loop-i-test.true refl a-is c.covers.ensures ∙ c.if-covers.false)

pub returns : goal.returns
returns c =
    let a = c.args in
    let classes = zip a.residues.now a.levels.now in
    let z-is : to_z w32 (of_z w32 a.z) ≡ a.z = search rules in
    let all : take c.loop-i.i classes ≡ classes =
    take_all c.loop-i.i classes (omega (arith, length-zip a.residues.now a.levels.now, c.requires, c.loop-i-test.false)) in
    sym c.loop-i.invariant ∙ ap₂ (λ z l. list_any (covers_by a.powers.now a.limit z) l) z-is all
