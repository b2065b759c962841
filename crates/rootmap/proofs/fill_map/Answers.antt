-- `rootmap::fill_map` meets its contract.
use mathlib.Core.Path.{◌≡◌, refl, sym, ◌∙◌}
use mathlib.Core.List.{List}
use Prim.Native.Nat.{ℕ, zero, suc}
use native.Mathlib.Omega.{arith}
use borrow.Author.Rules.{rules}
use lib.ListN.{length, get_or, replicate}
use Rattle.std.specs.Prelude.{Err}
use Rattle.theory.specs.ClassList.{members}
use Rattle.theory.specs.SignedClass.{naturals}
use Rattle.theory.specs.RootMap.{map_length}
use Rattle.refusal.specs.Rules.{passes, refuses}
use Rattle.classes.specs.Rule7.{classes_of}
use Rattle.classes.proofs.Checks.{checked-accepted}
use Rattle.rootmap.proofs.Bytes.{added_to_cleared}
use Rattle.rootmap.proofs.Verdicts.{sized, size_refused, size_known, list-refused, list-leads}
use Rattle.rootmap.proofs.Answers.{mapped-is, filled_is, kept-is}
use Rattle.rootmap.proofs.fill_map.Goals as goal

-- a map filled with 0
zeros : (n i : ℕ) → ◌≡◌ {A = ℕ} (get_or (replicate n 0) i 0) 0
zeros zero i = refl
zeros (suc n) zero = refl
zeros (suc n) (suc i) = zeros n i

blank : (new old : List ℕ) → new ≡ replicate (length old) 0 → (i : ℕ) → get_or new i 0 ≡ 0
blank new old e i = rw e (zeros (length old) i)

pub returns-in_err-m : goal.returns-in_err-m
returns-in_err-m c =
    let a = c.args in
    let rs = a.residues.now in
    let ts = a.levels.now in
    let old = a.map.now in
    let r = c.in_err-m.field-0.0 in
    let is : c.from_residual.result ≡ Err r = search rules in
    let v = list-refused a.p a.n rs ts (length old) r (sym c.check_list.ensures ∙ c.in_err-m.was) in record {
      answer = is ∙ mapped-is a.p a.n rs ts (length old) (refuses r) v;
      map = kept-is a.p a.n rs ts old r v;
    }

pub returns-in_err-check_size : goal.returns-in_err-check_size
returns-in_err-check_size c =
    let a = c.args in
    let rs = a.residues.now in
    let ts = a.levels.now in
    let old = a.map.now in
    let m = c.in_ok-m.m in
    let r = c.in_err-check_size.field-0.0 in
    let is : c.from_residual-in_err-check_size.result ≡ Err r = search rules in
    let C = checked-accepted a.p a.n rs ts m (sym c.check_list.ensures ∙ c.in_ok-m.was) in
    let v =
    list-leads a.p a.n rs ts (length old) C ∙ size_refused m (length old) c.check_size.ensures c.in_err-check_size.was in record {
      answer = is ∙ mapped-is a.p a.n rs ts (length old) (refuses r) v;
      map = kept-is a.p a.n rs ts old r v;
    }

pub set_classes-requires : goal.set_classes-requires
unfolding map_length
set_classes-requires c =
    let a = c.args in
    let m = c.in_ok-m.m in
    let C = checked-accepted a.p a.n a.residues.now a.levels.now m (sym c.check_list.ensures ∙ c.in_ok-m.was) in
    let s = sized m (length a.map.now) c.check_size.ensures c.in_ok-check_size.was in
    (C, s.small, omega (arith, s.long, c.fill.auto.self))

pub returns : goal.returns
returns c =
    let a = c.args in
    let rs = a.residues.now in
    let ts = a.levels.now in
    let old = a.map.now in
    let m = c.in_ok-m.m in
    let new = c.set_classes.new.map in
    let C = checked-accepted a.p a.n rs ts m (sym c.check_list.ensures ∙ c.in_ok-m.was) in
    let s = sized m (length old) c.check_size.ensures c.in_ok-check_size.was in
    let v = list-leads a.p a.n rs ts (length old) C ∙ size_known m (length old) c.check_size.ensures c.in_ok-check_size.was in
    let long : length new ≡ map_length m = c.set_classes.auto.map ∙ c.fill.auto.self ∙ s.long in
    let zero-map = blank c.fill.new.self old (c.fill.ensures.after (λ y e. e)) in
    let S = members a.p (naturals a.p (classes_of rs ts)) in
    let full = added_to_cleared S m c.fill.new.self new long zero-map c.set_classes.ensures in record {
      answer = mapped-is a.p a.n rs ts (length old) passes v;
      map = filled_is a.p a.n rs ts old new m v C.modulus.power s.long full;
    }
