-- `capi::system::open` meets its contract.
use mathlib.Core.Path.{◌≡◌, refl, sym, ◌∙◌}
use borrow.Author.Rules.{rules}
use Prim.Native.Nat.{ℕ}
use Rattle.std.specs.Prelude.{Result, Ok, Err}
use Rattle.refusal.specs.declared.Refusal.{Refusal}
use Rattle.refusal.specs.Rules.{Verdict, passes, refuses, value_or}
use Rattle.systems.specs.declared.System.{System}
use Rattle.systems.specs.Calls.{open_verdict}
use Rattle.systems.specs.State.{opened_of}
use Rattle.systems.proofs.Opening.{opened-done, opened-kept}
use Rattle.capi.proofs.system.open.Goals as goal

-- the answer without the system
done : (v : Verdict) (new s : System) → value_or v new ≡ Ok s → Ok tt ≡ value_or {A = Unit {0}} v tt
done passes new s e = refl
done (refuses r) new s e = let f : Err r ≡ Ok s = e in cc

refused : (v : Verdict) (new : System) (r : Refusal) → value_or v new ≡ Err r → Err r ≡ value_or {A = Unit {0}} v tt
refused passes new r e = let f : Ok new ≡ Err r = e in cc
refused (refuses s) new r e =
    let f : ◌≡◌ {A = Result System Refusal} (Err s) (Err r) = e in
    let same : s ≡ r = cc in
    rw same

opened-answer : (p n : ℕ) (s : System) → opened_of p n ≡ Ok s → Ok tt ≡ value_or {A = Unit {0}} (open_verdict p n) tt
unfolding opened_of
opened-answer p n s e = done (open_verdict p n) _ s e

kept-answer : (p n : ℕ) (r : Refusal) → opened_of p n ≡ Err r → Err r ≡ value_or {A = Unit {0}} (open_verdict p n) tt
unfolding opened_of
kept-answer p n r e = refused (open_verdict p n) _ r e

pub returns-in_err-system : goal.returns-in_err-system
returns-in_err-system c =
    let a = c.args in
    let r = c.in_err-system.field-0.0 in
    let is : c.from_residual.result ≡ Err r = search rules in
    let known = sym c.in_err-system.ensures in record {
      answer = is ∙ kept-answer a.p a.n r known;
      system = sym (opened-kept a.p a.n a.system.now r known);
    }

pub returns : goal.returns
returns c =
    let a = c.args in
    let known = sym c.in_ok-system.ensures in record {
      answer = opened-answer a.p a.n _ known;
      system = sym (opened-done a.p a.n a.system.now _ known);
    }
