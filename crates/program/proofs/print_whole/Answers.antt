-- `program::print_whole` meets its contract.
use mathlib.Core.Path.{◌≡◌, sym, ap, ◌∙◌}
use Prim.Native.Nat.{ℕ, ◌≤◌}
use borrow.Author.Rules.{rules}
use lib.ListN.{length}
use Rattle.std.specs.Prelude.{Result, Ok, is_ok}
use Rattle.refusal.specs.declared.Refusal.{Refusal}
use Rattle.program.specs.Printed.{printed_text}
use Rattle.program.proofs.Fits.{counted, laid, printed-within, printed-counted}
use Rattle.program.proofs.print_whole.Goals as goal

pub unwrap-requires : goal.unwrap-requires
unwrap-requires c =
    let a = c.args in
    let long : 2925 ≤ length a.out.now = search rules in
    let s = c.print.ensures in
    ap (λ (r : Result ℕ Refusal). is_ok r) (counted a.text.now a.out.now c.print.new.out long _ s.answer s.out)

pub returns : goal.returns
returns c =
    let text = c.args.text.now in
    let old = c.args.out.now in
    let now = c.print.new.out in
    let long : 2925 ≤ length old = search rules in
    let s = c.print.ensures in
    let is : Ok c.unwrap.result ≡ Ok (length (printed_text text)) = sym c.unwrap.ensures ∙ counted text old now long _ s.answer s.out in
    let printed : c.unwrap.result ≡ length (printed_text text) = cc is in record {
      answer = printed;
      out = laid text old now long _ s.answer s.out;
      counts = (
        printed-within text old now long _ s.answer s.out _ printed,
        printed-counted text old now long _ s.answer s.out _ printed,
      );
    }
