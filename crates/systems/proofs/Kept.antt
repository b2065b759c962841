-- Opening makes a system that holds nothing, and a call on a system that holds a model leaves one that holds the model after the call.
use mathlib.Core.Path.{◌≡◌, refl}
use mathlib.Core.Logic.{◌⊎◌, inl, inr}
use mathlib.Core.List.{List, [], ◌∷◌, ◌++◌}
use Prim.Native.Nat.{ℕ, ◌≤◌}
use native.Mathlib.Omega.{arith}
use borrow.Author.Tests.{leb-false}
use lib.Dec.{leb}
use lib.IntN.{ℤ}
use Rattle.std.specs.Prelude.{Ok}
use lib.ListN.{length, length-append}
use Rattle.theory.specs.Lists.{In}
use Rattle.theory.proofs.Lists.Names.{in-append, in-single, in-nil}
use Rattle.refusal.specs.declared.Refusal.TheVariants.{Full}
use Rattle.refusal.specs.Rules.{Verdict, passes, refuses, value_or, tried, rule2, rule3, rule15, rule16}
use Rattle.refusal.proofs.Rules.{tried-first, rule_passes}
use Rattle.systems.specs.declared.System.{System}
use Rattle.systems.specs.Model.{Congruence, congruence, Model, model, is_held, without}
use Rattle.systems.specs.Calls.{held_or, open_verdict, add_verdict, after_add, withdraw_verdict, after_withdraw}
use Rattle.systems.specs.State.{system_of, Holds, opened_of}
use Rattle.systems.proofs.Tags.{in_without, without-most}

-- only where no rule refuses is there a value
pub done_passes : {A : Type 0} (v : Verdict) (x y : A) → value_or v x ≡ Ok y → (v ≡ passes) × (y ≡ x)
done_passes passes x y e = (refl, cc)
done_passes (refuses r) x y e = cc

-- what a system may hold: at most 16 polynomials, which rules 2 and 3 pass
record Allowed (held : List Congruence) : Type 0 where
  few : length held ≤ 16
  polynomials : (c : Congruence) → In c held → tried (rule2 (length c.coefficients) ∷ rule3 (length c.coefficients) ∷ []) ≡ passes

module _ {s : System} {M : Model} (H : Holds s M) where
  allowed : Allowed M.held
  allowed = record { few = H.few; polynomials = H.polynomials }

  holds-again : (held : List Congruence) → Allowed held → Holds (system_of (model M.p M.n held)) (model M.p M.n held)
  holds-again held A = record { accepted = H.accepted; few = A.few; polynomials = A.polynomials; kept = refl }

  either : (v : Verdict) (new : List Congruence) → (v ≡ passes → Allowed new) → Allowed (held_or v new M.held)
  either passes new A = A refl
  either (refuses r) new A = allowed

  one_more : (tag : ℕ) (f : List ℤ) → add_verdict M tag f ≡ passes → Allowed (M.held ++ (congruence tag f ∷ []))
  unfolding add_verdict
  one_more tag f e =
      let c = congruence tag f in
      let unheld = rule15 (is_held tag M.held) in
      let fits = rule16 (length M.held) in
      let two = tried-first (rule2 (length f)) (rule3 (length f) ∷ unheld ∷ fits ∷ []) e in
      let three = tried-first (rule3 (length f)) (unheld ∷ fits ∷ []) two.1 in
      let full = tried-first fits [] (tried-first unheld (fits ∷ []) three.1).1 in
      let room = leb-false 16 (length M.held) (rule_passes (leb 16 (length M.held)) Full full.0) in
      record {
        few = omega (arith, room, length-append M.held (c ∷ []));
        polynomials = λ d u. go two.0 three.0 d (in-append M.held u);
      }
    where
      go : rule2 (length f) ≡ passes → rule3 (length f) ≡ passes → (d : Congruence) → In d M.held ⊎ In d (congruence tag f ∷ [])
          → tried (rule2 (length d.coefficients) ∷ rule3 (length d.coefficients) ∷ []) ≡ passes
      go two three d (inl u) = H.polynomials d u
      go two three d (inr u) = rw (in-single u, two, three)

  one_less : (tag : ℕ) → Allowed (without tag M.held)
  one_less tag =
      record { few = omega (arith, H.few, without-most tag M.held); polynomials = λ c u. H.polynomials c (in_without tag M.held u) }

  pub add_holds : (tag : ℕ) (f : List ℤ) → Holds (system_of (after_add M tag f)) (after_add M tag f)
  unfolding after_add
  add_holds tag f = holds-again _ (either (add_verdict M tag f) _ (one_more tag f))

  pub withdraw-holds : (tag : ℕ) → Holds (system_of (after_withdraw M tag)) (after_withdraw M tag)
  unfolding after_withdraw
  withdraw-holds tag = holds-again _ (either (withdraw_verdict M tag) _ (λ e. one_less tag))

pub opened_holds : (p n : ℕ) (s : System) → opened_of p n ≡ Ok s → Holds s (model p n [])
unfolding opened_of
opened_holds p n s e =
    let v = done_passes (open_verdict p n) (system_of (model p n [])) s e in
    record { accepted = v.0; few = omega arith; polynomials = λ c u. absurd (in-nil u); kept = v.1 }
