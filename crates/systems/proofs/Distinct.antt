-- No two held polynomials have the same tag.
use mathlib.Core.Path.{◌≡◌, refl, sym}
use mathlib.Core.Bool.{Bool, true, false}
use mathlib.Core.List.{List, [], ◌∷◌, ◌++◌, map}
use Prim.Native.Nat.{ℕ}
use borrow.Author.Tests.{eqb-false}
use lib.Dec.{eqb}
use Rattle.theory.specs.Lists.{In, here, there}
use Rattle.theory.proofs.Tests.{or_fails_left, or_fails_right}
use Rattle.theory.proofs.Lists.Names.{in-nil, in-single}
use Rattle.theory.proofs.Lists.NoRepeat.{NoRepeat, no_repeat_append}
use Rattle.theory.proofs.Lists.Map.{in_map, map_in, map-append}
use Rattle.refusal.specs.Rules.{Verdict, passes, refuses}
use Rattle.systems.specs.Model.{Congruence, congruence, Model, model, is_held, without}
use Rattle.systems.specs.Calls.{held_or, add_verdict, after_add, withdraw_verdict, after_withdraw}
use Rattle.systems.specs.History.{Call, add, withdraw, fetch, after, after_all}
use Rattle.systems.proofs.Tags.{in_without, passed_unheld}

abbrev pub tags : List Congruence → List ℕ
tags C = map (λ (c : Congruence). c.tag) C

unheld_tag : (tag : ℕ) (C : List Congruence) → is_held tag C ≡ false → In tag (tags C) → ⊥
unfolding is_held
unheld_tag tag [] e u = in-nil u
unheld_tag tag (c ∷ C) e (here q) = eqb-false c.tag tag (or_fails_left (eqb c.tag tag) (is_held tag C) e) (sym q)
unheld_tag tag (c ∷ C) e (there u) = unheld_tag tag C (or_fails_right (eqb c.tag tag) (is_held tag C) e) u

distinct_without : (tag : ℕ) (C : List Congruence) → NoRepeat (tags C) → NoRepeat (tags (without tag C))
unfolding without
distinct_without tag [] d = d
distinct_without tag (c ∷ C) d = go (distinct_without tag C d.1) (eqb c.tag tag) refl
  where
    still : In c.tag (tags (without tag C)) → ⊥
    still u =
        let (x, v, e) = in_map (λ (x : Congruence). x.tag) (without tag C) c.tag u in
        d.0 (rw e (map_in (λ (y : Congruence). y.tag) C x (in_without tag C v)))

    go : NoRepeat (tags (without tag C)) → (b : Bool) → eqb c.tag tag ≡ b → NoRepeat (tags (without tag (c ∷ C)))
    go ih true q = rw (q, without) d.1
    go ih false q = rw (q, without) (still, ih)

distinct_or : (v : Verdict) (C D : List Congruence) → (v ≡ passes → NoRepeat (tags C)) → NoRepeat (tags D) → NoRepeat (tags (held_or v C D))
distinct_or passes C D new old = new refl
distinct_or (refuses r) C D new old = old

distinct_after : (M : Model) → NoRepeat (tags M.held) → (call : Call) → NoRepeat (tags (after M call).held)
unfolding after_add after_withdraw
distinct_after M d (add tag f) = distinct_or (add_verdict M tag f) _ _ new d
  where
    new : add_verdict M tag f ≡ passes → NoRepeat (tags (M.held ++ (congruence tag f ∷ [])))
    new e =
        rw (map-append (λ (c : Congruence). c.tag) M.held (congruence tag f ∷ []))
        (no_repeat_append (tags M.held) (tag ∷ []) d (in-nil, tt)
        (λ x u v. unheld_tag tag M.held (passed_unheld M tag f e) (rw (in-single v) at u)))
distinct_after M d (withdraw tag) = distinct_or (withdraw_verdict M tag) _ _ (λ e. distinct_without tag M.held d) d
distinct_after M d (fetch residues levels) = d

distinct_all : (M : Model) → NoRepeat (tags M.held) → (calls : List Call) → NoRepeat (tags (after_all M calls).held)
unfolding after_all
distinct_all M d [] = d
distinct_all M d (call ∷ calls) = distinct_all (after M call) (distinct_after M d call) calls

-- from opening on
pub tags_distinct : (p n : ℕ) (calls : List Call) → NoRepeat (tags (after_all (model p n []) calls).held)
tags_distinct p n calls = distinct_all (model p n []) tt calls
