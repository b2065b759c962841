-- "From opening on, each call given the state as the one before left it, every answer is that of a plain set of tagged congruences."
use mathlib.Core.Path.{◌≡◌, refl, ap, ap₂}
use mathlib.Core.List.{List, [], ◌∷◌}
use Prim.Native.Nat.{ℕ}
use Rattle.systems.specs.declared.System.{System}
use Rattle.systems.specs.Model.{Model, model}
use Rattle.systems.specs.Calls.{after_add, after_withdraw}
use Rattle.systems.specs.State.{Holds, Changed, added_of, withdrawn_of}
use Rattle.systems.specs.History.{Call, fetch, Answer, changed, fetched, History, none, then_add, then_withdraw, then_fetch}
use Rattle.systems.specs.History.{answer_of, answers_of, after_all, FromOpening, AsModel}
use Rattle.systems.proofs.Kept.{opened_holds, add_holds, withdraw-holds}

both : {x y : Answer} {l m : List Answer} → x ≡ y → l ≡ m → (x ∷ l) ≡ (y ∷ m)
both e f = ap₂ (λ (x : Answer) (l : List Answer). x ∷ l) e f

-- from any system that holds a model
pub history : {s t : System} {calls : List Call} {answers : List Answer} → History s calls answers t → (M : Model) → Holds s M
    → (answers ≡ answers_of M calls) × Holds t (after_all M calls)
unfolding answers_of after_all added_of withdrawn_of
history (none s) M H = (refl, H)
history (then_add s t tag f r calls answers a h) M H =
    let e = a M H in
    let rest = history h (after_add M tag f) (rw e (add_holds H tag f)) in
    (both (ap (λ (u : Changed). changed u.outcome) e) rest.0, rest.1)
history (then_withdraw s t tag r calls answers a h) M H =
    let e = a M H in
    let rest = history h (after_withdraw M tag) (rw e (withdraw-holds H tag)) in
    (both (ap (λ (u : Changed). changed u.outcome) e) rest.0, rest.1)
history (then_fetch s t residues residues' levels levels' r calls answers a h) M H =
    let e = a M H in
    let same : fetched r residues' levels' ≡ answer_of M (fetch residues levels) = rw (e.answer, e.residues_are, e.levels_are) in
    let rest = history h M H in
    (both same rest.0, rest.1)

-- from opening on
pub from_opening : {p n : ℕ} {calls : List Call} {answers : List Answer} {s : System} → FromOpening p n calls answers s
    → AsModel p n calls answers s
from_opening {p} {n} h =
    let all = history h.row (model p n []) (opened_holds p n h.first h.opened) in
    record { answers_are = all.0; holds = all.1 }
