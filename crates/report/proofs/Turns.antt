-- A turn: where the unused bytes lie after it, and that it is a step of `Run`.
use Rattle.std.specs.Prelude.{Option, Some, None}
use mathlib.Core.Path.{◌≡◌, refl, sym, ap, ◌∙◌}
use mathlib.Core.List.{List, [], ◌∷◌, ◌++◌}
use Prim.Native.Nat.{ℕ, ◌+◌, ◌-◌, ◌≤◌, ◌<◌}
use native.Mathlib.Omega.{arith}
use lib.ListN.{length, take, drop, length-take, length-drop}
use lib.Seq.{paste, length-take-le, take-add, drop_at, drop-drop}
use borrow.Rule.Slice.PartMut.{mid_of, put_mid, take_put}
use Rattle.std.specs.List.{copy_within}
use Rattle.std.proofs.lemmas.List.Edits.{take-paste}
use Rattle.report.specs.declared.step.Totals.{Totals}
use Rattle.report.specs.declared.step.Stepped.{Stepped}
use Rattle.report.specs.declared.step.Stepped.TheVariants.{Line, Stop, Wait}
use Rattle.report.specs.declared.Place.{Place}
use Rattle.report.specs.Run.{Outcome, next, stop, wait, Run}
use Rattle.report.specs.Run.{line as run-line, stopped as run-stopped, more as run_more, ended as run-ended}
use Rattle.report.specs.inner.Outcomes.{outcome, ending, step_of, Counted, After}
use Rattle.report.specs.inner.Places.{Placed, unused, Going, Turned, line, stopped, more, ended}

-- Lists

pub part_length : (from to : ℕ) (l : List ℕ) → to ≤ length l → length (take (to - from) (drop from l)) ≡ to - from
part_length from to l h = length-take-le (to - from) (drop from l) (omega (arith, length-drop from l))

drop_part : (n k : ℕ) (l : List ℕ) → n ≤ k → k ≤ length l → drop n (take k l) ≡ take (k - n) (drop n l)
drop_part n k l h g =
    let e : k ≡ n + (k - n) = omega arith in
    ap (λ (j : ℕ). drop n (take j l)) e
    ∙ ap (drop n) (take-add n (k - n) l)
    ∙ drop_at (take n l) (take (k - n) (drop n l)) n (length-take-le n l (omega arith))

-- What a step's answer says of the outcome

next_means : (o : Outcome Totals) (t : Totals) (end bytes : ℕ) → Line t end bytes ≡ step_of o → (l : List ℕ) × (o ≡ next t l end)
next_means (next u l n) t end bytes e =
    let a : u ≡ t = cc e in
    let b : n ≡ end = cc e in
    (l, rw (a, b))
next_means (stop l) t end bytes e = let z : ◌≡◌ {A = ℕ} 0 1 = cc e in absurd (omega arith)
next_means wait t end bytes e = let z : ◌≡◌ {A = ℕ} 0 1 = cc e in absurd (omega arith)

stop_means : (o : Outcome Totals) (bytes : ℕ) → Stop bytes ≡ step_of o → (l : List ℕ) × (o ≡ stop l)
stop_means (next u l n) bytes e = let z : ◌≡◌ {A = ℕ} 0 1 = cc e in absurd (omega arith)
stop_means (stop l) bytes e = (l, refl)
stop_means wait bytes e = let z : ◌≡◌ {A = ℕ} 0 1 = cc e in absurd (omega arith)

wait_means : (o : Outcome Totals) → Wait ≡ step_of o → o ≡ wait
wait_means (next u l n) e = let z : ◌≡◌ {A = ℕ} 0 1 = cc e in absurd (omega arith)
wait_means (stop l) e = let z : ◌≡◌ {A = ℕ} 0 1 = cc e in absurd (omega arith)
wait_means wait e = refl

-- A turn, by the step's answer

-- the place after a problem of so many bytes
abbrev pub onward : Place → Totals → (end : ℕ) → Place
onward at t end = record { totals = t; from = at.from + end; to = at.to }

-- after a problem's line, which has so many bytes
pub record Lined (at : Place) (buffer row : List ℕ) (t : Totals) (end bytes : ℕ) : Type 0 where
  pub counted : Counted bytes row
  pub inside : at.from + end ≤ at.to
  pub going : Going at (Some (onward at t end))
  pub turned : Turned at.totals (unused at buffer) (Some (onward at t end)) buffer

module _ (at : Place) (buffer : List ℕ) (size : 65536 ≡ length buffer) (placed : Placed at) where
  abbrev s : Totals
  s = at.totals

  abbrev w : List ℕ
  w = unused at buffer

  w-length : length w ≡ at.to - at.from
  w-length = part_length at.from at.to buffer (omega (arith, placed.inside))

  rest-is : (end : ℕ) → at.from + end ≤ at.to → take (at.to - (at.from + end)) (drop (at.from + end) buffer) ≡ drop end w
  rest-is end h =
      let k : at.to - (at.from + end) ≡ at.to - at.from - end = omega arith in
      ap (λ (j : ℕ). take j (drop (at.from + end) buffer)) k
      ∙ ap (take (at.to - at.from - end)) (sym (drop-drop end at.from buffer))
      ∙ sym (drop_part end (at.to - at.from) (drop at.from buffer) (omega arith)
      (omega (arith, length-drop at.from buffer, placed.inside)))

  module _ (r : Stepped) (row : List ℕ) (answer : r ≡ step_of (outcome s w)) (after : After s r (length w) row) where
    pub line-turn : (t : Totals) (end bytes : ℕ) → r ≡ Line t end bytes → Lined at buffer row t end bytes
    line-turn t end bytes is =
        let facts : After s (Line t end bytes) (length w) row = rw is at after in
        let inside : at.from + end ≤ at.to = omega (arith, facts.1.1.0, w-length, placed.ordered) in
        let o = next_means (outcome s w) t end bytes (sym is ∙ answer) in
        record {
          counted = facts.1.1.1;
          inside = inside;
          going = (
            record { small = facts.0; ordered = inside; inside = placed.inside },
            omega (arith, facts.0.few, facts.1.0, inside),
          );
          turned = line (onward at t end) buffer o.0 end o.1 (rest-is end inside);
        }

    -- the line that ends the report
    pub stop-turn : (bytes : ℕ) → r ≡ Stop bytes → Counted bytes row × Turned at.totals (unused at buffer) None buffer
    stop-turn bytes is =
        let o = stop_means (outcome s w) bytes (sym is ∙ answer) in
        (rw is at after, stopped buffer o.0 o.1)

    -- no line
    pub wait-turn : r ≡ Wait → (at.to < at.from + 1399) × (outcome at.totals (unused at buffer) ≡ wait)
    wait-turn is =
        let few : length w < 1399 = rw is at after in
        (omega (arith, few, w-length, placed.ordered), wait_means (outcome s w) (sym is ∙ answer))

  -- the unused bytes moved to the front
  pub moved-front : (moved : List ℕ) → moved ≡ copy_within buffer at.from at.to 0
      → take (at.to - at.from) moved ≡ take (at.to - at.from) (drop at.from buffer)
  moved-front moved e =
      let held = at.to - at.from in
      let same : held ≡ 0 + held = omega arith in
      ap (take held) e
      ∙ ap (λ (k : ℕ). take k (paste buffer 0 (drop at.from buffer) held)) same
      ∙ take-paste buffer 0 (drop at.from buffer) held (omega arith) (omega (arith, length-drop at.from buffer, placed.inside))

  -- A turn that waits: `moved` is the buffer with the unused bytes at its front, and a read puts `ys` behind them

  module _ (moved ys : List ℕ) (moved-size : length moved ≡ length buffer)
      (front : take (at.to - at.from) moved ≡ take (at.to - at.from) (drop at.from buffer)) where
    abbrev held : ℕ
    held = at.to - at.from

    abbrev now : List ℕ
    now = put_mid held (length moved - held) moved ys

    held-inside : held ≤ length moved
    held-inside = omega (arith, placed.inside, moved-size)

    now-front : take held now ≡ w
    now-front = take_put held (length moved - held) moved ys held-inside ∙ front

    pub held-counted : held ≡ length (take held (put_mid held (length moved - held) moved ys))
    held-counted = sym (ap length now-front ∙ w-length)

    -- n bytes are read
    module _ (n : ℕ) (some : n ≡ 0 → ⊥) (part : length ys ≡ length (mid_of held (length moved - held) moved))
        (read : n ≤ length ys) (few : at.to < at.from + 1399) where
      abbrev to : Place
      to = record { totals = at.totals; from = 0; to = held + n }

      read-inside : held + n ≤ 65536
      read-inside =
          omega (
            arith,
            part,
            length-take (length moved - held) (drop held moved),
            length-drop held moved,
            moved-size,
            held-inside,
          )

      pub more_turn : outcome at.totals (unused at buffer) ≡ wait
          → Going at (Some to) × Turned at.totals (unused at buffer) (Some to) (put_mid held (length moved - held) moved ys)
      more_turn e =
          let k : held + n - 0 ≡ held + n = omega arith in
          let grown : unused to now ≡ w ++ take n (drop held now) =
          ap (λ (j : ℕ). take j now) k ∙ take-add held n now ∙ ap (λ (l : List ℕ). l ++ take n (drop held now)) now-front in (
            (record { small = placed.small; ordered = omega arith; inside = read-inside }, omega (arith, placed.ordered)),
            more to now (take n (drop held now)) e refl grown,
          )

-- Turns one after another are a `Run`

-- what is written before the rest, and what is read for it
pub turn_then_run : {s : Totals} {w : List ℕ} {r : Option Place} {buffer : List ℕ} → Turned s w r buffer → (at : Place) → r ≡ Some at
    → (lines : List ℕ) × ((read : List (List ℕ)) × ((pieces : List (List ℕ)) (out : List ℕ)
    → Run outcome ending at.totals (unused at buffer) pieces out → Run outcome ending s w (read ++ pieces) (lines ++ out)))
turn_then_run {s} {w} (line to buffer l n e u) at is =
    let same : to ≡ at = cc is in
    rw (sym same) (l, ([], λ pieces out run. run-line s to.totals w l n pieces out e (rw (sym u) run)))
turn_then_run (stopped buffer l e) at is = let z : ◌≡◌ {A = ℕ} 0 1 = cc is in absurd (omega arith)
turn_then_run {s} {w} (more to buffer piece e t u) at is =
    let same : to ≡ at = cc is in
    rw (sym same) ([], (piece ∷ [], λ pieces out run. run_more s w piece pieces out e (rw (sym t, sym u) run)))
turn_then_run (ended buffer e) at is = let z : ◌≡◌ {A = ℕ} 0 1 = cc is in absurd (omega arith)

-- and what is written last
pub turn_ends_run : {s : Totals} {w : List ℕ} {r : Option Place} {buffer : List ℕ} → Turned s w r buffer → r ≡ None
    → (lines : List ℕ) × Run outcome ending s w [] lines
turn_ends_run (line to buffer l n e u) is = let z : ◌≡◌ {A = ℕ} 0 1 = cc is in absurd (omega arith)
turn_ends_run {s} {w} (stopped buffer l e) is = (l, run-stopped s w l [] e)
turn_ends_run (more to buffer piece e t u) is = let z : ◌≡◌ {A = ℕ} 0 1 = cc is in absurd (omega arith)
turn_ends_run {s} {w} (ended buffer e) is = (ending s w, run-ended s w e)
