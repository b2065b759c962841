-- `systems::cut::cut` meets its contract. The invariant: of the classes read so far those that are kept are written, and they are the first
-- of the list of both sets.
use Rattle.std.proofs.Common.{◌≡◌, true, false, ◌<◌, length, refl, sym, ◌∙◌, arith}
use Rattle.systems.specs.inner.Cutting.{first_is_next}
use Rattle.systems.proofs.Cutting.{first_inside, second_inside, Given, turned_none, turned-all, first-turn, second-turn, list-levels}
use Rattle.systems.proofs.cut.cut.Goals as goal
use Rattle.systems.proofs.cut.cut.Goals.{After-first_is_next}

-- A turn: which list is read
module _ (c : After-first_is_next) where
  reads_first : c.first_is_next.result ≡ true → first_is_next c.args.a.now c.args.b.now c.loop-i.i c.loop-i.j ≡ true
  reads_first e = sym c.first_is_next.ensures ∙ e

  in-first : c.first_is_next.result ≡ true → c.loop-i.i < length c.args.a.now
  in-first e = first_inside c.args.a.now c.args.b.now c.loop-i.i c.loop-i.j (reads_first e)

  reads_second : c.first_is_next.result ≡ false → first_is_next c.args.a.now c.args.b.now c.loop-i.i c.loop-i.j ≡ false
  reads_second e = sym c.first_is_next.ensures ∙ e

  in-second : c.first_is_next.result ≡ false → c.loop-i.j < length c.args.b.now
  in-second e =
      second_inside c.args.a.now c.args.b.now c.loop-i.i c.loop-i.j (omega (arith, c.loop-i-test.true, c.loop-i.invariant.2))
      (reads_second e)

pub loop-i-init : goal.loop-i-init
loop-i-init c =
    (omega arith, omega arith, refl, omega arith, refl, refl, λ S T n G. turned_none c.requires.3 G)

pub keep_covered-k-requires : goal.keep_covered-k-requires
keep_covered-k-requires c =
    let p = c.requires in
    let l = c.loop-i.invariant in (
      in-first (goal.at.keep_covered-k-requires c).After-first_is_next c.if-first_is_next.true,
      p.0,
      p.1,
      omega arith,
      l.4 ∙ p.3 ∙ sym l.5,
      omega (arith, l.3, l.4),
    )

pub loop-i-preserved-then-first_is_next : goal.loop-i-preserved-then-first_is_next
loop-i-preserved-then-first_is_next c =
    let turn = (goal.at.loop-i-preserved-then-first_is_next c).After-first_is_next in
    let k = c.keep_covered-k in
    let l = c.loop-i.invariant in
    let e = c.if-first_is_next.true in
    let inside = in-first turn e in (
      omega arith,
      l.1,
      l.2,
      omega (arith, k.ensures.within, l.4),
      k.auto.residues ∙ l.4,
      k.auto.levels ∙ l.5,
      (λ S T n G.
          first-turn c.requires.3 G (l.6 S T n G) inside (reads_first turn e)
          (k.ensures.kept c.args.p n (c.powers-table.ensures n G.two G.fits) (list-levels (omega (arith, G.two)) G.second))),
    )

pub keep_covered-k-requires-else-first_is_next : goal.keep_covered-k-requires-else-first_is_next
keep_covered-k-requires-else-first_is_next c =
    let p = c.requires in
    let l = c.loop-i.invariant in (
      in-second (goal.at.keep_covered-k-requires-else-first_is_next c).After-first_is_next c.if-first_is_next.false,
      p.1,
      p.0,
      omega arith,
      l.4 ∙ p.3 ∙ sym l.5,
      omega (arith, l.3, l.4),
    )

pub loop-i-preserved : goal.loop-i-preserved
loop-i-preserved c =
    let turn = (goal.at.loop-i-preserved c).After-first_is_next in
    let k = c.keep_covered-k-else-first_is_next in
    let l = c.loop-i.invariant in
    let e = c.if-first_is_next.false in
    let inside = in-second turn e in (
      l.0,
      omega arith,
      l.2,
      omega (arith, k.ensures.within, l.4),
      k.auto.residues ∙ l.4,
      k.auto.levels ∙ l.5,
      (λ S T n G.
          second-turn c.requires.3 G (l.6 S T n G) inside (reads_second turn e)
          (k.ensures.kept c.args.p n (c.powers-table.ensures n G.two G.fits) (list-levels (omega (arith, G.two)) G.first))),
    )

pub returns : goal.returns
returns c =
    let l = c.loop-i.invariant in record {
      within = l.3;
      lists = (λ S T n two fits first second room.
          let x = c.args in
          let G : Given x.p x.a.now x.t.now x.b.now x.s.now (length x.residues.now) S T n =
          record { two = two; fits = fits; first = first; second = second; room = room } in
          turned-all c.requires.3 G (l.6 S T n G) (omega (arith, l.0, l.1, l.2))
          (omega (arith, l.0, l.1, l.2)));
    }
