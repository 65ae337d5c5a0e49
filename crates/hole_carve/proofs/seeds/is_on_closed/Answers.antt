use Rattle.std.proofs.Common.{refl, sym, subst, ◌∙◌, arith}
use Rattle.std.proofs.lemmas.Bool.{true≢false}
use Rattle.hole_carve.specs.Flooding.{queue_at}
use Rattle.hole_carve.specs.Seeds.{HoldsOn}
use Rattle.hole_carve.proofs.Flooding.{below_next}
use Rattle.hole_carve.proofs.Seeding.{at_of, of_at, lies_same, lies_back}
use Rattle.hole_carve.proofs.seeds.is_on_closed.Goals as goal
use Rattle.geo_laws.specs.Delaunay.{row_at}

pub returns-then-lies_on_some : goal.returns-then-lies_on_some
returns-then-lies_on_some c =
    let place = queue_at c.args.holders.now c.loop-at.at in
    let h = (c.requires.holders place).0 (of_at c.args.holders.now c.loop-at.at c.loop-at-test.true) in (
      λ e. (place, h.0, (h.1, lies_same c.args.points.now c.args.closed.now c.args.x c.corners_of.result c.row_on-row.result (row_at c.args.list.now place) c.corners_of.ensures c.row_on-row.ensures.is (c.lies_on_some.ensures.0 c.if-lies_on_some.true))),
      λ e. refl,
    )

pub loop-at-preserved : goal.loop-at-preserved
loop-at-preserved c =
    let place = queue_at c.args.holders.now c.loop-at.at in
    below_next (λ i. ¬ HoldsOn c.args.points.now c.args.closed.now (row_at c.args.list.now (queue_at c.args.holders.now i)) c.args.x) c.loop-at.at c.loop-at.invariant
    (λ h. true≢false (sym (c.lies_on_some.ensures.1 (lies_back c.args.points.now c.args.closed.now c.args.x c.corners_of.result c.row_on-row.result (row_at c.args.list.now place) c.corners_of.ensures c.row_on-row.ensures.is h.1)) ∙ c.if-lies_on_some.false))

pub returns : goal.returns
returns c = (
  λ e. absurd (true≢false (sym e)),
  λ h.
      let k = at_of c.args.holders.now h.0 ((c.requires.holders h.0).1 (h.1, h.2.0)) in
      absurd (c.loop-at.invariant k.0 (omega (arith, k.1, c.loop-at-test.false)) (subst (λ i. HoldsOn c.args.points.now c.args.closed.now (row_at c.args.list.now i) c.args.x) (sym k.2) h.2)),
)
