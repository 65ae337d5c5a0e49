use Rattle.std.proofs.Common.{◌<◌, length, sym, subst, ◌∙◌, arith}
use Rattle.hole_carve.specs.Flooding.{begins, queue_at, IsClosedFrom}
use Rattle.hole_carve.proofs.Flooding.{queue_short, marked_is, flooded_is, done_still, below_next, default_at, marked_inside}
use Rattle.hole_carve.proofs.Floods.{goes_on_more}
use Rattle.hole_carve.proofs.flood.Flood.fill.Goals as goal

pub reach-requires-clause-comes : goal.reach-requires-clause-comes
reach-requires-clause-comes c = begins c.loop-place.place c.if-seeds-place.true

pub loop-at-smaller : goal.loop-at-smaller
loop-at-smaller c = omega (arith, queue_short _ _ _ _ c.loop-at.invariant.goes_on.flood.filled, c.loop-at.invariant.goes_on.flood.long, c.requires.seeds)

pub returns-clause-exactly : goal.returns-clause-exactly
returns-clause-exactly c i = (
  marked_is _ _ _ _ c.loop-at.invariant.goes_on.flood.filled i,
  flooded_is _ _ _ _ c.loop-at.invariant.goes_on.flood.filled c.loop-at.invariant.seeded (λ q l. c.loop-at.invariant.done q (omega arith)) i,
)

pub loop-at-preserved : goal.loop-at-preserved
loop-at-preserved c =
    let was = c.loop-at.invariant in
    let e = c.in_ok-reach_next.ensures in
    let grown = e.goes_on.grown in
    let old = c.loop-at.self in
    let new = c.reach_next.new.self in
    record {
      inside = omega (arith, grown.longer, c.loop-at-test.true);
      goes_on = goes_on_more c.args.ways.now c.args.seeds.now _ _ _ was.goes_on e.goes_on;
      seeded = λ v s. grown.marked v (was.seeded v s);
      done = below_next (λ q. IsClosedFrom c.args.ways.now new.marks.items (queue_at new.queue.items q)) c.loop-at.at
          (λ q l. done_still c.args.ways.now old.marks.items new.marks.items old.queue.items new.queue.items grown q (omega (arith, c.loop-at-test.true, l)) (was.done q l))
          (subst (IsClosedFrom c.args.ways.now new.marks.items) (sym (grown.same c.loop-at.at (omega (arith, c.loop-at-test.true)) ∙ default_at old.queue.items c.loop-at.at 0 c.index-place.result.now (omega (arith, c.loop-at-test.true)) ∙ sym c.index-place.ensures)) e.done);
    }

pub loop-at-init : goal.loop-at-init
loop-at-init c =
    let was = c.loop-place.invariant in
    let first = c.args.self.now in
    let now = c.loop-place.self in
    let grown = was.goes_on.grown in
    record {
      inside = omega (arith, grown.longer, c.len-at.ensures);
      goes_on = was.goes_on;
      seeded = λ v e. was.seeded v (let h = marked_inside c.args.seeds.now v e in omega (arith, c.loop-place-test.false, h)) e;
      done = λ q l. let h : q < length first.queue.items = omega (arith, c.len-at.ensures, l) in done_still c.args.ways.now first.marks.items now.marks.items first.queue.items now.queue.items grown q h (c.requires.done q h);
    }
