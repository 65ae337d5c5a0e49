use Rattle.std.proofs.Common.{subst, sym, ◌∙◌, arith}
use Rattle.std.specs.Prelude.{All}
use Rattle.facet_plane.specs.Outline.{IsBlocked}
use Rattle.facet_plane.proofs.Polygons.{corners_there}
use Rattle.facet_plane.proofs.Rows.{all_more, shapes_next}
use Rattle.facet_plane.proofs.prepared.Outlines.of.Goals as goal

pub of-requires : goal.of-requires
of-requires c = corners_there c.args.points.now c.args.complex.now c.loop-q.q c.corners.result.now c.requires.corners (omega arith) c.corners.ensures

pub loop-q-preserved : goal.loop-q-preserved
loop-q-preserved c = record {
  shapes = shapes_next c.args.points.now c.args.complex.now.polygons c.loop-q.q c.args.facet.now.past c.corners.result.now c.loop-q.each c.push.new.self c.in_ok-of.field-0 (omega arith) c.requires.range c.corners.ensures c.in_ok-of.ensures c.in_ok-push.ensures.ok
      ∙ c.loop-q.invariant.shapes;
  blocked = subst (All IsBlocked) (sym c.in_ok-push.ensures.ok) (all_more IsBlocked c.loop-q.each c.in_ok-of.field-0 c.loop-q.invariant.blocked c.in_ok-of.ensures.blocked);
}
