use Rattle.std.proofs.Common.{refl}
use Rattle.facet_plane.proofs.Around.{outline_blocked}
use Rattle.facet_plane.proofs.outline.Outline.of.Goals as goal

pub returns : goal.returns
returns c = record {
  area = refl;
  sides = c.in_ok-sides.ensures;
  blocked = outline_blocked c.args.points.now c.args.corners.now (record { is_area = _; sides = c.in_ok-sides.sides; blocks = c.in_ok-blocks.blocks; extent = c.whole_extent.result }) c.in_ok-boxes.boxes c.in_ok-sides.ensures c.in_ok-boxes.ensures c.in_ok-blocks.ensures c.whole_extent.ensures;
}
