use Rattle.std.proofs.Common.{subst, sym, arith}
use Rattle.std.proofs.lemmas.List.{take_all}
use Rattle.sign_predicates.specs.Point.{origin}
use Rattle.box_tree.specs.Bounds.{HoldsPoint}
use Rattle.box_tree.proofs.Boxes.{within_more, within_self}
use Rattle.facet_plane.specs.NearPoints.{HoldsAll}
use Rattle.facet_plane.proofs.NearPoints.{corner_more}
use Rattle.facet_plane.proofs.near.with_corners.Goals as goal

pub loop-i-init : goal.loop-i-init
loop-i-init c = record { wider = within_self c.args.bounds; holds = λ k d l. absurd (omega arith) }

pub loop-i-preserved : goal.loop-i-preserved
loop-i-preserved c =
    let h = c.loop-i.invariant in
    let new = c.joined-wide in
    record {
      wider = within_more c.args.bounds c.loop-i.wide new.result h.wider new.ensures.first;
      holds =
          corner_more c.args.points.now c.loop-i.wide c.point_bounds.result new.result c.args.corners.now c.loop-i.i
          (omega arith) new.ensures.first new.ensures.second
          (subst (HoldsPoint c.point_bounds.result) (sym (c.at.ensures origin)) c.point_bounds.ensures) h.holds;
    }

pub returns : goal.returns
returns c = record {
  holds = subst (HoldsAll c.args.points.now c.loop-i.wide) (take_all c.loop-i.i c.args.corners.now (omega arith)) c.loop-i.invariant.holds;
  wider = c.loop-i.invariant.wider;
}
