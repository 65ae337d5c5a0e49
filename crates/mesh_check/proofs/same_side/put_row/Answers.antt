use Rattle.std.proofs.Common.{◌≡◌, ℕ, subst, arith}
use Rattle.std.specs.HashMap.{get}
use Rattle.mesh_check.specs.Sides.{same_side, IsPutBelow}
use Rattle.mesh_check.proofs.SidesOf.{put_none, put_more}
use Rattle.mesh_check.proofs.same_side.put_row.Goals as goal

pub loop-corner-init : goal.loop-corner-init
loop-corner-init c = put_none c.args.points.now c.args.row c.args.place (get same_side c.args.sides.now)

pub loop-corner-preserved : goal.loop-corner-preserved
loop-corner-preserved c =
    put_more c.args.points.now c.args.row c.loop-corner.corner c.args.place (get same_side c.args.sides.now) (get same_side c.loop-corner.sides) (get same_side c.insert.new.self) c.side_at.result c.side_at.ensures c.loop-corner.invariant
    c.in_ok-insert.ensures.updates.0

pub returns : goal.returns
returns c =
    let four : c.loop-corner.corner ≡ 4 = omega arith in
    subst (λ (n : ℕ). IsPutBelow c.args.points.now c.args.row n c.args.place (get same_side c.args.sides.now) (get same_side c.loop-corner.sides)) four c.loop-corner.invariant
