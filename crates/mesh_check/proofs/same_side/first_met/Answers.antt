use Rattle.std.proofs.Common.{◌≡◌, ◌+◌, ◌≤◌, ℕ, Option, subst, sym, ap, arith}
use Rattle.mesh_check.specs.Searches.{IsLeastOf}
use Rattle.mesh_check.specs.Sides.{MeetsLater}
use Rattle.mesh_check.specs.declared.same_side.FaceSide.{FaceSide}
use Rattle.mesh_check.proofs.SidesOf.{meets_none, meets_more, side_small}
use Rattle.mesh_check.proofs.same_side.first_met.Goals as goal

pub loop-corner-init : goal.loop-corner-init
loop-corner-init c = meets_none c.args.points.now c.args.list.now c.args.from c.args.row

pub loop-corner-preserved : goal.loop-corner-preserved
loop-corner-preserved c =
    let ps = c.args.points.now in
    let small = subst (λ (p : FaceSide). p.side ≤ 2) (sym c.side_at-at.ensures) (side_small ps c.args.row c.loop-corner.corner) in
    subst (λ (o : Option ℕ). IsLeastOf (MeetsLater ps c.args.list.now c.args.from c.args.row (c.loop-corner.corner + 1)) o) (sym c.least_of-least.ensures)
    (meets_more ps c.args.list.now c.args.from c.args.row c.loop-corner.corner c.side_at-at.result c.loop-corner.least c.met_at.result c.side_at-at.ensures c.loop-corner.invariant (c.met_at.ensures small))

pub returns : goal.returns
returns c =
    let four : c.loop-corner.corner ≡ 4 = omega arith in
    subst (λ (n : ℕ). IsLeastOf (MeetsLater c.args.points.now c.args.list.now c.args.from c.args.row n) c.loop-corner.least) four c.loop-corner.invariant
