use Rattle.std.proofs.Common.{◌≡◌, ◌+◌, ℕ, Option, subst, sym, arith}
use Rattle.mesh_check.specs.Bending.{MeetsBent}
use Rattle.mesh_check.specs.Searches.{IsLeastOf}
use Rattle.mesh_check.proofs.Bends.{bent_more}
use Rattle.mesh_check.proofs.bent.first_bent_with.Goals as goal

pub loop-corner-preserved : goal.loop-corner-preserved
loop-corner-preserved c =
    let m = c.args.mesh in
    subst (λ (o : Option ℕ). IsLeastOf (MeetsBent m.points.now m.listed.now m.list.now c.args.place c.args.across (c.loop-corner.corner + 1)) o) (sym c.least_of-least.ensures)
    (bent_more m.points.now m.listed.now m.list.now c.args.place c.args.across c.loop-corner.corner c.loop-corner.least c.bent_across.result c.loop-corner.invariant c.bent_across.ensures)

pub returns : goal.returns
returns c =
    let m = c.args.mesh in
    let four : c.loop-corner.corner ≡ 4 = omega arith in
    subst (λ (n : ℕ). IsLeastOf (MeetsBent m.points.now m.listed.now m.list.now c.args.place c.args.across n) c.loop-corner.least) four c.loop-corner.invariant
