use Rattle.std.proofs.Common.{◌<◌, All, subst, refl, take_all}
use Rattle.std.proofs.lemmas.List.Elements.{All-more}
use Rattle.array_meshes.proofs.complexes.are_below.Goals as goal

pub loop-corner-preserved : goal.loop-corner-preserved
loop-corner-preserved c = All-more (λ i. i < c.args.count) c.args.corners.now c.loop-corner.corner-index 0 c.loop-corner-test.true c.loop-corner.invariant c.if-corner-count.false

pub returns : goal.returns
returns c = (λ h. subst (All (λ i. i < c.args.count)) (take_all c.loop-corner.corner-index c.args.corners.now c.loop-corner-test.false) c.loop-corner.invariant, λ h. refl)
