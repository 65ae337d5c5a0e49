use Rattle.std.proofs.Common.{All, IsSome, refl, subst, take_all}
use Rattle.std.proofs.lemmas.List.Elements.{All-more}
use Rattle.array_meshes.specs.Doubles.{rounded_place}
use Rattle.array_meshes.specs.declared.doubles.DoublePoint.{DoublePoint}
use Rattle.array_meshes.proofs.doubles.are_near.Goals as goal

pub loop-point-preserved : goal.loop-point-preserved
loop-point-preserved c =
    let none : DoublePoint = record { x = 0; y = 0; z = 0 } in
    All-more (λ p. IsSome (rounded_place c.args.decimals p)) c.args.points.now c.loop-point.point-index none c.loop-point-test.true c.loop-point.invariant
    (subst IsSome c.rounded_place.ensures c.if-is_none.ensures)

pub returns : goal.returns
returns c = (λ h. subst (All (λ p. IsSome (rounded_place c.args.decimals p))) (take_all c.loop-point.point-index c.args.points.now c.loop-point-test.false) c.loop-point.invariant, λ h. refl)
