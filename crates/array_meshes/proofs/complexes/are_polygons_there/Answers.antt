use Rattle.std.proofs.Common.{All, subst, refl, take_all}
use Rattle.std.proofs.lemmas.List.Elements.{All-more}
use Rattle.array_meshes.specs.Complexes.{IsPolygonThere}
use Rattle.array_meshes.proofs.complexes.are_polygons_there.Goals as goal

pub loop-polygon-preserved : goal.loop-polygon-preserved
loop-polygon-preserved c =
    All-more (IsPolygonThere c.args.complex.now) c.args.polygons.now c.loop-polygon.polygon-index _ c.loop-polygon-test.true c.loop-polygon.invariant (c.if-not-is_polygon_there.ensures.0 refl)

pub returns : goal.returns
returns c = (λ h. subst (All (IsPolygonThere c.args.complex.now)) (take_all c.loop-polygon.polygon-index c.args.polygons.now c.loop-polygon-test.false) c.loop-polygon.invariant, λ h. refl)
