use Rattle.sign_predicates.specs.Orientation.{IsPositive}
use Rattle.geo_laws.specs.Delaunay.{corners, IsOn}
use Rattle.cavity_insert.proofs.FirstRow.{begun_for}
use Rattle.cavity_insert.proofs.Flat.{not_coplanar_of}
use Rattle.cavity_insert.proofs.meshing.mesh_counted.Goals as goal

pub insert_all-requires-clause-mesh : goal.insert_all-requires-clause-mesh
insert_all-requires-clause-mesh g c =
    begun_for (g.H.Lift.heights c.args.lift.now) _ (g.H.Lift.points c.args.lift.now) _ c.in-Some.first c.points-points.ensures c.in-Some.ensures.positive c.in-Some.ensures.arranged c.in_ok-arena.ensures.mesh

pub returns-clause-not_flat : goal.returns-clause-not_flat
returns-clause-not_flat g c =
    let ps = g.H.Lift.points c.args.lift.now in
    let first = c.in-Some.first in
    let on : IsOn ps first = rw c.points-points.ensures at c.in-Some.ensures.on in
    let positive : IsPositive (corners ps first) = rw c.points-points.ensures at c.in-Some.ensures.positive in
    not_coplanar_of ps first on positive
