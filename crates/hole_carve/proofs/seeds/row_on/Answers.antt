use Rattle.std.proofs.Common.{subst}
use Rattle.geo_laws.specs.Delaunay.{IsOn}
use Rattle.geo_laws.specs.declared.tetrahedra.Tet.{Tet}
use Rattle.hole_carve.proofs.seeds.row_on.Goals as goal

pub returns-clause-on : goal.returns-clause-on
returns-clause-on c = let d : Tet = record { a = 0; b = 0; c = 0; d = 0 } in subst (IsOn c.args.points.now) (c.at.ensures d) (c.requires.on c.args.at d c.requires.there)
