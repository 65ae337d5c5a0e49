use Rattle.std.proofs.Common.{arith}
use Rattle.geo_laws.specs.Delaunay.{IsOn}
use Rattle.tet_shapes.proofs.Counts.{all_at}
use Rattle.refining.proofs.worst.corner_at.Goals as goal

pub at-requires-2 : goal.at-requires-2
at-requires-2 c =
    let on : IsOn c.args.points.now c.at.result = all_at (IsOn c.args.points.now) c.args.tetrahedra.now c.args.place c.at.result c.requires.on c.requires.there c.at.ensures in
    on 0 0 (omega arith)
