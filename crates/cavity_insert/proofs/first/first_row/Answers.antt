use Rattle.std.proofs.Common.{arith}
use Rattle.geo_laws.specs.Delaunay.{point}
use Rattle.cavity_insert.proofs.Planes.{coplanar_of_few, coplanar_of_line, coplanar_of_plane}
use Rattle.cavity_insert.proofs.first.first_row.Goals as goal

pub returns-then-len-lt4-clause-flat : goal.returns-then-len-lt4-clause-flat
returns-then-len-lt4-clause-flat c e = coplanar_of_few c.args.points.now (omega arith)

pub returns-in_err-c-clause-flat : goal.returns-in_err-c-clause-flat
returns-in_err-c-clause-flat c e =
    let ps = c.args.points.now in
    coplanar_of_line ps (point ps 0) (point ps 1) (c.requires.distinct 0 1 (omega arith) (omega arith)) c.in_err-c.ensures

pub returns-clause-flat : goal.returns-clause-flat
returns-clause-flat c e =
    let ps = c.args.points.now in
    coplanar_of_plane ps (point ps 0) (point ps 1) (point ps c.in_ok-c.c) c.in_ok-c.ensures.2 (c.off_plane.ensures.flat e)
