use Rattle.std.proofs.Common.{None}
use Rattle.run_steps.proofs.Meshables.{points_writable, with_hull}
use Rattle.run_steps.proofs.mesh.mesh_delaunay.Goals as goal

pub returns-clause-writable : goal.returns-clause-writable
returns-clause-writable c =
    rw (c.in_ok-mesh.ensures, c.in_ok-rows.ensures.rows) (points_writable c.args.options.now c.args.bound c.requires)

pub returns-clause-hull : goal.returns-clause-hull
returns-clause-hull c =
    with_hull c.args.bound.table c.in_ok-rows.field-0.rows None c.in_ok-rows.field-0.hull c.in_ok-mesh.mesh c.in_ok-mesh.ensures c.in_ok-rows.ensures.ascending c.in_ok-rows.ensures.hull
