use Rattle.sign_predicates.proofs.Places.{C, D}
use Rattle.geo_laws.proofs.Corners.{distinct}
use Rattle.cavity_insert.proofs.StartMesh.{start_mesh}
use Rattle.cavity_insert.proofs.start.start_mesh.Goals as goal

pub start_slots-requires-clause-differ : goal.start_slots-requires-clause-differ
start_slots-requires-clause-differ c = distinct c.args.points.now c.args.t c.requires.positive C D tt

pub returns-clause-mesh : goal.returns-clause-mesh
returns-clause-mesh c =
    start_mesh _ c.args.points.now c.args.t (c.link_ghosts.ensures c.args.t (c.link_row.ensures c.args.t c.in_ok-arena.ensures)) c.requires.numbers c.requires.positive c.requires.arranged
