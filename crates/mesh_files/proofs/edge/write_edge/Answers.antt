use Rattle.std.proofs.Common.{subst, arith}
use Rattle.mesh_files.specs.Texts.{edge_line}
use Rattle.geo_laws.specs.Faces.{side_numbers}
use Rattle.geo_laws.specs.declared.faces.Side.{Side}
use Rattle.mesh_files.specs.Texts.{AreNamed}
use Rattle.mesh_files.proofs.Lines.{next_line}
use Rattle.mesh_files.proofs.edge.write_edge.Goals as goal

pub loop-i-preserved : goal.loop-i-preserved
loop-i-preserved c =
    next_line (edge_line c.args.names.now c.args.first) c.loop-i.i c.args.edges.now c.at.result c.loop-i.out _ _ (omega arith) (c.at.ensures c.at.result) c.in_ok-append_edge.ensures c.loop-i.invariant

pub append_edge-requires-clause-named : goal.append_edge-requires-clause-named
append_edge-requires-clause-named c =
    subst (λ (s : Side). AreNamed c.args.names.now (side_numbers s)) (c.at.ensures c.at.result) (c.requires c.loop-i.i c.at.result (omega arith))
