use Rattle.std.proofs.Common.{subst, arith}
use Rattle.mesh_files.specs.Texts.{ele_line}
use Rattle.geo_laws.specs.Delaunay.{numbers}
use Rattle.geo_laws.specs.declared.tetrahedra.Tet.{Tet}
use Rattle.mesh_files.specs.Texts.{AreNamed}
use Rattle.mesh_files.proofs.Lines.{next_line}
use Rattle.mesh_files.proofs.ele.write_rows.Goals as goal

pub loop-i-preserved : goal.loop-i-preserved
loop-i-preserved c =
    next_line (ele_line c.args.names.now c.args.first) c.loop-i.i c.args.list.now c.at.result c.loop-i.out _ _ (omega arith) (c.at.ensures c.at.result) c.in_ok-append_row.ensures c.loop-i.invariant

pub append_row-requires-clause-named : goal.append_row-requires-clause-named
append_row-requires-clause-named c =
    subst (λ (t : Tet). AreNamed c.args.names.now (numbers t)) (c.at.ensures c.at.result) (c.requires c.loop-i.i c.at.result (omega arith))
