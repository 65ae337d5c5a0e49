use Rattle.std.proofs.Common.{subst, arith}
use Rattle.geo_laws.specs.Delaunay.{numbers}
use Rattle.geo_laws.specs.declared.tetrahedra.Tet.{Tet}
use Rattle.mesh_files.specs.Texts.{AreNamed}
use Rattle.solver_files.specs.Vtk.{tet_cell}
use Rattle.solver_files.proofs.Parts.{next_item}
use Rattle.solver_files.proofs.vtk.put_rows.Goals as goal

pub loop-i-preserved : goal.loop-i-preserved
loop-i-preserved c =
    next_item (tet_cell c.args.names.now) c.loop-i.i c.args.list.now c.at.result c.loop-i.out _ _ (omega arith) (c.at.ensures c.at.result) c.in_ok-put_row.ensures c.loop-i.invariant

pub put_row-requires : goal.put_row-requires
put_row-requires c =
    subst (λ (t : Tet). AreNamed c.args.names.now (numbers t)) (c.at.ensures c.at.result) (c.requires c.loop-i.i c.at.result (omega arith))
