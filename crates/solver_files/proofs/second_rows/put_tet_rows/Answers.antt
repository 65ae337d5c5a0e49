use Rattle.std.proofs.Common.{◌+◌, refl, subst, arith}
use Rattle.geo_laws.specs.Delaunay.{numbers}
use Rattle.geo_laws.specs.declared.tetrahedra.Tet.{Tet}
use Rattle.mesh_files.specs.Texts.{AreNamed}
use Rattle.solver_files.specs.Second.{second_of}
use Rattle.solver_files.specs.SecondRows.{tet_row}
use Rattle.solver_files.proofs.Parts.{next_numbered}
use Rattle.solver_files.proofs.second_rows.put_tet_rows.Goals as goal

pub loop-i-preserved : goal.loop-i-preserved
loop-i-preserved c =
    let i = c.loop-i.i in
    let line = tet_row c.args.format (second_of c.args.mesh.now) c.args.first in
    next_numbered line i (i + 1) i c.args.mesh.now.whole.list.now c.at.result c.loop-i.out _ _ refl (omega arith) (c.at.ensures c.at.result) c.in_ok-put_tet_row.ensures c.loop-i.invariant

pub put_tet_row-requires-clause-named : goal.put_tet_row-requires-clause-named
put_tet_row-requires-clause-named c =
    subst (λ (t : Tet). AreNamed c.args.mesh.now.whole.names.now (numbers t)) (c.at.ensures c.at.result) (c.requires.written.named c.loop-i.i c.at.result (omega arith))
