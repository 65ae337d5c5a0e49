use Rattle.std.proofs.Common.{◌+◌, ◌++◌, ℕ, ap, refl, subst, ◌∙◌, arith}
use Rattle.geo_laws.specs.Delaunay.{numbers}
use Rattle.geo_laws.specs.declared.tetrahedra.Tet.{Tet}
use Rattle.mesh_files.specs.Texts.{AreNamed}
use Rattle.solver_files.specs.Mesh.{mesh_of}
use Rattle.solver_files.specs.Msh.{element_line, tet_line}
use Rattle.solver_files.proofs.Parts.{next_numbered}
use Rattle.solver_files.proofs.msh.put_rows.Goals as goal

pub loop-i-preserved : goal.loop-i-preserved
loop-i-preserved c =
    let m = mesh_of c.args.mesh.now in
    let i = c.loop-i.i in
    let t = c.at.result in
    let line = c.in_ok-put_row.ensures
    ∙ ap (λ (tag : ℕ). c.loop-i.out ++ element_line m.names (i + 1) 4 tag (numbers t)) c.tet_tag-tag.ensures in
    next_numbered (tet_line m) i (i + 1) i m.rows t c.loop-i.out _ _ refl (omega arith) (c.at.ensures t) line c.loop-i.invariant

pub put_row-requires : goal.put_row-requires
put_row-requires c =
    subst (λ (t : Tet). AreNamed c.args.mesh.now.names.now (numbers t)) (c.at.ensures c.at.result) (c.requires.named c.loop-i.i c.at.result (omega arith))
