use Rattle.std.proofs.Common.{List, sym, subst}
use Rattle.std.specs.Prelude.{All}
use Rattle.geo_laws.specs.Delaunay.{numbers}
use Rattle.geo_laws.specs.declared.tetrahedra.Tet.{Tet}
use Rattle.mesh_files.specs.Texts.{AreNamed}
use Rattle.run_steps.proofs.outputs.all_face_file.Goals as goal

pub write_all_faces-requires-clause-named : goal.write_all_faces-requires-clause-named
write_all_faces-requires-clause-named c =
    subst (λ (rows : List Tet). All (λ t. AreNamed c.args.mesh.now.names (numbers t)) rows) (sym c.marked_list-list.ensures.list) c.requires.mesh.named
