use Rattle.run_steps.proofs.Named.{faces_named}
use Rattle.run_steps.proofs.outputs.used_face_files.Goals as goal

pub face_files-requires-clause-named : goal.face_files-requires-clause-named
face_files-requires-clause-named c = λ asked.
    let mesh = c.args.mesh.now in
    faces_named mesh.names mesh.points mesh.tetrahedra mesh.complex mesh.triangles c.args.options.now.all_faces c.in_ok-faces.faces c.requires.mesh.named (c.in_ok-faces.ensures asked)
