use Rattle.std.proofs.Common.{◌≡◌, Bool, true, false, not, ◌&&◌, [], refl, sym, subst, ◌∙◌}
use Rattle.std.proofs.lemmas.Bool.{true≢false}
use Rattle.mesh_files.specs.FaceRows.{AreFaceRowsOf}
use Rattle.run_steps.proofs.Named.{faces_named}
use Rattle.run_steps.specs.Outputs.{asks_faces}
use Rattle.run_steps.proofs.outputs.hull_outputs.Goals as goal

-- what is asked for
parts : (a b c d : Bool) → (a && (b && (not c && not d))) ≡ true → (a ≡ true) × (c ≡ false) × (d ≡ false)
parts false b c d h = absurd (true≢false (sym h))
parts true false c d h = absurd (true≢false (sym h))
parts true true true d h = absurd (true≢false (sym h))
parts true true false true h = absurd (true≢false (sym h))
parts true true false false h = (refl, refl, refl)

pub face_files-requires-clause-named : goal.face_files-requires-clause-named
face_files-requires-clause-named c = λ asked.
    let mesh = c.args.mesh.now in
    let hull = c.requires.hull in
    faces_named mesh.names mesh.points mesh.tetrahedra mesh.complex [] false c.in_ok-faces.faces c.requires.mesh.named (c.in_ok-faces.ensures mesh.points mesh.complex mesh.tetrahedra hull.ascending hull.faces)

pub returns : goal.returns
returns c =
    let options = c.args.options.now in
    let mesh = c.args.mesh.now in
    let hull = c.requires.hull in
    let asked = parts options.quiet (asks_faces options) options.all_faces options.neighbors c.requires.asks in
    let found = c.in_ok-faces.ensures mesh.points mesh.complex mesh.tetrahedra hull.ascending hull.faces in
    record {
      marked = c.in_ok-faces.faces;
      marked_are = λ _. subst (λ all. AreFaceRowsOf mesh.points mesh.tetrahedra mesh.complex mesh.triangles all c.in_ok-faces.faces) (sym asked.1)
          (subst (λ ts. AreFaceRowsOf mesh.points mesh.tetrahedra mesh.complex ts false c.in_ok-faces.faces) (sym hull.bare) found);
      faces = [];
      faces_are = λ loud. absurd (true≢false (sym asked.0 ∙ loud));
      face_is = c.in_ok-files.ensures.face;
      whole_is = c.in_ok-files.ensures.whole;
      neigh_is = rw asked.2 refl;
      count_is = refl;
    }
