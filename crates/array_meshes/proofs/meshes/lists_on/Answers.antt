use Rattle.std.proofs.Common.{false, subst}
use Rattle.std.proofs.lemmas.Result.{IfOk-weaker}
use Rattle.complex_mesh.specs.Meshing.{IsComplexMesh}
use Rattle.geo_laws.specs.Complex.{Complex}
use Rattle.mesh_files.specs.FaceRows.{AreFaceRowsOf}
use Rattle.array_meshes.proofs.Listed.{begins, cells_named, faces_named, few, marks_long}
use Rattle.array_meshes.specs.Complexes.{mesh_options}
use Rattle.array_meshes.proofs.meshes.lists_on.Goals as goal

pub lists_of-requires-clause-begins : goal.lists_of-requires-clause-begins
lists_of-requires-clause-begins c =
    let made = c.args.made.now in
    let complex = c.args._complex.now in
    let is = subst (λ (k : Complex). IsComplexMesh (mesh_options made.table complex) made.table.points k made.mesh) c.requires.complex c.requires.mesh in
    begins complex made.table made.mesh c.requires.table is

pub lists_of-requires-clause-few : goal.lists_of-requires-clause-few
lists_of-requires-clause-few c =
    let made = c.args.made.now in
    let complex = c.args._complex.now in
    let is = subst (λ (k : Complex). IsComplexMesh (mesh_options made.table complex) made.table.points k made.mesh) c.requires.complex c.requires.mesh in
    few complex made.table made.mesh c.requires.table is c.requires.budget

pub lists_of-requires-clause-cells : goal.lists_of-requires-clause-cells
lists_of-requires-clause-cells c =
    let made = c.args.made.now in
    let complex = c.args._complex.now in
    let is = subst (λ (k : Complex). IsComplexMesh (mesh_options made.table complex) made.table.points k made.mesh) c.requires.complex c.requires.mesh in
    cells_named complex made.table made.mesh c.requires.table is

pub lists_of-requires-clause-faces : goal.lists_of-requires-clause-faces
lists_of-requires-clause-faces c =
    let made = c.args.made.now in
    let complex = c.args._complex.now in
    let is = subst (λ (k : Complex). IsComplexMesh (mesh_options made.table complex) made.table.points k made.mesh) c.requires.complex c.requires.mesh in
    faces_named complex made.table made.mesh c.requires.table is made.complex false c.in_ok-faces.faces c.in_ok-faces.ensures

pub lists_of-requires-clause-marks : goal.lists_of-requires-clause-marks
lists_of-requires-clause-marks c =
    let made = c.args.made.now in
    marks_long made.mesh.points made.mesh.triangles made.mesh.tetrahedra made.complex.regions made.mesh.marks c.requires.mesh.marks

pub returns : goal.returns
returns c =
    let made = c.args.made.now in
    let complex = c.args._complex.now in
    let is = subst (λ (k : Complex). IsComplexMesh (mesh_options made.table complex) made.table.points k made.mesh) c.requires.complex c.requires.mesh in
    let faces = subst (λ (k : Complex). AreFaceRowsOf made.mesh.points made.mesh.tetrahedra k made.mesh.triangles false c.in_ok-faces.faces) c.requires.complex c.in_ok-faces.ensures in
    IfOk-weaker c.lists_of.result _ _ (λ lists h. record {
      table = made.table;
      mesh = made.mesh;
      found = c.in_ok-faces.faces;
      meshed = record { on = c.requires.table; there = c.requires.there; is_mesh = is; faces = faces };
      lists = h;
    }) c.lists_of.ensures
