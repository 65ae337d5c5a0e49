-- The meshes that are made have no defect.
use Rattle.std.specs.Prelude.{Bool, List, []}
use Rattle.sign_predicates.specs.Point.{Point}
use Rattle.geo_laws.specs.Complex.{Complex}
use Rattle.geo_laws.specs.Delaunay.{delaunay_rows}
use Rattle.complex_mesh.specs.Meshing.{IsComplexMesh}
use Rattle.complex_mesh.specs.declared.mesh.ComplexMesh.{ComplexMesh}
use Rattle.complex_mesh.specs.declared.mesh.MeshOptions.{MeshOptions}
use Rattle.mesh_files.specs.FaceRows.{AreFaceRowsOf}
use Rattle.mesh_files.specs.declared.markers.FaceRow.{FaceRow}
use Rattle.mesh_check.specs.Defects.{IsVerdict}
use Rattle.mesh_check.specs.declared.defect.Verdict.TheVariants.{Sound}
use Rattle.run_laws.specs.WrittenMesh.{written_mesh}

-- The mesh of a complex, with the faces on its hull and in facets, or all faces, has no defect
abbrev pub SoundComplexLaw : Type 0
SoundComplexLaw = (o : MeshOptions) (ps : List Point) (c : Complex) (m : ComplexMesh) → IsComplexMesh o ps c m
    → (all : Bool) (faces : List FaceRow)
    → AreFaceRowsOf m.points m.tetrahedra c m.triangles all faces → IsVerdict (written_mesh m.points m.tetrahedra faces) Sound

-- and so has the Delaunay list of points
abbrev pub SoundPointsLaw : Type 0
SoundPointsLaw = (ps : List Point) (c : Complex) (all : Bool) (faces : List FaceRow)
    → AreFaceRowsOf ps (delaunay_rows ps) c [] all faces → IsVerdict (written_mesh ps (delaunay_rows ps) faces) Sound
