-- What is written of a mesh.
use Rattle.std.specs.Prelude.{ℕ, Bool, List, All, AllPairs, Contains}
use Rattle.sign_predicates.specs.Point.{Point}
use Rattle.sign_predicates.specs.Orientation.{IsPositive}
use Rattle.geo_laws.specs.Complex.{Complex}
use Rattle.geo_laws.specs.Delaunay.{corners, IsOn, RowBefore}
use Rattle.geo_laws.specs.Faces.{row_faces}
use Rattle.geo_laws.specs.Facet.{LiesInSome}
use Rattle.geo_laws.specs.Hull.{CoversHullOnce}
use Rattle.geo_laws.specs.Mesh.{IsLocallyDelaunay}
use Rattle.geo_laws.specs.declared.complex.FacetTriangle.{FacetTriangle}
use Rattle.geo_laws.specs.declared.faces.Face.{Face}
use Rattle.geo_laws.specs.declared.tetrahedra.Tet.{Tet}
use Rattle.incidence.specs.Pairs.{pairs_of}
use Rattle.incidence.specs.declared.pairs.Across.{Across}
use Rattle.mesh_files.specs.FaceRows.{AreFaceRowsOf, AreFacetsThere}
use Rattle.mesh_files.specs.declared.markers.FaceRow.{FaceRow}
use Rattle.crossing_laws.specs.Crossing.{AreApart}
use Rattle.mesh_check.specs.Defects.{ReadMesh, IsVerdict}
use Rattle.mesh_check.specs.declared.defect.Verdict.TheVariants.{Sound}
use Rattle.run_laws.specs.LeastGrids.{AreMultiples}

-- the points, rows and faces of a mesh, with the neighbors that its rows have
abbrev pub written_mesh : List Point → List Tet → List FaceRow → ReadMesh
written_mesh ps rows faces = record { points = ps; rows = rows; faces = faces; neighbors = pairs_of rows }

-- ascending rows that are apart, and locally Delaunay across each common face that lies in no facet
pub record IsApartMesh (ps : List Point) (ts : List FacetTriangle) (rows : List Tet) : Type 0 where
  pub apart : AreApart ps rows
  pub ascending : AllPairs RowBefore rows
  pub locally_delaunay : AllPairs (λ s t. (face : Face) → Contains (row_faces s) face → Contains (row_faces t) face
      → ¬ LiesInSome ps ts face → IsLocallyDelaunay ps s t) rows

-- With the faces on the hull and in facets, or all faces, such rows have no defect
abbrev pub WrittenMeshLaw : Type 0
WrittenMeshLaw = (ps : List Point) (ts : List FacetTriangle) (complex : Complex) (rows : List Tet) (all : Bool) (faces : List FaceRow)
    → IsApartMesh ps ts rows → AreFacetsThere ts complex → AreFaceRowsOf ps rows complex ts all faces
    → IsVerdict (written_mesh ps rows faces) Sound

-- Ascending rows of a list that covers the hull once are apart
abbrev pub KeptApartLaw : Type 0
KeptApartLaw = (ps : List Point) (whole part : List Tet) → All (IsOn ps) whole → All (λ t. IsPositive (corners ps t)) whole
    → AllPairs RowBefore whole
    → CoversHullOnce ps whole → ((t : Tet) → Contains part t → Contains whole t) → AllPairs RowBefore part → AreApart ps part

-- Points in a larger unit make the same verdict on a mesh without a defect
abbrev pub LargerUnitLaw : Type 0
LargerUnitLaw = (f : ℕ) (ps qs : List Point) → AreMultiples f ps qs → (rows : List Tet) (faces : List FaceRow) (neighbors : List Across)
    → IsVerdict (record { points = ps; rows = rows; faces = faces; neighbors = neighbors }) Sound
    → IsVerdict (record { points = qs; rows = rows; faces = faces; neighbors = neighbors }) Sound
