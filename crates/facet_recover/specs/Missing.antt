-- The missing subfaces: the facet triangles that are no faces of the tetrahedra.
use Rattle.std.specs.Prelude.{◌≡◌, ◌↔◌, ℕ, ◌<◌, Bool, true, IsTrue}
use Rattle.std.specs.Prelude.{List, length, slice_index_or, Contains}
use Rattle.geo_laws.specs.Faces.{faces_of_rows}
use Rattle.geo_laws.specs.declared.tetrahedra.Tet.{Tet}
use Rattle.geo_laws.specs.declared.complex.FacetTriangle.{FacetTriangle}
use Rattle.incidence.specs.Chains.{face_of_triangle}

-- the triangles that are no faces of the tetrahedra
abbrev pub AreMissing : List FacetTriangle → List Tet → List FacetTriangle → Type 0
AreMissing ts rows missing = (t : FacetTriangle) → Contains missing t ↔ (Contains ts t
    × ¬ Contains (faces_of_rows rows) (face_of_triangle t))

-- a mark for each triangle: whether it is a face of the tetrahedra
pub record AreListed (ts : List FacetTriangle) (rows : List Tet) (marks : List Bool) : Type 0 where
  pub counted : length marks ≡ length ts
  pub each : (i : ℕ) (d : FacetTriangle) → i < length ts
      → IsTrue (slice_index_or marks i true) ↔ Contains (faces_of_rows rows) (face_of_triangle (slice_index_or ts i d))
