-- Facet triangles as faces, in the order in which they are looked up.
use Rattle.std.specs.Prelude.{◌≡◌, ◌↔◌, ◌⊎◌, ℕ, ◌<◌, Option, Some, None, List, AllPairs, Contains}
use Rattle.facet_laws.specs.Faces.{as_triangle}
use Rattle.geo_laws.specs.Faces.{FaceBefore}
use Rattle.geo_laws.specs.declared.complex.FacetTriangle.{FacetTriangle}
use Rattle.geo_laws.specs.declared.faces.Face.{Face}
use Rattle.mesh_files.specs.FaceRows.{IsFirstLying}
use Rattle.mesh_files.specs.declared.facet_faces.FacetFace.{FacetFace}
use Rattle.mesh_files.specs.declared.markers.FaceRow.{FaceRow}

-- the face is a triangle of the facet
abbrev pub IsTriangleIn : List FacetFace → Face → ℕ → Type 0
IsTriangleIn faces face facet = Contains faces (record { face = face; facet = facet })

abbrev pub FacetFaceBefore : FacetFace → FacetFace → Type 0
FacetFaceBefore x y = FaceBefore x.face y.face ⊎ (x.face ≡ y.face) × (x.facet < y.facet)

-- the triangles as faces, each once, ascending by the face and then by the facet
pub record AreFacetFaces (ts : List FacetTriangle) (faces : List FacetFace) : Type 0 where
  pub exactly : (face : Face) (facet : ℕ) → IsTriangleIn faces face facet ↔ Contains ts (as_triangle facet face)
  pub ascending : AllPairs FacetFaceBefore faces

-- the first of these facets, or none where there is none
abbrev pub IsFirstOrNone : (ℕ → Type 0) → Option ℕ → Type 0
IsFirstOrNone lies None = ¬ ((facet : ℕ) × lies facet)
IsFirstOrNone lies (Some facet) = IsFirstLying lies facet

-- the row of a face, or none where it has none
abbrev pub IsRowOrNone : (FaceRow → Type 0) → Option FaceRow → Type 0
IsRowOrNone is None = (r : FaceRow) → ¬ is r
IsRowOrNone is (Some r) = is r
