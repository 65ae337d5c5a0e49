-- The faces of rows with their markers.
use Rattle.std.specs.Prelude.{◌≡◌, ◌↔◌, ◌⊎◌, ◌==◌, ◌<◌, ℕ, ℤ, pos, Bool, IsTrue, if◌then◌else◌, Option, Some, None, List, count_by, length, All, AllPairs, Contains, HoldsAt}
use Rattle.sign_predicates.specs.Point.{Point}
use Rattle.sign_predicates.specs.Orientation.{IsPositive}
use Rattle.facet_laws.specs.Faces.{Ascends}
use Rattle.geo_laws.specs.Complex.{Complex}
use Rattle.geo_laws.specs.Delaunay.{corners}
use Rattle.geo_laws.specs.Faces.{face_numbers, faces_of_rows, FaceBefore}
use Rattle.geo_laws.specs.Facet.{corner_numbers, LiesIn}
use Rattle.geo_laws.specs.Simplex.{ProperlyMet}
use Rattle.geo_laws.specs.declared.complex.Facet.{Facet}
use Rattle.geo_laws.specs.declared.complex.FacetTriangle.{FacetTriangle}
use Rattle.geo_laws.specs.declared.faces.Face.{Face}
use Rattle.geo_laws.specs.declared.tetrahedra.Tet.{Tet}
use Rattle.incidence.specs.Pairs.{has_face}
use Rattle.mesh_files.specs.declared.markers.FaceRow.{FaceRow}

-- the triangle ascends, and is properly met with each face of the rows, which are positive
pub record IsMet (ps : List Point) (rows : List Tet) (t : FacetTriangle) : Type 0 where
  pub ascending : Ascends t
  pub positive : All (λ r. IsPositive (corners ps r)) rows
  pub properly_met : (face : Face) → Contains (faces_of_rows rows) face → ProperlyMet ps (face_numbers face) (corner_numbers t)

-- each triangle is met so
abbrev pub AreTrianglesMetByFaces : List Point → List FacetTriangle → List Tet → Type 0
AreTrianglesMetByFaces ps ts rows = All (IsMet ps rows) ts

-- the facets of the triangles are there
abbrev pub AreFacetsThere : List FacetTriangle → Complex → Type 0
AreFacetsThere ts complex = All (λ t. t.facet < length complex.facets) ts

-- one row alone has the face, so that it is on the hull of the mesh
abbrev pub is_on_hull : List Tet → Face → Bool
is_on_hull rows f = count_by (has_face f) rows == 1

-- the marker of a facet, and 1 where it has none
abbrev pub marker_or_1 : Option ℤ → ℤ
marker_or_1 None = pos 1
marker_or_1 (Some marker) = marker

-- ---- of a face by the facets in which it lies

-- the facet is the first one of these
abbrev pub IsFirstLying : (ℕ → Type 0) → ℕ → Type 0
IsFirstLying lies facet = lies facet × ((g : ℕ) → g < facet → ¬ lies g)

-- the marker of the face: that of the first facet in which it lies; where it lies in none, 1 if it is on the hull, else 0
abbrev pub IsFaceMarker : (ℕ → Type 0) → List Facet → Bool → ℤ → Type 0
IsFaceMarker lies facets on_hull marker =
    ((facet : ℕ) × IsFirstLying lies facet × HoldsAt (λ f. marker ≡ marker_or_1 f.marker) facets facet)
    ⊎ (¬ ((facet : ℕ) × lies facet)) × (marker ≡ (if on_hull then pos 1 else pos 0))

-- all faces are asked for, or those on the hull and those that lie in facets
abbrev pub IsAsked : (ℕ → Type 0) → Bool → Bool → Type 0
IsAsked lies all on_hull = IsTrue all ⊎ (IsTrue on_hull ⊎ ((facet : ℕ) × lies facet))

-- ---- the faces of rows

abbrev pub corners_of : FaceRow → Face
corners_of r = record { a = r.a; b = r.b; c = r.c }

-- the face with its marker, where it is asked for
pub record IsFaceRowOf (lies : Face → ℕ → Type 0) (facets : List Facet) (rows : List Tet) (all : Bool) (f : Face)
    (r : FaceRow) : Type 0 where
  pub corners_are : corners_of r ≡ f
  pub marker_is : IsFaceMarker (lies f) facets (is_on_hull rows f) r.marker
  pub asked : IsAsked (lies f) all (is_on_hull rows f)

-- by the points of each face
abbrev pub IsFaceRow : List Point → List Tet → Complex → List FacetTriangle → Bool → FaceRow → Type 0
IsFaceRow ps rows complex ts all r =
    (f : Face) × Contains (faces_of_rows rows) f × IsFaceRowOf (λ g facet. LiesIn ps ts facet g) complex.facets rows all f r

-- each face that is asked for once, with its marker, ascending
pub record AreFaceRowsOf (ps : List Point) (rows : List Tet) (complex : Complex) (ts : List FacetTriangle) (all : Bool)
    (found : List FaceRow) : Type 0 where
  pub exactly : (r : FaceRow) → Contains found r ↔ IsFaceRow ps rows complex ts all r
  pub ascending : AllPairs (λ r s. FaceBefore (corners_of r) (corners_of s)) found

-- a face on the hull that lies in no facet
abbrev pub hull_row : Face → FaceRow
hull_row f = record { a = f.a; b = f.b; c = f.c; marker = pos 1 }
