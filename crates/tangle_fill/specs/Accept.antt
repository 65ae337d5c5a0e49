-- The requirements on each tetrahedron of a candidate list, however it was found, and on the list indexed by the sides
-- of its faces.
use Rattle.std.specs.Prelude.{◌≡◌, false, IsTrue, List, map, All, AllPairs, Any, Contains}
use Rattle.std.specs.List.{AllByRecursion}
use Rattle.sign_predicates.specs.Point.{Point}
use Rattle.sign_predicates.specs.Orientation.{IsPositive}
use Rattle.geo_laws.specs.Delaunay.{corners, IsOn, IsArranged}
use Rattle.geo_laws.specs.Faces.{row_faces}
use Rattle.geo_laws.specs.Mesh.{IsLocallyDelaunay}
use Rattle.geo_laws.specs.OrientedFace as oriented_face
use Rattle.geo_laws.specs.OrientedFace.{reversed}
use Rattle.geo_laws.specs.declared.faces.Face.{Face}
use Rattle.geo_laws.specs.declared.tetrahedra.Tet.{Tet}
use Rattle.geo_laws.specs.declared.complex.FacetTriangle.{FacetTriangle}
use Rattle.tangle_laws.specs.Tangle.{lies_on, has_face_either_way, facet_face}
use Rattle.tangle_laws.specs.Growth.{ShareNoSide, sorted_triangle}
use Rattle.tangle_fill.specs.Indexed.{IsIndexed}
use Rattle.tangle_fill.specs.Fill.{as_oriented}
use Rattle.tangle_fill.specs.declared.growth.Growth.{Growth}

-- the row is on the points, positive and in the least even arrangement
abbrev pub IsRow : List Point → Tet → Type 0
IsRow ps t = IsOn ps t × IsPositive (corners ps t) × IsArranged t

-- each row is on the points, positive and in the least even arrangement
abbrev pub AreArrangedRows : List Point → List Tet → Type 0
AreArrangedRows ps rows = All (IsRow ps) rows

-- such tetrahedra, indexed by the sides of faces on which they lie, no two of them on one side of a face
pub record IsPairedGrowth (ps : List Point) (g : Growth) : Type 0 where
  pub rows : AreArrangedRows ps g.rows
  pub one_a_side : AllPairs ShareNoSide g.rows
  pub indexed : IsIndexed g

-- the facet triangle is a face of a tetrahedron
abbrev pub HasTriangle : List Tet → FacetTriangle → Type 0
HasTriangle rows k = Any (λ t. IsTrue (has_face_either_way (facet_face k) t)) rows

-- each of the faces is a facet triangle
abbrev pub AreTriangleFaces : List FacetTriangle → List Face → Type 0
AreTriangleFaces ts faces = (face : Face) → Contains faces face → Contains (map sorted_triangle ts) face

-- the two tetrahedra are locally Delaunay, or the face is a subface
abbrev pub IsEven : List Point → List Face → Face → Tet → Tet → Type 0
IsEven ps faces face s t = ¬ Contains faces face → IsLocallyDelaunay ps s t

-- the tetrahedron is locally Delaunay with each one on the positive side of `across`, which is one side of the face, or
-- the face is a subface
abbrev pub IsEvenTo : List Point → List Face → List Tet → Tet → Face → oriented_face.Face → Type 0
IsEvenTo ps faces rows row face across = (t : Tet) → Contains rows t → IsTrue (lies_on across t) → IsEven ps faces face row t

-- the tetrahedron is locally Delaunay with each one across the face, or the face is a subface
abbrev pub IsEvenAcross : List Point → List Face → List Tet → Tet → Face → Type 0
IsEvenAcross ps faces rows row face =
    (IsTrue (lies_on (as_oriented face) row) → IsEvenTo ps faces rows row face (reversed (as_oriented face)))
    × (lies_on (as_oriented face) row ≡ false → IsEvenTo ps faces rows row face (as_oriented face))

-- the tetrahedron is locally Delaunay across each of its faces, subfaces aside
abbrev pub IsEvenRow : List Point → List Face → List Tet → Tet → Type 0
IsEvenRow ps faces rows row = AllByRecursion (IsEvenAcross ps faces rows row) (row_faces row)
