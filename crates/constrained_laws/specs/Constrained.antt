-- Constrained Delaunay triangulations. In tetrahedra that fill the hull face to face and have the facets as faces, a face in no facet is
-- locally Delaunay everywhere exactly where each tetrahedron's circumsphere is empty of the corners that its inside sees (Chew, 1989, in
-- the plane; Shewchuk, 2008). Ties are decided by the points' numbers (simulation of simplicity).
use Rattle.std.specs.Prelude.{◌≡◌, ◌<◌, ℕ, false, true, List, length, All, Any, Contains}
use Rattle.sign_predicates.specs.Point.{Point}
use Rattle.sign_predicates.specs.Orientation.{SpansPlane, IsPositive}
use Rattle.geo_laws.specs.Delaunay.{corners, numbers, is_outside_of, HasDistinctPoints, IsOn, IsDelaunayList, delaunay_rows}
use Rattle.geo_laws.specs.Simplex.{ProperlyMet}
use Rattle.geo_laws.specs.Facet.{corner_numbers}
use Rattle.geo_laws.specs.Segment.{is_side}
use Rattle.geo_laws.specs.Mesh.{ends}
use Rattle.geo_laws.specs.OrientedFace.{triangle}
use Rattle.geo_laws.specs.declared.complex.Piece.{Piece}
use Rattle.geo_laws.specs.declared.tetrahedra.Tet.{Tet}
use Rattle.geo_laws.specs.declared.complex.FacetTriangle.{FacetTriangle}
use Rattle.refill_laws.specs.Refill.{IsRefill}
use Rattle.path_laws.specs.KeptMesh.{IsWholeMesh}
use Rattle.tangle_laws.specs.Tangle.{facet_face, IsHiddenFrom, IsAdmissible}
use Rattle.tangle_laws.specs.Growth.{IsGrownList}

-- the triangles' corners are not on one line
abbrev pub AreTriangles : List Point → List FacetTriangle → Type 0
AreTriangles ps ts = All (λ k. SpansPlane (triangle ps (facet_face k))) ts

-- a corner of some tetrahedron
abbrev pub IsCornerOfSome : List Tet → ℕ → Type 0
IsCornerOfSome rows i = Any (λ t. Contains (numbers t) i) rows

-- each point is a corner of a tetrahedron
abbrev pub HasEachPoint : List Point → List Tet → Type 0
HasEachPoint ps rows = (i : ℕ) → i < length ps → IsCornerOfSome rows i

-- four of the points are the corners of a positive tetrahedron
abbrev pub HasTetrahedron : List Point → Type 0
HasTetrahedron ps = (t : Tet) × IsOn ps t × IsPositive (corners ps t)

-- A corner of one tetrahedron that is not outside of the circumsphere of another is hidden from that one
abbrev pub HiddenCornerLaw : Type 0
HiddenCornerLaw = (ps : List Point) (ts : List FacetTriangle) (rows : List Tet) → AreTriangles ps ts → IsWholeMesh ps ts rows
    → (t : Tet) → Contains rows t → (i : ℕ) → IsCornerOfSome rows i → ¬ Contains (numbers t) i → is_outside_of ps t i ≡ false
    → IsHiddenFrom ps ts t i

-- So where each point is a corner, the tetrahedra are admissible
abbrev pub WholeAdmissibleLaw : Type 0
WholeAdmissibleLaw = (ps : List Point) (ts : List FacetTriangle) (rows : List Tet) → AreTriangles ps ts → IsWholeMesh ps ts rows
    → HasEachPoint ps rows → All (IsAdmissible ps ts) rows

-- and only there
abbrev pub EachPointLaw : Type 0
EachPointLaw = (ps : List Point) (ts : List FacetTriangle) (rows : List Tet) → HasDistinctPoints ps → HasTetrahedron ps
    → IsWholeMesh ps ts rows → All (IsAdmissible ps ts) rows → HasEachPoint ps rows

-- A grown list in which each point is a corner is one of admissible tetrahedra
abbrev pub GrownAdmissibleLaw : Type 0
GrownAdmissibleLaw = (ps : List Point) (ts : List FacetTriangle) (old rows : List Tet) → IsGrownList ps ts old rows
    → HasEachPoint ps rows → All (IsAdmissible ps ts) rows

-- a grown list of admissible tetrahedra: a constrained Delaunay triangulation of the hull
pub record IsConstrainedList (ps : List Point) (ts : List FacetTriangle) (old rows : List Tet) : Type 0 where
  pub grown : IsGrownList ps ts old rows
  pub admissible : All (IsAdmissible ps ts) rows

-- In a Delaunay list whose crossed tetrahedra are replaced on each side of the facets, each point is a corner
abbrev pub RefilledPointsLaw : Type 0
RefilledPointsLaw = (ps : List Point) (ts : List FacetTriangle) (old rows : List Tet) → HasDistinctPoints ps → HasTetrahedron ps
    → IsDelaunayList ps old → IsWholeMesh ps ts rows → IsRefill ps ts old rows → HasEachPoint ps rows

-- A piece that is an edge of a Delaunay tetrahedron, and properly met with each facet triangle, is an edge of a whole mesh in which each
-- point is a corner
abbrev pub KeptPieceLaw : Type 0
KeptPieceLaw = (ps : List Point) (ts : List FacetTriangle) (rows : List Tet) → IsWholeMesh ps ts rows → HasEachPoint ps rows → (p : Piece)
    → is_side (delaunay_rows ps) p ≡ true → All (λ k. ProperlyMet ps (corner_numbers k) (ends p)) ts → is_side rows p ≡ true
