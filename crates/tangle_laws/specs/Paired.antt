-- Lists of tetrahedra, however they were made, that are shown to be right by their faces: no two on one side of a face,
-- one across each face, or no point. Nothing is required of the circumspheres.
use Rattle.std.specs.Prelude.{IsTrue, List, All, AllPairs, Any, Contains}
use Rattle.std.specs.List.{AllByRecursion}
use Rattle.sign_predicates.specs.Point.{Point}
use Rattle.sign_predicates.specs.Orientation.{IsPositive}
use Rattle.geo_laws.specs.Delaunay.{corners, IsOn, IsArranged, RowBefore}
use Rattle.geo_laws.specs.OrientedFace.{reversed}
use Rattle.geo_laws.specs.declared.tetrahedra.Tet.{Tet}
use Rattle.geo_laws.specs.declared.complex.FacetTriangle.{FacetTriangle}
use Rattle.crossing_laws.specs.Crossing.{faces_of}
use Rattle.tangle_laws.specs.Tangle.{has_face_either_way, facet_face}
use Rattle.tangle_laws.specs.Growth.{ShareNoSide, IsFilled, IsAlone, Ascend, IsSmooth, IsGrownList}
use Rattle.geo_laws.specs.Facet.{IsUncrossed}

-- Ascending positive tetrahedra, among them the uncrossed ones of the old list, no two of which lie on one side of a face; across each face
-- lies a tetrahedron, or no point; each facet triangle is a face
pub record IsPaired (ps : List Point) (ts : List FacetTriangle) (old rows : List Tet) : Type 0 where
  pub positive : All (λ t. IsOn ps t × IsPositive (corners ps t) × IsArranged t) rows
  pub ascending : AllPairs RowBefore rows
  pub kept : (t : Tet) → Contains old t → IsUncrossed ps ts t → Contains rows t
  pub one_a_side : AllPairs ShareNoSide rows
  pub across : All (λ t. AllByRecursion (λ f. IsFilled ps rows (reversed f)) (faces_of t)) rows
  pub facets : All (λ k. Any (λ t. IsTrue (has_face_either_way (facet_face k) t)) rows) ts

-- A paired list in which some tetrahedron is the only one that holds its nudged centroid, locally Delaunay across each
-- common face that is no facet triangle, keeps the whole promise of a refilled list
abbrev pub PairedListLaw : Type 0
PairedListLaw = (ps : List Point) (ts : List FacetTriangle) (old rows : List Tet) → Ascend ts → IsPaired ps ts old rows
    → (t : Tet) → Contains rows t → IsAlone ps rows t → IsSmooth ps ts rows → IsGrownList ps ts old rows
