-- What is properly met by pairs, and meshes of a complex.
use Rattle.std.specs.Prelude.{ℕ, not, IsTrue, List, [], ◌∷◌, filter, ◌≡◌, All, AllPairs, Any, Contains}
use Rattle.sign_predicates.specs.Point.{Point, RationalPoint, EachRational}
use Rattle.sign_predicates.specs.Orientation.{IsPositive, InClosed}
use Rattle.geo_laws.specs.Delaunay.{corners, numbers, is_outside_of, IsOn, IsArranged, RowBefore}
use Rattle.geo_laws.specs.Faces.{row_faces, face_numbers}
use Rattle.geo_laws.specs.Hull.{OffPlanes, rows_round}
use Rattle.geo_laws.specs.Simplex.{InSimplex, ProperlyMet, RowsProperlyMet, has_number}
use Rattle.geo_laws.specs.Facet.{IsOnFacet, IsOnSomeFacet, LiesIn, LiesInSome}
use Rattle.geo_laws.specs.Path.{Carving, IsOut, IsOnRowSide}
use Rattle.geo_laws.specs.declared.faces.Face.{Face}
use Rattle.geo_laws.specs.declared.tetrahedra.Tet.{Tet}
use Rattle.geo_laws.specs.declared.complex.Piece.{Piece}
use Rattle.geo_laws.specs.declared.complex.FacetTriangle.{FacetTriangle}

abbrev pub ends : Piece → List ℕ
ends p = p.a ∷ p.b ∷ []

-- the simplices are pairwise properly met
abbrev pub PairwiseProperlyMet : List Point → List (List ℕ) → Type 0
PairwiseProperlyMet ps simplices = AllPairs (ProperlyMet ps) simplices

-- ---- meshes

-- for two tetrahedra with a common face: the fourth corner of s is outside of the circumsphere of t
abbrev pub IsOutsideOf : List Point → Tet → Tet → Type 0
IsOutsideOf ps t s = All (λ i. IsTrue (is_outside_of ps t i)) (filter (λ i. not (has_number (numbers t) i)) (numbers s))

abbrev pub IsLocallyDelaunay : List Point → Tet → Tet → Type 0
IsLocallyDelaunay ps s t = IsOutsideOf ps s t × IsOutsideOf ps t s

-- a mesh of the complex: rows that fill what is not out, keep the facets as faces, and are locally Delaunay elsewhere
pub record IsMesh (carving : Carving) (ps : List Point) (ts : List FacetTriangle) (holes : List RationalPoint)
    (rows : List Tet) : Type 0 where
  pub positive : All (λ t. IsOn ps t × IsPositive (corners ps t) × IsArranged t) rows
  pub ascending : AllPairs RowBefore rows
  pub filled : EachRational (λ x. ¬ IsOnSomeFacet ps ts x → OffPlanes ps rows x → ¬ IsOut carving ps ts rows holes x
      → rows_round ps rows x ≡ 1)
  pub empty : EachRational (λ x. ¬ IsOnSomeFacet ps ts x → OffPlanes ps rows x → IsOut carving ps ts rows holes x
      → rows_round ps rows x ≡ 0)
  pub facets_kept : EachRational (λ x. (facet : ℕ) → IsOnFacet ps ts facet x → Any (λ t. InClosed (corners ps t) x) rows
      → ¬ IsOnRowSide ps rows x
      → Any (λ t. Any (λ face. InSimplex ps (face_numbers face) x × LiesIn ps ts facet face) (row_faces t)) rows)
  pub locally_delaunay : AllPairs (λ s t. (face : Face) → Contains (row_faces s) face → Contains (row_faces t) face
      → ¬ LiesInSome ps ts face → IsLocallyDelaunay ps s t) rows
  pub properly_met : RowsProperlyMet ps rows
