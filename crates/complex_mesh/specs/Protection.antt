-- A complex after protection: the segments and facets that are meshed, the points, the subsegments, and the triangles
-- of the facets.
use Rattle.std.specs.Prelude.{◌≡◌, Bool, true, false, ℕ, ◌+◌, ◌-◌, ◌^◌, ◌<◌, pos, ◌<ℤ◌, List, length, flat_map, All}
use Rattle.sign_predicates.specs.Point.{Point}
use Rattle.geo_laws.specs.Complex.{Complex, corner_lists, facets, HasCornersOf}
use Rattle.geo_laws.specs.Delaunay.{point, numbers_below, HasDistinctPoints}
use Rattle.geo_laws.specs.Segment.{segments, pieces, protect, Protected}
use Rattle.geo_laws.specs.Facet.{Facet, IsFlat, facet_triangles}
use Rattle.geo_laws.specs.declared.complex.Piece.{Piece}
use Rattle.geo_laws.specs.declared.complex.FacetTriangle.{FacetTriangle}
use Rattle.complex_laws.specs.SoundComplex.{facet_numbered}
use Rattle.segment_protect.specs.Ends.{CanSplit}
use Rattle.segment_protect.specs.Protection.{IsMultiple}
use Rattle.merged_facets.specs.Merged.{IsMerging, merged_segments}
use Rattle.recovery_laws.specs.MergedMesh.{merged_facets}
use Rattle.complex_mesh.specs.declared.mesh.MeshOptions.{MeshOptions}

-- the input of a mesh: distinct points, few enough, whose coordinates can be halved `halvings` times; and a complex on
-- them, whose hole and region points are rational points
pub record IsMeshable (halvings budget : ℕ) (ps : List Point) (c : Complex) : Type 0 where
  pub distinct : HasDistinctPoints ps
  pub multiples : (i : ℕ) → i < length ps → IsMultiple (2 ^ halvings) (point ps i)
  pub few : length ps + budget < 2 ^ 32 - 2
  pub corners : HasCornersOf ps c
  pub holes : All (λ h. pos 0 <ℤ h.w) c.holes
  pub regions : All (λ r. pos 0 <ℤ r.at.w) c.regions

-- the segments and facets of a complex whose coplanar facets are merged where they are joined over a common side
pub record AreOfMerged (ps : List Point) (c : Complex) (segs : List Piece) (fs : List Facet) : Type 0 where
  pub group : ℕ → ℕ
  pub inner : ℕ → Piece → Bool
  pub merging : IsMerging ps c group inner
  pub segments_are : segs ≡ merged_segments inner c
  pub facets_are : fs ≡ merged_facets group c

-- The segments and facets that are meshed: those as read where facets are kept apart, else those of the merged facets
abbrev pub AreMeshed : Bool → List Point → Complex → List Piece → List Facet → Type 0
AreMeshed true ps c segs fs = (segs ≡ segments (corner_lists c.polygons)) × (fs ≡ facets c)
AreMeshed false ps c segs fs = AreOfMerged ps c segs fs

-- the facets as read are flat, the points are not all in one plane, any two subsegments are properly met, and
-- protection ends with these points and subsegments
pub record IsProtectedComplex (o : MeshOptions) (ps : List Point) (c : Complex) (segs : List Piece) (fs : List Facet) (qs : List Point)
    (rest : List Piece) : Type 0 where
  pub flat : All (IsFlat ps) (facets c)
  pub meshed : AreMeshed o.keep_facets ps c segs fs
  pub can_split : CanSplit ps (pieces ps segs)
  pub ends : protect o.halvings o.budget ps (pieces ps segs) ≡ Protected qs rest

-- protection of the complex ends with these points
abbrev pub IsProtectedTo : MeshOptions → List Point → Complex → List Point → Type 0
IsProtectedTo o ps c qs = (segs : List Piece) × (fs : List Facet) × (rest : List Piece) × IsProtectedComplex o ps c segs fs qs rest

-- the triangles of the facet at a place
abbrev pub triangles_at : List Point → List Facet → ℕ → List FacetTriangle
triangles_at qs fs k = facet_triangles qs k (facet_numbered fs k)

-- the triangles of the first facets, facet by facet
abbrev pub first_triangles : List Point → List Facet → ℕ → List FacetTriangle
first_triangles qs fs n = flat_map (triangles_at qs fs) (numbers_below n)

-- the triangles of all facets
abbrev pub complex_triangles : List Point → List Facet → List FacetTriangle
complex_triangles qs fs = first_triangles qs fs (length fs)
