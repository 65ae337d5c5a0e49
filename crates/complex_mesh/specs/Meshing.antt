-- The mesh of a complex, and why there is none.
use Rattle.std.specs.Prelude.{◌≡◌, ◌↔◌, ◌<◌, ℕ, true, false, IsTrue, List, [], length, All, Any}
use Rattle.std.specs.Prelude.{Contains, IsSome, IfSome, Result, MatchResult}
use Rattle.sign_predicates.specs.Point.{Point, EachRational}
use Rattle.sign_predicates.specs.Orientation.{InClosed}
use Rattle.geo_laws.specs.Complex.{Complex, facets}
use Rattle.geo_laws.specs.Delaunay.{corners, delaunay_rows, AreCoplanar}
use Rattle.geo_laws.specs.Segment.{pieces, protect, GridEnd as GridEndOf, BudgetEnd as BudgetEndOf, is_side}
use Rattle.geo_laws.specs.Facet.{Facet, IsFlat}
use Rattle.geo_laws.specs.Mesh.{IsMesh}
use Rattle.geo_laws.specs.declared.tetrahedra.Tet.{Tet}
use Rattle.geo_laws.specs.declared.complex.Piece.{Piece}
use Rattle.path_laws.specs.Flood.{carving_of}
use Rattle.segment_protect.specs.Ends.{CanSplit}
use Rattle.segment_protect.specs.Crossing as segment
use Rattle.facet_plane.specs.Flat.{IsFirstNotFlat}
use Rattle.simplex_meets.specs.Crossing.{AreTrianglesMet, IsFirstCrossing}
use Rattle.refill_laws.specs.Refill.{IsRefill}
use Rattle.tangle_laws.specs.Tangle.{AnomalyHolds, IsAdmissible}
use Rattle.tangle_laws.specs.Growth.{IsGrownList}
use Rattle.facet_recover.specs.Refilled.{HasTangle}
use Rattle.complex_laws.specs.ComplexMesh.{IsUntangled, HasNoCrossing, IsCarved}
use Rattle.complex_laws.specs.Sides.{IsInnerOf}
use Rattle.hole_carve.specs.Marks.{AreRegionMarks}
use Rattle.mesh_files.specs.FaceRows.{AreTrianglesMetByFaces, AreFacetsThere}
use Rattle.complex_mesh.specs.Covered.{IsCoveredAt}
use Rattle.complex_mesh.specs.Protection.{AreMeshed, IsProtectedComplex, complex_triangles}
use Rattle.complex_mesh.specs.declared.mesh.MeshOptions.{MeshOptions}
use Rattle.complex_mesh.specs.declared.mesh.ComplexMesh.{ComplexMesh}
use Rattle.complex_mesh.specs.declared.fault.MeshFault.{MeshFault}
use Rattle.complex_mesh.specs.declared.fault.MeshFault.TheVariants.{Flat, NotFlat, SegmentsCross, GridEnd, BudgetEnd, Crossing, NoFill, NoMemory}

-- Protection of the segments of the facets that are meshed ends with the mesh's points and some subsegments, the triangles are exactly
-- those of the facets, any two are properly met and each with each piece; the tetrahedra are a mesh of the complex
pub record IsComplexMesh (o : MeshOptions) (ps : List Point) (c : Complex) (m : ComplexMesh) : Type 0 where
  pub segs : List Piece
  pub fs : List Facet
  pub rest : List Piece
  pub protected : IsProtectedComplex o ps c segs fs m.points rest
  pub triangles : m.triangles ≡ complex_triangles m.points fs
  pub met : AreTrianglesMet m.points m.triangles rest
  pub mesh : IsMesh (carving_of o.keep_hull) m.points m.triangles c.holes m.tetrahedra
  -- The tetrahedra are those that carving keeps of a list that fills the hull and has each Delaunay tetrahedron that no
  -- facet crosses
  pub whole : List Tet
  pub refilled : IsGrownList m.points m.triangles (delaunay_rows m.points) whole
  -- each tetrahedron of the list is admissible: it is constrained Delaunay
  pub admissible : All (IsAdmissible m.points m.triangles) whole
  pub carved : IsCarved (carving_of o.keep_hull) m.points m.triangles c.holes whole m.tetrahedra
  -- the triangles of each facet cover its region
  pub facets_covered : (k : ℕ) → k < length fs → IsCoveredAt m.points m.triangles segs fs k
  -- where no two facets cross one Delaunay tetrahedron, the whole list is the Delaunay list with the cavities of the
  -- facets filled on both sides
  pub by_sides : IsUntangled m.points m.triangles → IsRefill m.points m.triangles (delaunay_rows m.points) whole
  -- where no facet crosses a Delaunay tetrahedron, the whole list is the Delaunay list
  pub uncrossed : HasNoCrossing m.points m.triangles → whole ≡ delaunay_rows m.points
  -- with the hull kept and no hole points nothing is cut away
  pub all_kept : o.keep_hull ≡ true → c.holes ≡ [] → m.tetrahedra ≡ whole
  -- without facets there are no tetrahedra, unless the hull is kept
  pub no_facets : o.keep_hull ≡ false → c.facets ≡ [] → m.tetrahedra ≡ []
  -- where no two facets cross one Delaunay tetrahedron, a subsegment with an inner point in the mesh is an edge of the
  -- mesh
  pub pieces_kept : IsUntangled m.points m.triangles → (p : Piece) → Contains rest p
      → EachRational (λ x. IsInnerOf m.points p x → Any (λ t. InClosed (corners m.points t) x) m.tetrahedra → is_side m.tetrahedra p ≡ true)
  -- each face of the mesh is properly met with each triangle, as its marker asks for
  pub faces_met : AreTrianglesMetByFaces m.points m.triangles m.tetrahedra
  pub facets_there : AreFacetsThere m.triangles c
  -- there are marks where regions are asked for, and they are the marks of the tetrahedra
  pub marked : IsSome m.marks ↔ IsTrue o.regions
  pub marks : IfSome m.marks (AreRegionMarks m.points m.triangles m.tetrahedra c.regions)

-- Why a complex has no mesh. Each cause says that none before it holds. The last one, an anomaly where two facets cross
-- a Delaunay tetrahedron, may hold beside others of its kind, and beside a mesh
abbrev pub IsMeshFault : MeshOptions → List Point → Complex → MeshFault → Type 0
IsMeshFault o ps c Flat = AreCoplanar ps
IsMeshFault o ps c (NotFlat facet four) = (¬ AreCoplanar ps) × IsFirstNotFlat ps (facets c) (record { facet = facet; four = four })
IsMeshFault o ps c (SegmentsCross one two) =
    (segs : List Piece) × (fs : List Facet) × (¬ AreCoplanar ps) × All (IsFlat ps) (facets c) × AreMeshed o.keep_facets ps c segs fs
    × segment.IsFirstPieceCrossing ps (pieces ps segs) one two
IsMeshFault o ps c (GridEnd piece) =
    (segs : List Piece) × (fs : List Facet) × All (IsFlat ps) (facets c) × AreMeshed o.keep_facets ps c segs fs
    × CanSplit ps (pieces ps segs)
    × (protect o.halvings o.budget ps (pieces ps segs) ≡ GridEndOf piece)
IsMeshFault o ps c (BudgetEnd made piece) =
    (segs : List Piece) × (fs : List Facet) × All (IsFlat ps) (facets c) × AreMeshed o.keep_facets ps c segs fs
    × CanSplit ps (pieces ps segs)
    × (made ≡ o.budget) × (protect o.halvings o.budget ps (pieces ps segs) ≡ BudgetEndOf piece)
IsMeshFault o ps c (Crossing one two) =
    (segs : List Piece) × (fs : List Facet) × (qs : List Point) × (rest : List Piece) × IsProtectedComplex o ps c segs fs qs rest
    × IsFirstCrossing qs (complex_triangles qs fs) rest one two
IsMeshFault o ps c (NoFill anomaly) =
    (segs : List Piece) × (fs : List Facet) × (qs : List Point) × (rest : List Piece) × IsProtectedComplex o ps c segs fs qs rest
    × AreTrianglesMet qs (complex_triangles qs fs) rest
    × HasTangle qs (complex_triangles qs fs) (delaunay_rows qs) × AnomalyHolds qs (complex_triangles qs fs) anomaly
IsMeshFault o ps c NoMemory = Unit {0}

-- why protection of a complex does not end with points
abbrev pub IsProtectionFault : MeshOptions → List Point → Complex → MeshFault → Type 0
IsProtectionFault o ps c (Crossing one two) = ⊥
IsProtectionFault o ps c (NoFill anomaly) = ⊥
IsProtectionFault o ps c fault = IsMeshFault o ps c fault

-- the answer is a mesh of the complex, or says why there is none
abbrev pub MeshesSo : MeshOptions → List Point → Complex → Result ComplexMesh MeshFault → Type 0
MeshesSo o ps c result = MatchResult result (IsComplexMesh o ps c) (IsMeshFault o ps c)
