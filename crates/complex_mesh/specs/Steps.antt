-- The results of the steps from protection to the mesh.
use Rattle.std.specs.Prelude.{◌≡◌, true, ℕ, ◌<◌, ◌-◌, ◌^◌, List, length, All, IfSome, IsSome, ◌↔◌, IsTrue}
use Rattle.sign_predicates.specs.Point.{Point}
use Rattle.geo_laws.specs.Complex.{Complex, facets, HasCornersOf}
use Rattle.geo_laws.specs.Delaunay.{delaunay_rows, HasDistinctPoints}
use Rattle.geo_laws.specs.Facet.{Facet}
use Rattle.geo_laws.specs.Segment.{is_side}
use Rattle.geo_laws.specs.declared.complex.Piece.{Piece}
use Rattle.geo_laws.specs.declared.complex.FacetTriangle.{FacetTriangle}
use Rattle.complex_laws.specs.SoundComplex.{IsSoundFacet, facet_numbered}
use Rattle.facet_laws.specs.Region.{HavePieces}
use Rattle.segment_protect.specs.Spots.{HasTwoEnds}
use Rattle.simplex_meets.specs.Crossing.{IsFirstCrossing}
use Rattle.facet_recover.specs.Refilled.{HasTangle}
use Rattle.complex_mesh.specs.Protection.{complex_triangles}
use Rattle.refill_laws.specs.Refill.{IsRefill}
use Rattle.tangle_laws.specs.Tangle.{AnomalyHolds, IsAdmissible}
use Rattle.tangle_laws.specs.Growth.{IsGrownList}
use Rattle.path_laws.specs.KeptMesh.{IsWholeMesh}
use Rattle.complex_laws.specs.ComplexMesh.{IsUntangled, IsCarved}
use Rattle.hole_carve.specs.Marks.{AreRegionMarks}
use Rattle.path_laws.specs.Flood.{carving_of}
use Rattle.geo_laws.specs.declared.tetrahedra.Tet.{Tet}
use Rattle.complex_mesh.specs.declared.mesh.MeshOptions.{MeshOptions}
use Rattle.complex_mesh.specs.declared.mesh.ComplexMesh.{ComplexMesh}
use Rattle.complex_mesh.specs.declared.fault.MeshFault.{MeshFault}
use Rattle.complex_mesh.specs.declared.fault.MeshFault.TheVariants.{Crossing, NoFill, NoMemory}

-- the points after protection, with subsegments that have two ends and are edges of Delaunay tetrahedra: flat facets,
-- each side of which is inner or one of some segments, whose subsegments are edges of Delaunay tetrahedra
pub record HasSoundFacets (qs : List Point) (rest : List Piece) (c : Complex) : Type 0 where
  pub segs : List Piece
  pub distinct : HasDistinctPoints qs
  pub few : length qs < 2 ^ 32 - 2
  pub corners : HasCornersOf qs c
  pub sound : (k : ℕ) → k < length (facets c) → IsSoundFacet qs segs (facet_numbered (facets c) k)
  pub has_pieces : HavePieces qs segs
  pub two_ends : All (HasTwoEnds (length qs)) rest
  pub are_sides : All (λ p. is_side (delaunay_rows qs) p ≡ true) rest

-- the fault names the first two parts that are not properly met
abbrev pub IsCrossingFault : List Point → List Piece → List Facet → MeshFault → Type 0
IsCrossingFault qs rest fs (Crossing one two) = IsFirstCrossing qs (complex_triangles qs fs) rest one two
IsCrossingFault qs rest fs NoMemory = Unit {0}
IsCrossingFault qs rest fs _ = ⊥

-- the whole list is the Delaunay list filled again: it fills the hull and has the facets as faces, and its tetrahedra
-- are admissible
pub record IsRecovered (qs : List Point) (ts : List FacetTriangle) (whole : List Tet) : Type 0 where
  pub refilled : IsGrownList qs ts (delaunay_rows qs) whole
  pub admissible : All (IsAdmissible qs ts) whole
  pub by_sides : IsUntangled qs ts → IsRefill qs ts (delaunay_rows qs) whole
  pub whole_mesh : IsWholeMesh qs ts whole

-- the fault carries an anomaly, where two facets cross a tetrahedron
abbrev pub IsTangleFault : List Point → List FacetTriangle → MeshFault → Type 0
IsTangleFault qs ts (NoFill anomaly) = HasTangle qs ts (delaunay_rows qs) × AnomalyHolds qs ts anomaly
IsTangleFault qs ts NoMemory = Unit {0}
IsTangleFault qs ts _ = ⊥

-- the mesh has the tetrahedra that carving keeps of the whole list, and their marks where regions are asked for
pub record IsKeptMesh (o : MeshOptions) (c : Complex) (whole : List Tet) (m : ComplexMesh) : Type 0 where
  pub carved : IsCarved (carving_of o.keep_hull) m.points m.triangles c.holes whole m.tetrahedra
  pub marked : IsSome m.marks ↔ IsTrue o.regions
  pub marks : IfSome m.marks (AreRegionMarks m.points m.triangles m.tetrahedra c.regions)
