-- A complex has one mesh. The segments, the facets and the end of protection are functions of the complex; the whole list is the one
-- constrained Delaunay list; and of it the kept tetrahedra, and then their marks, are determined.
use Rattle.std.proofs.Common.{◌≡◌, ◌⊎◌, inl, inr, ℕ, ◌<◌, Bool, true, false, List, map, length, Option, None, Some, refl, ap, sym, subst, ◌∙◌, arith}
use Rattle.std.specs.Prelude.{◌↔◌, IsSome, IsTrue, IfSome}
use Rattle.std.proofs.lemmas.Bool.{cases_order, true≢false}
use Rattle.std.proofs.lemmas.List.{ext_get_or}
use Rattle.sign_predicates.specs.Point.{Point}
use Rattle.geo_laws.specs.Complex.{Complex}
use Rattle.geo_laws.specs.Delaunay.{delaunay_rows, numbers_below}
use Rattle.geo_laws.specs.Facet.{Facet}
use Rattle.geo_laws.specs.Segment.{pieces, protect, Protected}
use Rattle.geo_laws.specs.declared.complex.FacetTriangle.{FacetTriangle}
use Rattle.geo_laws.specs.declared.complex.Piece.{Piece}
use Rattle.geo_laws.specs.declared.complex.Region.{Region}
use Rattle.geo_laws.specs.declared.tetrahedra.Tet.{Tet}
use Rattle.path_laws.specs.Flood.{carving_of}
use Rattle.path_laws.specs.KeptMesh.{IsWholeMesh}
use Rattle.merged_facets.proofs.MergedOnce.{law_one_merging}
use Rattle.complex_laws.specs.ComplexMesh.{IsCarved}
use Rattle.complex_laws.proofs.ComplexMesh.{law_kept_once}
use Rattle.hole_carve.specs.Marks.{AreRegionMarks, IsFirstOf, mark_at}
use Rattle.constrained_laws.specs.Constrained.{HasEachPoint}
use Rattle.constrained_laws.proofs.Grown.{whole_of_grown}
use Rattle.complex_mesh.specs.Meshing.{IsComplexMesh}
use Rattle.complex_mesh.specs.Protection.{AreMeshed, IsMeshable, complex_triangles}
use Rattle.complex_mesh.specs.declared.mesh.ComplexMesh.{ComplexMesh}
use Rattle.complex_mesh.specs.declared.mesh.MeshOptions.{MeshOptions}
use Rattle.run_laws.specs.OneMesh.{OneMeshLaw}
use Rattle.run_laws.proofs.Constrained.{constrained_mesh}

-- ---- marks

-- the first number below a count that has a property is one
first_once : (P : ℕ → Type 0) (count : ℕ) (a b : Option ℕ) → IsFirstOf P count a → IsFirstOf P count b → a ≡ b
first_once P count None None h k = refl
first_once P count None (Some j) h k = absurd (h j k.0 k.1)
first_once P count (Some i) None h k = absurd (k i h.0 h.1)
first_once P count (Some i) (Some j) h k = by (cases_order i j)
  where
    by : (i ≡ j) ⊎ ((i < j) ⊎ (j < i)) → Some i ≡ Some j
    by (inl e) = ap (λ (n : ℕ). Some n) e
    by (inr (inl l)) = absurd (k.2 i l h.1)
    by (inr (inr l)) = absurd (h.2 j l k.1)

-- where marks are asked for they are one list
marks_once : (ps : List Point) (ts : List FacetTriangle) (rows : List Tet) (regions : List Region) (asked : Bool) (a b : Option (List (Option ℕ))) → IsSome a ↔ IsTrue asked → IsSome b ↔ IsTrue asked
    → IfSome a (AreRegionMarks ps ts rows regions) → IfSome b (AreRegionMarks ps ts rows regions) → a ≡ b
marks_once ps ts rows regions asked None None p q h k = refl
marks_once ps ts rows regions asked None (Some marks) p q h k = absurd (true≢false (sym (p.1 (q.0 refl))))
marks_once ps ts rows regions asked (Some marks) None p q h k = absurd (true≢false (sym (q.1 (p.0 refl))))
marks_once ps ts rows regions asked (Some marks) (Some others) p q h k =
    ap (λ (ms : List (Option ℕ)). Some ms)
    (ext_get_or None marks others (h.long ∙ sym k.long) (λ i l.
    let within : i < length rows = omega (arith, l, h.long) in
    first_once _ (length regions) (mark_at marks i) (mark_at others i) (h.each i within) (k.each i within)))

-- ---- what is meshed

-- the segments and facets that are meshed
meshed_once : (keep : Bool) (ps : List Point) (c : Complex) (segs also : List Piece) (fs gs : List Facet) → AreMeshed keep ps c segs fs → AreMeshed keep ps c also gs → (segs ≡ also) × (fs ≡ gs)
meshed_once true ps c segs also fs gs h k = (h.0 ∙ sym k.0, h.1 ∙ sym k.1)
meshed_once false ps c segs also fs gs h k =
    let one = law_one_merging ps c h.group h.inner k.group k.inner h.merging k.merging in
    (h.segments_are ∙ one.0 ∙ sym k.segments_are, h.facets_are ∙ (λ j. map (λ n. one.1 n j) (numbers_below (length c.facets))) ∙ sym k.facets_are)

points_of_end : (qs rs : List Point) (a b : List Piece) → Protected qs a ≡ Protected rs b → qs ≡ rs
points_of_end qs rs a b e = cc

-- ---- two meshes of one complex

module _ (o : MeshOptions) (ps : List Point) (c : Complex) (m other : ComplexMesh) (given : IsMeshable o.halvings o.budget ps c) (h : IsComplexMesh o ps c m) (k : IsComplexMesh o ps c other) where
  meshed : (h.segs ≡ k.segs) × (h.fs ≡ k.fs)
  meshed = meshed_once o.keep_facets ps c h.segs k.segs h.fs k.fs h.protected.meshed k.protected.meshed

  points_same : m.points ≡ other.points
  points_same = points_of_end m.points other.points h.rest k.rest (sym h.protected.ends ∙ ap (λ (segs : List Piece). protect o.halvings o.budget ps (pieces ps segs)) meshed.0 ∙ k.protected.ends)

  triangles_same : m.triangles ≡ other.triangles
  triangles_same =
      h.triangles ∙ ap (λ (qs : List Point). complex_triangles qs h.fs) points_same ∙ ap (λ (fs : List Facet). complex_triangles other.points fs) meshed.1 ∙ sym k.triangles

  -- what is so of the points and triangles of the second mesh is so of those of the first
  moved : (P : List Point → List FacetTriangle → Type 0) → P other.points other.triangles → P m.points m.triangles
  moved P x = subst (λ qs. P qs m.triangles) (sym points_same) (subst (λ ts. P other.points ts) (sym triangles_same) x)

  whole_same : h.whole ≡ k.whole
  whole_same =
      let whole : IsWholeMesh m.points m.triangles k.whole = moved (λ qs ts. IsWholeMesh qs ts k.whole) (whole_of_grown other.points other.triangles (delaunay_rows other.points) k.whole k.refilled) in
      let each : HasEachPoint m.points k.whole = moved (λ qs ts. HasEachPoint qs k.whole) (constrained_mesh o ps c other given k).each_point in
      sym ((constrained_mesh o ps c m given h).only k.whole whole each k.refilled.ascending)

  kept_same : m.tetrahedra ≡ other.tetrahedra
  kept_same =
      law_kept_once (carving_of o.keep_hull) m.points m.triangles c.holes h.whole m.tetrahedra other.tetrahedra h.carved
      (subst (λ rows. IsCarved (carving_of o.keep_hull) m.points m.triangles c.holes rows other.tetrahedra) (sym whole_same)
      (moved (λ qs ts. IsCarved (carving_of o.keep_hull) qs ts c.holes k.whole other.tetrahedra) k.carved))

  marks_same : m.marks ≡ other.marks
  marks_same =
      marks_once m.points m.triangles m.tetrahedra c.regions o.regions m.marks other.marks h.marked k.marked h.marks
      (subst (λ rows. IfSome other.marks (AreRegionMarks m.points m.triangles rows c.regions)) (sym kept_same)
      (moved (λ qs ts. IfSome other.marks (AreRegionMarks qs ts other.tetrahedra c.regions)) k.marks))

pub one_mesh : OneMeshLaw
one_mesh o ps c m other given h k =
    let points = points_same o ps c m other given h k in
    let triangles = triangles_same o ps c m other given h k in
    let rows = kept_same o ps c m other given h k in
    let marks = marks_same o ps c m other given h k in
    λ i. record { points = points i; triangles = triangles i; tetrahedra = rows i; marks = marks i }
