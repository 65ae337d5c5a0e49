-- Verdicts over points in a larger unit.
use Rattle.std.proofs.Common.{inl, inr, ℤ, pos, ◌<ℤ◌, List, sym, ◌∙◌}
use Rattle.crossing_laws.proofs.Tests.{lt_test, lt_of}
use Rattle.sign_predicates.specs.Point.{Point}
use Rattle.sign_predicates.specs.Sphere.{HaveOneSign}
use Rattle.geo_laws.specs.declared.tetrahedra.Tet.{Tet}
use Rattle.incidence.specs.declared.pairs.Across.{Across}
use Rattle.mesh_files.specs.declared.markers.FaceRow.{FaceRow}
use Rattle.mesh_check.specs.Corners.{point_in, face_in}
use Rattle.mesh_check.specs.Defects.{HasDefect, AreOppositeSigns}
use Rattle.mesh_check.specs.declared.defect.Defect.{Defect}
use Rattle.mesh_check.specs.declared.defect.Defect.TheVariants.{NotPositive, SameSide, NeighborCount, WrongNeighbor, Stray, Unlisted, Bent}
use Rattle.run_laws.specs.LeastGrids.{HaveSameSigns}
use Rattle.run_laws.proofs.Signs.{same_signs}
use Rattle.run_laws.specs.WrittenMesh.{LargerUnitLaw}
use Rattle.geo_laws.specs.Delaunay.{row_at}

above : (x y : ℤ) → HaveOneSign x y → pos 0 <ℤ x → pos 0 <ℤ y
above x y s h = lt_of (pos 0) y (sym s.above ∙ lt_test (pos 0) x h)

above_back : (x y : ℤ) → HaveOneSign x y → pos 0 <ℤ y → pos 0 <ℤ x
above_back x y s h = lt_of (pos 0) x (s.above ∙ lt_test (pos 0) y h)

below : (x y : ℤ) → HaveOneSign x y → x <ℤ pos 0 → y <ℤ pos 0
below x y s h = lt_of y (pos 0) (sym s.below ∙ lt_test x (pos 0) h)

opposite : (x y u v : ℤ) → HaveOneSign x u → HaveOneSign y v → AreOppositeSigns x y → AreOppositeSigns u v
opposite x y u v s t (inl h) = inl (above x u s h.0, below y v t h.1)
opposite x y u v s t (inr h) = inr (below x u s h.0, above y v t h.1)

-- each defect over the points in the larger unit is one over the points
same_defect : (ps qs : List Point) → HaveSameSigns ps qs → (rows : List Tet) (faces : List FaceRow) (neighbors : List Across) (d : Defect)
    → HasDefect (record { points = qs; rows = rows; faces = faces; neighbors = neighbors }) d → HasDefect (record { points = ps; rows = rows; faces = faces; neighbors = neighbors }) d
same_defect ps qs signs rows faces neighbors (NotPositive i) h = let t = row_at rows i in (h.0, λ positive. h.1 (above _ _ (signs.orientations t.a t.b t.c t.d) positive))
same_defect ps qs signs rows faces neighbors (SameSide i j) (lt, mt, (p, q, shared, none)) =
    let s = row_at rows i in
    let t = row_at rows j in
    let f = face_in s p in
    let g = face_in t q in
    (lt, mt, (p, q, shared, λ h. none (opposite _ _ _ _ (signs.orientations f.a f.b f.c (point_in s p)) (signs.orientations g.a g.b g.c (point_in t q)) h)))
same_defect ps qs signs rows faces neighbors NeighborCount h = h
same_defect ps qs signs rows faces neighbors (WrongNeighbor i k) h = h
same_defect ps qs signs rows faces neighbors (Stray k) h = h
same_defect ps qs signs rows faces neighbors (Unlisted i k) h = h
same_defect ps qs signs rows faces neighbors (Bent i j) (lt, mt, (p, q, shared, out, inside)) =
    (lt, mt, (p, q, shared, out, above_back _ _ (signs.spheres (row_at rows i) (point_in (row_at rows j) q)) inside))

pub larger_unit : LargerUnitLaw
larger_unit f ps qs multiples rows faces neighbors none d h = none d (same_defect ps qs (same_signs f ps qs multiples) rows faces neighbors d h)
