-- Lists filled again where facets are tangled, and where they are not.
use Rattle.std.proofs.Common.{◌≡◌, ℕ, ◌<◌, List, subst, arith}
use Rattle.std.specs.Prelude.{All, Contains}
use Rattle.std.specs.List.{slice_index_or}
use Rattle.sign_predicates.specs.Point.{Point}
use Rattle.geo_laws.specs.Faces.{row_faces, faces_of_rows, face_of}
use Rattle.geo_laws.specs.Delaunay.{all_numbers, HasDistinctPoints, IsDelaunay}
use Rattle.geo_laws.specs.declared.tetrahedra.Tet.{Tet}
use Rattle.geo_laws.specs.declared.complex.FacetTriangle.{FacetTriangle}
use Rattle.geo_laws.proofs.Members.{contains_of, member_of, at_place, in_flat_map}
use Rattle.geo_laws.proofs.Corners.{all_within, on_of_among}
use Rattle.refill_laws.specs.Protected.{IsCircleTriangle}
use Rattle.refill_laws.specs.Refill.{kept_row, IsRefill}
use Rattle.refill_laws.specs.Laws.{IsRefillable, IsRefilled as BySides}
use Rattle.refill_laws.proofs.Refill.{law_refill}
use Rattle.tangle_laws.specs.Growth.{IsGrownList}
use Rattle.constrained_laws.specs.Constrained.{HasTetrahedron, IsConstrainedList}
use Rattle.constrained_laws.proofs.Grown.{whole_of_grown, law_grown_admissible}
use Rattle.constrained_laws.proofs.Refilled.{law_refilled_points}
use Rattle.tangle_fill.specs.Fill.{AreFacetTriangles, IsFaultOf}
use Rattle.tangle_fill.specs.declared.fault.FillFault.{FillFault}
use Rattle.tangle_fill.specs.declared.fault.FillFault.TheVariants as filling
use Rattle.facet_recover.specs.Refilled.{HasTangle, IsRefilledBySides, IsCause, fault_of_filling}

-- the triangles ascend, are on the points and span planes
pub facet_triangles : (ps : List Point) (ts : List FacetTriangle) → All (IsCircleTriangle ps) ts → AreFacetTriangles ps ts
facet_triangles ps ts h = record {
  ascend = λ k d l. ((h k d l).first, (h k d l).second);
  within = λ k d l. (h k d l).on;
  spans = λ k d l. (h k d l).spans;
}

-- the face of ascending corners has them in this order
pub ascending_face : (a b c : ℕ) → a < b → b < c → face_of a b c ≡ record { a = a; b = b; c = c }
ascending_face a b c ab bc = λ j. record { a = first j; b = second j; c = third j }
  where
    first : (face_of a b c).a ≡ a
    first = grind arith

    second : (face_of a b c).b ≡ b
    second = grind arith

    third : (face_of a b c).c ≡ c
    third = grind arith

-- where each facet's cavity is filled on both sides, the list has each facet triangle as a face, and the rest of the promise
pub refilled_by_sides : (ps : List Point) (ts : List FacetTriangle) (rows whole : List Tet) → IsRefillable ps ts rows → IsRefill ps ts rows whole → IsGrownList ps ts rows whole
refilled_by_sides ps ts rows whole can refill = record {
  positive = h.positive;
  ascending = refill.ascending;
  triangulation = record { covers = h.covers; properly_met = h.properly_met };
  kept = λ t m n. (refill.exactly t).1 (kept_row m n);
  facets = λ k d l.
      let t = slice_index_or ts k d in
      let u = h.has_triangles t (contains_of ts t (at_place ts k d l)) in
      subst (Contains (faces_of_rows whole)) (ascending_face t.a t.b t.c (can.complex.triangles k d l).first (can.complex.triangles k d l).second)
      (contains_of (faces_of_rows whole) (face_of t.a t.b t.c)
      (in_flat_map row_faces u.1 (face_of t.a t.b t.c) whole (member_of whole u.1 (u.0, u.2, u.3)) (member_of (row_faces u.1) (face_of t.a t.b t.c) u.4)));
  locally_delaunay = h.locally_delaunay;
}
  where
    h : BySides ps ts rows whole
    h = law_refill ps ts rows whole can refill

-- and its tetrahedra are admissible, since each point is a corner
pub constrained_by_sides : (ps : List Point) (ts : List FacetTriangle) (rows whole : List Tet) → HasDistinctPoints ps → IsRefillable ps ts rows → IsRefill ps ts rows whole → IsConstrainedList ps ts rows whole
constrained_by_sides ps ts rows whole distinct can refill = record {
  grown = grown;
  admissible = law_grown_admissible ps ts rows whole grown (law_refilled_points ps ts rows whole distinct some can.list (whole_of_grown ps ts rows whole grown) refill);
}
  where
    grown : IsGrownList ps ts rows whole
    grown = refilled_by_sides ps ts rows whole can refill

    delaunay : IsDelaunay ps can.some
    delaunay = (can.list.exactly can.some).0 can.is_some

    some : HasTetrahedron ps
    some = (can.some, on_of_among ps (all_numbers ps) can.some (all_within ps) delaunay.is_on, delaunay.is_positive)

pub by_sides : (ps : List Point) (ts : List FacetTriangle) (rows whole : List Tet) → IsRefillable ps ts rows → IsRefill ps ts rows whole → IsRefilledBySides ps ts rows whole
by_sides ps ts rows whole can refill = record { refill = refill; sides_kept = (law_refill ps ts rows whole can refill).sides_kept }

-- an anomaly is a cause where two facets cross a row
pub fill_cause : (ps : List Point) (ts : List FacetTriangle) (rows : List Tet) → HasTangle ps ts rows → (f : FillFault) → IsFaultOf ps ts f → IsCause ps ts rows (fault_of_filling f)
fill_cause ps ts rows tangle (filling.NoFill anomaly) h = (tangle, h)
fill_cause ps ts rows tangle filling.NoMemory h = tt
