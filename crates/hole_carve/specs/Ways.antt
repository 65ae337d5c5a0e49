-- The adjacency of a flood fill: across each face that is no facet triangle to the other tetrahedron that has it, or to
-- the outside of the hull.
use Rattle.std.specs.Prelude.{◌≡◌, ℕ, ◌<◌, Bool, cond, Option, Some, None, List, map, length, slice_index_or, Contains}
use Rattle.std.specs.List.{enumerate_from, list_any}
use Rattle.geo_laws.specs.Faces.{face_of, row_faces}
use Rattle.geo_laws.specs.declared.faces.Face.{Face}
use Rattle.geo_laws.specs.declared.tetrahedra.Tet.{Tet}
use Rattle.incidence.specs.declared.pairs.Across.{Across}
use Rattle.incidence.specs.Pairs.{is_face, across_of, across_at}
use Rattle.hole_carve.specs.Flooding.{way}
use Rattle.geo_laws.specs.Delaunay.{row_at}

-- the partner, or the outside of the hull
abbrev pub other_side : Option ℕ → ℕ → ℕ
other_side None beyond = beyond
other_side (Some j) beyond = j

-- a subface has no neighbor across it, and another face the one on its other side
pub record IsWayThrough (closed : List Face) (face : Face) (partner : Option ℕ) (beyond : ℕ) (to : Option ℕ) : Type 0 where
  pub closes : Contains closed face → to ≡ None
  pub opens : ¬ Contains closed face → to ≡ Some (other_side partner beyond)

-- the face opposite a corner
abbrev pub face_opposite : Tet → ℕ → Face
face_opposite t k = slice_index_or (row_faces t) k (record { a = 0; b = 0; c = 0 })

-- the neighbors of a tetrahedron across faces that are no subface, from all its neighbors
abbrev pub AreWaysThrough : List Face → Tet → Across → ℕ → Across → Type 0
AreWaysThrough closed t across beyond x = (k : ℕ) → k < 4 → IsWayThrough closed (face_opposite t k) (way across k) beyond (way x k)

-- the neighbors of all tetrahedra across faces that are no subface
pub record AreWays (closed : List Face) (rows : List Tet) (ways : List Across) : Type 0 where
  pub long : length ways ≡ length rows
  pub each : (i : ℕ) → i < length rows
      → AreWaysThrough closed (row_at rows i) (across_of rows i (row_at rows i)) (length rows) (across_at ways i)

-- ---- the ways themselves

-- whether the face is one of these
abbrev pub is_closed : List Face → Face → Bool
is_closed closed f = list_any (λ g. is_face g f) closed

abbrev pub way_through : List Face → Face → Option ℕ → ℕ → Option ℕ
way_through closed f partner beyond = cond (is_closed closed f) None (Some (other_side partner beyond))

abbrev pub ways_through : List Face → Tet → Across → ℕ → Across
ways_through closed t across beyond = record {
  n0 = way_through closed (face_of t.b t.c t.d) across.n0 beyond;
  n1 = way_through closed (face_of t.a t.c t.d) across.n1 beyond;
  n2 = way_through closed (face_of t.a t.b t.d) across.n2 beyond;
  n3 = way_through closed (face_of t.a t.b t.c) across.n3 beyond;
}

abbrev pub ways_of : List Face → List Tet → List Across
ways_of closed rows = map (λ r. ways_through closed r.1 (across_of rows r.0 r.1) (length rows)) (enumerate_from 0 rows)
