-- The neighbors of tetrahedra across their faces.
use Rattle.std.specs.Prelude.{ℕ, ◌<◌, ◌==◌, Bool, ◌&&◌, ◌||◌, not, cond, Option, Some, None, List}
use Rattle.std.specs.Prelude.{slice_index, map, find, option_map, IfSome, All}
use Rattle.std.specs.List.{enumerate_from, slice_index_or}
use Rattle.geo_laws.specs.Faces.{face_of}
use Rattle.geo_laws.specs.declared.faces.Face.{Face}
use Rattle.geo_laws.specs.declared.tetrahedra.Tet.{Tet}
use Rattle.incidence.specs.declared.pairs.Across.{Across}
use Rattle.incidence.specs.declared.pairs.Places.{Places}

-- the listed neighbors of the tetrahedron at a place, where there is one
abbrev pub across_at : List Across → ℕ → Across
across_at rows i = slice_index_or rows i (record { n0 = None; n1 = None; n2 = None; n3 = None })

abbrev pub is_face : Face → Face → Bool
is_face f g = (f.a == g.a) && ((f.b == g.b) && (f.c == g.c))

-- whether three corners of a tetrahedron are those of the face
abbrev pub has_face : Face → Tet → Bool
has_face f t = is_face (face_of t.b t.c t.d) f || (is_face (face_of t.a t.c t.d) f || (is_face (face_of t.a t.b t.d) f || is_face
    (face_of t.a t.b t.c) f))

-- whether a place with its tetrahedron is another than this place, and the tetrahedron has the face
abbrev pub is_partner : ℕ → Face → ℕ × Tet → Bool
is_partner place f r = not (r.0 == place) && has_face f r.1

-- the place of the least other tetrahedron that has the face
abbrev pub partner : List Tet → ℕ → Face → Option ℕ
partner rows place f = option_map (λ r. r.0) (find (is_partner place f) (enumerate_from 0 rows))

-- the partners of the tetrahedron at a place, each across the face opposite a corner
abbrev pub across_of : List Tet → ℕ → Tet → Across
across_of rows place t = record {
  n0 = partner rows place (face_of t.b t.c t.d);
  n1 = partner rows place (face_of t.a t.c t.d);
  n2 = partner rows place (face_of t.a t.b t.d);
  n3 = partner rows place (face_of t.a t.b t.c);
}

abbrev pub pairs_of : List Tet → List Across
pairs_of rows = map (λ r. across_of rows r.0 r.1) (enumerate_from 0 rows)

-- the neighbors with a partner set across a face
abbrev pub with_partner : Tet → Face → Option ℕ → Across → Across
with_partner t f o x = record {
  n0 = cond (is_face (face_of t.b t.c t.d) f) o x.n0;
  n1 = cond (is_face (face_of t.a t.c t.d) f) o x.n1;
  n2 = cond (is_face (face_of t.a t.b t.d) f) o x.n2;
  n3 = cond (is_face (face_of t.a t.b t.c) f) o x.n3;
}

-- each partner is below a number
abbrev pub IsAcrossWithin : ℕ → Across → Type 0
IsAcrossWithin n x = IfSome x.n0 (λ i. i < n) × IfSome x.n1 (λ i. i < n) × IfSome x.n2 (λ i. i < n) × IfSome x.n3 (λ i. i < n)

abbrev pub AreAllWithin : ℕ → List Across → Type 0
AreAllWithin n pairs = All (IsAcrossWithin n) pairs

-- the tetrahedron at a place that is kept in 32 bits; the greatest number stands for none
abbrev pub place_in : ℕ → Option ℕ
place_in k = cond (k == 4294967295) None (Some k)

abbrev pub across_in : Places → Across
across_in p = record {
  n0 = place_in (slice_index p.rows 0);
  n1 = place_in (slice_index p.rows 1);
  n2 = place_in (slice_index p.rows 2);
  n3 = place_in (slice_index p.rows 3);
}
