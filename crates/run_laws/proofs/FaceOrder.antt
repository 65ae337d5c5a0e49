-- Faces of rows ascend.
use Rattle.std.proofs.Common.{◌≡◌, ℕ, List, sym, ap, ◌∙◌, arith}
use Rattle.std.specs.Prelude.{Contains}
use Rattle.geo_laws.specs.Faces.{face_of, row_faces, faces_of_rows}
use Rattle.geo_laws.specs.declared.faces.Face.{Face}
use Rattle.geo_laws.specs.declared.tetrahedra.Tet.{Tet}
use Rattle.geo_laws.proofs.Members.{contains_of, member_of, flat_map_cases}
use Rattle.run_laws.proofs.Listings.{corner_of}
use Rattle.run_laws.proofs.Sorted.{ascending}
use Rattle.run_laws.proofs.Opposed.{beside_at, face_is}

-- the numbers of a face, which ascend
abbrev pub itself : Face → Face
itself f = face_of f.a f.b f.c

least_again : (i j k : ℕ) → (itself (face_of i j k)).a ≡ (face_of i j k).a
least_again i j k = grind arith

middle_again : (i j k : ℕ) → (itself (face_of i j k)).b ≡ (face_of i j k).b
middle_again i j k = grind arith

last_again : (i j k : ℕ) → (itself (face_of i j k)).c ≡ (face_of i j k).c
last_again i j k = grind arith

again : (i j k : ℕ) → itself (face_of i j k) ≡ face_of i j k
again i j k = λ n. record { a = least_again i j k n; b = middle_again i j k n; c = last_again i j k n }

-- a face of a row ascends
pub face_itself : (t : Tet) (f : Face) → Contains (row_faces t) f → itself f ≡ f
face_itself t f c =
    let corner = corner_of t f c in
    let g = beside_at t corner.0 in
    let is : f ≡ ascending g = sym corner.2 ∙ face_is t corner.0 corner.1 in
    ap itself is ∙ again g.a g.b g.c ∙ sym is

pub of_rows_itself : (rows : List Tet) (f : Face) → Contains (faces_of_rows rows) f → itself f ≡ f
of_rows_itself rows f c =
    let m = flat_map_cases row_faces f rows (member_of (faces_of_rows rows) f c) in
    face_itself m.0 f (contains_of (row_faces m.0) f m.2)
