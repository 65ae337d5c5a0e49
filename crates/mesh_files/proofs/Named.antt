-- Faces and sides of rows whose corners have names.
use Rattle.std.proofs.Common.{◌≡◌, ◌⊎◌, inl, inr, ℕ, ◌<◌, List, [], ◌∷◌, length, get_or, sym, subst, arith}
use Rattle.std.specs.Prelude.{min, max, All, Contains}
use Rattle.std.proofs.lemmas.List.Elements.{All-nil, All-cons, All-contains}
use Rattle.geo_laws.specs.Delaunay.{numbers, row_at}
use Rattle.geo_laws.specs.Faces.{face_of, side_of, row_faces, row_sides, face_numbers, side_numbers, faces_of_rows, sides_of_rows}
use Rattle.geo_laws.specs.declared.faces.Face.{Face}
use Rattle.geo_laws.specs.declared.faces.Side.{Side}
use Rattle.geo_laws.specs.declared.tetrahedra.Tet.{Tet}
use Rattle.geo_laws.proofs.Members.{IsMember, in_cons, contains_of, member_of, flat_map_cases}
use Rattle.incidence.specs.HalfFaces.{used}
use Rattle.incidence.specs.Uses.{AreUsesOf}
use Rattle.incidence.specs.declared.half_faces.HalfFace.{HalfFace}
use Rattle.incidence.specs.declared.uses.Use.{Use}
use Rattle.incidence.proofs.Partners.{of_row}
use Rattle.mesh_files.specs.FaceRows.{corners_of}
use Rattle.mesh_files.specs.Texts.{marked_corners, AreNamed}
use Rattle.mesh_files.specs.declared.markers.FaceRow.{FaceRow}
use Rattle.mesh_files.proofs.Found.{in_row}

abbrev HaveNames : List ℕ → List Tet → Type 0
HaveNames names rows = All (λ t. AreNamed names (numbers t)) rows

face_below : (names : List ℕ) (i j k : ℕ) → i < length names → j < length names → k < length names → AreNamed names (face_numbers (face_of i j k))
face_below names i j k a b c =
    let N = length names in
    let below = λ (n : ℕ). n < N in
    let f = face_of i j k in
    let one : min (min i j) k < N = omega arith in
    let two : max (min i j) (min (max i j) k) < N = omega arith in
    let three : max (max i j) k < N = omega arith in
    All-cons below f.a (f.b ∷ f.c ∷ []) one (All-cons below f.b (f.c ∷ []) two (All-cons below f.c [] three (All-nil below)))

side_below : (names : List ℕ) (i j : ℕ) → i < length names → j < length names → AreNamed names (side_numbers (side_of i j))
side_below names i j a b =
    let N = length names in
    let below = λ (n : ℕ). n < N in
    let s = side_of i j in
    let one : min i j < N = omega arith in
    let two : max i j < N = omega arith in
    All-cons below s.a (s.b ∷ []) one (All-cons below s.b [] two (All-nil below))

module _ (names : List ℕ) (t : Tet) (h : AreNamed names (numbers t)) where
  first : t.a < length names
  first = h 0 0 (omega arith)

  second : t.b < length names
  second = h 1 0 (omega arith)

  third : t.c < length names
  third = h 2 0 (omega arith)

  fourth : t.d < length names
  fourth = h 3 0 (omega arith)

  pub face_of_row_named : (f : Face) → Contains (row_faces t) f → AreNamed names (face_numbers f)
  face_of_row_named f c = at_first (in_cons f _ _ (member_of (row_faces t) f c))
    where
      at : (g : Face) → f ≡ g → AreNamed names (face_numbers g) → AreNamed names (face_numbers f)
      at g e n = subst (λ x. AreNamed names (face_numbers x)) (sym e) n

      at_fourth : (f ≡ face_of t.a t.b t.c) ⊎ IsMember f [] → AreNamed names (face_numbers f)
      at_fourth (inl e) = at _ e (face_below names t.a t.b t.c first second third)
      at_fourth (inr m) = elim m [ ]

      at_third : (f ≡ face_of t.a t.b t.d) ⊎ IsMember f (face_of t.a t.b t.c ∷ []) → AreNamed names (face_numbers f)
      at_third (inl e) = at _ e (face_below names t.a t.b t.d first second fourth)
      at_third (inr m) = at_fourth (in_cons f _ _ m)

      at_second : (f ≡ face_of t.a t.c t.d) ⊎ IsMember f (face_of t.a t.b t.d ∷ face_of t.a t.b t.c ∷ []) → AreNamed names (face_numbers f)
      at_second (inl e) = at _ e (face_below names t.a t.c t.d first third fourth)
      at_second (inr m) = at_third (in_cons f _ _ m)

      at_first : (f ≡ face_of t.b t.c t.d) ⊎ IsMember f (face_of t.a t.c t.d ∷ face_of t.a t.b t.d ∷ face_of t.a t.b t.c ∷ []) → AreNamed names (face_numbers f)
      at_first (inl e) = at _ e (face_below names t.b t.c t.d second third fourth)
      at_first (inr m) = at_second (in_cons f _ _ m)

  pub side_of_row_named : (s : Side) → Contains (row_sides t) s → AreNamed names (side_numbers s)
  side_of_row_named s c = one (in_cons s _ _ (member_of (row_sides t) s c))
    where
      at : (g : Side) → s ≡ g → AreNamed names (side_numbers g) → AreNamed names (side_numbers s)
      at g e n = subst (λ x. AreNamed names (side_numbers x)) (sym e) n

      six : (s ≡ side_of t.c t.d) ⊎ IsMember s [] → AreNamed names (side_numbers s)
      six (inl e) = at _ e (side_below names t.c t.d third fourth)
      six (inr m) = elim m [ ]

      five : (s ≡ side_of t.b t.d) ⊎ IsMember s (side_of t.c t.d ∷ []) → AreNamed names (side_numbers s)
      five (inl e) = at _ e (side_below names t.b t.d second fourth)
      five (inr m) = six (in_cons s _ _ m)

      four : (s ≡ side_of t.b t.c) ⊎ IsMember s (side_of t.b t.d ∷ side_of t.c t.d ∷ []) → AreNamed names (side_numbers s)
      four (inl e) = at _ e (side_below names t.b t.c second third)
      four (inr m) = five (in_cons s _ _ m)

      three : (s ≡ side_of t.a t.d) ⊎ IsMember s (side_of t.b t.c ∷ side_of t.b t.d ∷ side_of t.c t.d ∷ []) → AreNamed names (side_numbers s)
      three (inl e) = at _ e (side_below names t.a t.d first fourth)
      three (inr m) = four (in_cons s _ _ m)

      two : (s ≡ side_of t.a t.c) ⊎ IsMember s (side_of t.a t.d ∷ side_of t.b t.c ∷ side_of t.b t.d ∷ side_of t.c t.d ∷ []) → AreNamed names (side_numbers s)
      two (inl e) = at _ e (side_below names t.a t.c first third)
      two (inr m) = three (in_cons s _ _ m)

      one : (s ≡ side_of t.a t.b) ⊎ IsMember s (side_of t.a t.c ∷ side_of t.a t.d ∷ side_of t.b t.c ∷ side_of t.b t.d ∷ side_of t.c t.d ∷ []) → AreNamed names (side_numbers s)
      one (inl e) = at _ e (side_below names t.a t.b first second)
      one (inr m) = two (in_cons s _ _ m)

-- the corners of each face have names
pub face_named : (names : List ℕ) (rows : List Tet) → HaveNames names rows → (f : Face) → Contains (faces_of_rows rows) f → AreNamed names (face_numbers f)
face_named names rows h f c =
    let r = flat_map_cases row_faces f rows (member_of (faces_of_rows rows) f c) in
    face_of_row_named names r.0 (All-contains (λ t. AreNamed names (numbers t)) rows r.0 h (contains_of rows r.0 r.1)) f (contains_of (row_faces r.0) f r.2)

-- and the ends of each side
pub side_named : (names : List ℕ) (rows : List Tet) → HaveNames names rows → (s : Side) → Contains (sides_of_rows rows) s → AreNamed names (side_numbers s)
side_named names rows h s c =
    let r = flat_map_cases row_sides s rows (member_of (sides_of_rows rows) s c) in
    side_of_row_named names r.0 (All-contains (λ t. AreNamed names (numbers t)) rows r.0 h (contains_of rows r.0 r.1)) s (contains_of (row_sides r.0) s r.2)

-- a face with its marker has the face's corners
pub row_named : (names : List ℕ) (f : Face) (r : FaceRow) → corners_of r ≡ f → AreNamed names (face_numbers f) → AreNamed names (marked_corners r)
row_named names f r e h = subst (λ g. AreNamed names (face_numbers g)) (sym e) h

-- the face of a use is one of a row
pub use_named : (names : List ℕ) (rows : List Tet) (halves : List HalfFace) (at : ℕ) (d : Use) → HaveNames names rows → AreUsesOf rows halves → at < length (used rows halves)
    → AreNamed names (face_numbers (get_or (used rows halves) at d).face)
use_named names rows halves at d h uses there =
    let u = get_or (used rows halves) at d in
    let o = of_row rows (used rows halves) uses.uses at d there in
    face_of_row_named names (row_at rows u.row) (h u.row (record { a = 0; b = 0; c = 0; d = 0 }) o.0) u.face (in_row (row_at rows u.row) u.face (o.1 (record { a = 0; b = 0; c = 0; d = 0 })))
