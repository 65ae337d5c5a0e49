-- The faces of the two tetrahedra with their markers: those on the hull, and all.
use Rattle.std.proofs.Common.{◌≡◌, ◌⊎◌, inl, inr, ℕ, ◌<◌, Bool, true, false, ◌||◌, not, List, [], length, map, get_or, if◌then◌else◌, refl, sym, subst, ◌∙◌, arith}
use Rattle.std.proofs.lemmas.Bool.{true≢false}
use Rattle.std.proofs.lemmas.List.{get_or-map, length-map}
use Rattle.std.specs.List.{list_any}
use Rattle.std.specs.Prelude.{◌↔◌, AllPairs, Contains, IsTrue, pos}
use Rattle.geo_laws.specs.Complex.{empty_complex}
use Rattle.geo_laws.specs.Faces.{FaceBefore, faces_of_rows}
use Rattle.geo_laws.specs.declared.faces.Face.{Face}
use Rattle.geo_laws.proofs.Members.{contains_of, each_true, either_true, in_map, map_cases, member_of, some_true}
use Rattle.incidence.specs.Pairs.{is_face}
use Rattle.incidence.proofs.Partners.{face_same}
use Rattle.mesh_files.specs.FaceRows.{AreFaceRowsOf, IsFaceRow, corners_of, is_on_hull}
use Rattle.mesh_files.specs.declared.markers.FaceRow.{FaceRow}
use Rattle.mesh_files.proofs.Marked.{nothing_lies, without_facets}
use Rattle.run_laws.proofs.Faces.{all_faces, among, faces_are, faces_ascend, hull}
use Rattle.run_laws.proofs.WorkedRows.{grid_points, pyramid_rows}

-- a face with the marker 1 where it is on the hull, else 0
abbrev pub marked : Face → FaceRow
marked f = record { a = f.a; b = f.b; c = f.c; marker = if is_on_hull pyramid_rows f then pos 1 else pos 0 }

-- it is a face of a tetrahedron, and it is asked for
abbrev IsAskedFace : Bool → Face → Type 0
IsAskedFace all f = Contains (faces_of_rows pyramid_rows) f × (IsTrue all ⊎ IsTrue (is_on_hull pyramid_rows f))

module _ (all : Bool) (faces : List Face) (exactly : (f : Face) → Contains faces f ↔ IsAskedFace all f) (ascending : AllPairs FaceBefore faces) where
  to_row : (r : FaceRow) → Contains (map marked faces) r → IsFaceRow grid_points pyramid_rows empty_complex [] all r
  to_row r c =
      let m = map_cases marked r faces (member_of (map marked faces) r c) in
      let o = (exactly m.0).0 (contains_of faces m.0 m.1) in
      subst (IsFaceRow grid_points pyramid_rows empty_complex [] all) (sym m.2)
      (m.0, o.0, record { corners_are = refl; marker_is = inr (λ lies. nothing_lies grid_points lies.0 m.0 lies.1, refl); asked = elim o.1 [ inl h ↦ inl h | inr h ↦ inr (inl h) ] })

  from_row : (r : FaceRow) → IsFaceRow grid_points pyramid_rows empty_complex [] all r → Contains (map marked faces) r
  from_row r w =
      let o = without_facets grid_points pyramid_rows empty_complex all r w in
      let found = (exactly o.0).1 (o.1, o.4) in
      let is : marked o.0 ≡ r = λ i. record { a = (sym o.2 i).a; b = (sym o.2 i).b; c = (sym o.2 i).c; marker = sym o.3 i } in
      subst (Contains (map marked faces)) is (contains_of (map marked faces) (marked o.0) (in_map marked o.0 faces (member_of faces o.0 found)))

  at_row : (i : ℕ) (d : FaceRow) → i < length faces → get_or (map marked faces) i d ≡ marked (get_or faces i (corners_of d))
  at_row i d h = get_or-map marked faces i (corners_of d) d h

  rows_ascend : AllPairs (λ r s. FaceBefore (corners_of r) (corners_of s)) (map marked faces)
  rows_ascend i j d h k =
      let below : j < length faces = omega (arith, k, length-map faces marked) in
      subst (λ r. FaceBefore (corners_of r) (corners_of (get_or (map marked faces) j d))) (sym (at_row i d (omega (arith, h, below))))
      (subst (λ s. FaceBefore (get_or faces i (corners_of d)) (corners_of s)) (sym (at_row j d below)) (ascending i j (corners_of d) h below))

  face_rows : AreFaceRowsOf grid_points pyramid_rows empty_complex [] all (map marked faces)
  face_rows = record { exactly = λ r. (to_row r, from_row r); ascending = rows_ascend }

-- the face is not on the hull, or is one of these
abbrev is_told : Face → Bool
is_told f = not (is_on_hull pyramid_rows f) || list_any (λ g. is_face g f) hull

in_hull : (f : Face) → Contains (faces_of_rows pyramid_rows) f → is_on_hull pyramid_rows f ≡ true → Contains hull f
in_hull f c on = by (either_true (not (is_on_hull pyramid_rows f)) (list_any (λ g. is_face g f) hull) (each_true is_told (faces_of_rows pyramid_rows) refl f (member_of _ f c)))
  where
    by : (not (is_on_hull pyramid_rows f) ≡ true) ⊎ (list_any (λ g. is_face g f) hull ≡ true) → Contains hull f
    by (inl off) = absurd (true≢false (sym off ∙ subst (λ b. not b ≡ false) (sym on) refl))
    by (inr h) = let found = some_true (λ g. is_face g f) hull h in subst (Contains hull) (face_same found.0 f found.2) (contains_of hull found.0 found.1)

-- those on the hull
pub hull_rows : AreFaceRowsOf grid_points pyramid_rows empty_complex [] false (map marked hull)
hull_rows = face_rows false hull
    (λ f. (
      λ c. (among is_face face_same (faces_of_rows pyramid_rows) hull refl f c, inr (each_true (is_on_hull pyramid_rows) hull refl f (member_of hull f c))),
      λ h. elim h.1 [ inl never ↦ absurd (true≢false (sym never)) | inr on ↦ in_hull f h.0 on ],
    ))
    (faces_ascend hull refl)

-- and all
pub all_rows : AreFaceRowsOf grid_points pyramid_rows empty_complex [] true (map marked all_faces)
all_rows = face_rows true all_faces (λ f. (λ c. ((faces_are.exactly f).0 c, inl refl), λ h. (faces_are.exactly f).1 h.0)) faces_are.ascending
