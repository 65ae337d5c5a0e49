-- The faces of one row alone, as rows of the face file.
use Rattle.std.proofs.Common.{◌≡◌, ◌⊎◌, inl, inr, ℕ, ◌<◌, true, false, List, [], map, length, get_or, refl, ap, sym, subst, ◌∙◌, arith}
use Rattle.std.specs.Prelude.{◌↔◌, pos, if◌then◌else◌, IsTrue, AllPairs, Contains, count_by}
use Rattle.std.proofs.lemmas.Bool.{cases_order, eq-eqb, eqb-true, true≢false}
use Rattle.std.proofs.lemmas.List.{get_or-map, length-map, get_or_default}
use Rattle.sign_predicates.specs.Point.{Point}
use Rattle.geo_laws.specs.Complex.{Complex}
use Rattle.geo_laws.specs.Delaunay.{RowBefore}
use Rattle.geo_laws.specs.Faces.{faces_of_rows, FaceBefore, IsOfOneRow, AreHullFacesOf}
use Rattle.geo_laws.specs.declared.faces.Face.{Face}
use Rattle.geo_laws.specs.declared.tetrahedra.Tet.{Tet}
use Rattle.geo_laws.proofs.Members.{contains_of, member_of, in_map, map_cases}
use Rattle.incidence.specs.Pairs.{has_face}
use Rattle.mesh_files.specs.FaceRows.{IsFaceRow, AreFaceRowsOf, is_on_hull, corners_of, hull_row}
use Rattle.mesh_files.specs.declared.markers.FaceRow.{FaceRow}
use Rattle.mesh_files.proofs.Counts.{one_counted, two_counted}
use Rattle.mesh_files.proofs.Found.{no_row, row_of_face, face_of_row, in_row, from_row}
use Rattle.mesh_files.proofs.Marked.{nothing_lies, without_facets}

no_row_before : (t : Tet) → RowBefore t t → ⊥
no_row_before t h = grind (arith, h)

-- in a list that ascends a row stands in one place
one_place : (rows : List Tet) → AllPairs RowBefore rows → (i j : ℕ) → i < length rows → j < length rows → get_or rows i no_row ≡ get_or rows j no_row → i ≡ j
one_place rows up i j hi hj e = by (cases_order i j)
  where
    by : (i ≡ j) ⊎ ((i < j) ⊎ (j < i)) → i ≡ j
    by (inl h) = h
    by (inr (inl h)) = absurd (no_row_before (get_or rows j no_row) (subst (λ (t : Tet). RowBefore t (get_or rows j no_row)) e (up i j no_row h hj)))
    by (inr (inr h)) = absurd (no_row_before (get_or rows i no_row) (subst (λ (t : Tet). RowBefore t (get_or rows i no_row)) (sym e) (up j i no_row h hi)))

-- the faces of one row alone are those on the hull
pub of_one_row : (rows : List Tet) → AllPairs RowBefore rows → (f : Face) → IsOfOneRow rows f ↔ (Contains (faces_of_rows rows) f × (is_on_hull rows f ≡ true))
of_one_row rows up f = (to, from)
  where
    at : (k : ℕ) → k < length rows → (t : Tet) → get_or rows k t ≡ t → get_or rows k no_row ≡ t
    at k h t e = get_or_default rows k no_row t h ∙ e

    to : IsOfOneRow rows f → Contains (faces_of_rows rows) f × (is_on_hull rows f ≡ true)
    to o =
        let k = o.is_row.0 in
        let there = o.is_row.1 in
        let is = at k there o.row o.is_row.2 in
        let here : has_face f (get_or rows k no_row) ≡ true = subst (λ (t : Tet). has_face f t ≡ true) (sym is) (from_row o.row f o.has) in
        let only : (j : ℕ) → j < length rows → has_face f (get_or rows j no_row) ≡ true → j ≡ k =
        λ j h y. one_place rows up j k h there (o.only (get_or rows j no_row) (j, h, get_or_default rows j (get_or rows j no_row) no_row h) (in_row (get_or rows j no_row) f y) ∙ sym is) in
        (face_of_row rows k f there here, eq-eqb _ 1 (one_counted (has_face f) rows k no_row there here only))

    from : Contains (faces_of_rows rows) f × (is_on_hull rows f ≡ true) → IsOfOneRow rows f
    from (c, h) =
        let o = row_of_face rows f c in
        let count : count_by (has_face f) rows ≡ 1 = eqb-true _ 1 h in
        record {
          row = get_or rows o.0 no_row;
          is_row = (o.0, o.1, get_or_default rows o.0 (get_or rows o.0 no_row) no_row o.1);
          has = in_row (get_or rows o.0 no_row) f o.2;
          only = λ t d y.
              let there : has_face f (get_or rows d.0 no_row) ≡ true = subst (λ (s : Tet). has_face f s ≡ true) (sym (at d.0 d.1 t d.2)) (from_row t f y) in
              sym (at d.0 d.1 t d.2) ∙ ap (λ k. get_or rows k no_row) (same d.0 o.0 count d.1 o.1 there o.2);
        }
      where
        same : (i j : ℕ) → count_by (has_face f) rows ≡ 1 → i < length rows → j < length rows → has_face f (get_or rows i no_row) ≡ true → has_face f (get_or rows j no_row) ≡ true → i ≡ j
        same i j count hi hj p q = by (cases_order i j)
          where
            by : (i ≡ j) ⊎ ((i < j) ⊎ (j < i)) → i ≡ j
            by (inl e) = e
            by (inr (inl l)) = absurd (omega (arith, count, two_counted (has_face f) rows i j no_row l hj p q))
            by (inr (inr l)) = absurd (omega (arith, count, two_counted (has_face f) rows j i no_row l hi q p))

-- with marker 1 they are the face rows where there are no facets
pub rows_of_hull : (rows : List Tet) (hull : List Face) (ps : List Point) (complex : Complex) → AllPairs RowBefore rows → AreHullFacesOf rows hull → AreFaceRowsOf ps rows complex [] false (map hull_row hull)
rows_of_hull rows hull ps complex up are = record { exactly = λ r. (to r, from r); ascending = ascending }
  where
    to : (r : FaceRow) → Contains (map hull_row hull) r → IsFaceRow ps rows complex [] false r
    to r c =
        let m = map_cases hull_row r hull (member_of (map hull_row hull) r c) in
        let f = m.0 in
        let o = (of_one_row rows up f).0 ((are.exactly f).0 (contains_of hull f m.1)) in
        subst (IsFaceRow ps rows complex [] false) (sym m.2) (
          f,
          o.0,
          record {
            corners_are = refl;
            marker_is = inr (λ lies. nothing_lies ps lies.0 f lies.1, sym (ap (λ b. if b then pos 1 else pos 0) o.1));
            asked = inr (inl (subst IsTrue (sym o.1) refl));
          },
        )

    from : (r : FaceRow) → IsFaceRow ps rows complex [] false r → Contains (map hull_row hull) r
    from r w = by (without_facets ps rows complex false r w)
      where
        by : (f : Face) × Contains (faces_of_rows rows) f × (corners_of r ≡ f) × (r.marker ≡ (if is_on_hull rows f then pos 1 else pos 0)) × (IsTrue false ⊎ IsTrue (is_on_hull rows f)) → Contains (map hull_row hull) r
        by (f, c, e, m, inl h) = absurd (true≢false (sym h))
        by (f, c, e, m, inr h) =
            let found = (are.exactly f).1 ((of_one_row rows up f).1 (c, h)) in
            let one : r.marker ≡ pos 1 = m ∙ ap (λ b. if b then pos 1 else pos 0) h in
            let is : hull_row f ≡ r = λ i. record { a = (sym e i).a; b = (sym e i).b; c = (sym e i).c; marker = sym one i } in
            subst (Contains (map hull_row hull)) is (contains_of (map hull_row hull) (hull_row f) (in_map hull_row f hull (member_of hull f found)))

    at : (i : ℕ) (d : FaceRow) → i < length hull → get_or (map hull_row hull) i d ≡ hull_row (get_or hull i (corners_of d))
    at i d h = get_or-map hull_row hull i (corners_of d) d h

    ascending : AllPairs (λ r s. FaceBefore (corners_of r) (corners_of s)) (map hull_row hull)
    ascending i j d h k =
        let below : j < length hull = omega (arith, k, length-map hull hull_row) in
        subst (λ r. FaceBefore (corners_of r) (corners_of (get_or (map hull_row hull) j d))) (sym (at i d (omega (arith, h, below))))
        (subst (λ s. FaceBefore (get_or hull i (corners_of d)) (corners_of s)) (sym (at j d below)) (are.ascending i j (corners_of d) h below))
