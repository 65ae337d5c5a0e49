-- A list of the lowest tetrahedra covers the hull once. Let x be off its face planes. Where x is in the hull, nudge it inside the hull off all planes
-- through three of the points: the lowest tetrahedron round the near point is round x too, as x is on the same side of its faces, and by the radical law
-- it is the only one. Beyond the hull there is none, as each tetrahedron lies in the hull.
use Rattle.std.proofs.Common.{◌≡◌, ◌≢◌, ◌⊎◌, inl, inr, ℕ, ℤ, pos, neg_ℤ, ◌<ℤ◌, true, ◌&&◌, List, subst, arith}
use Rattle.std.specs.Prelude.{int_lt}
use Rattle.std.specs.List.{slice_index_or}
use Rattle.exact_algebra.proofs.Signs.{pos_not_neg, neg_of_negated, sign_of, test_pos, pos_of_test}
use Rattle.sign_predicates.specs.Point.{Point, RationalPoint, EachRational}
use Rattle.sign_predicates.specs.Orientation.{side_rational, IsPositive, StrictlyInside, OffFacePlanes, SpansPlane, faces, strictly_inside}
use Rattle.sign_predicates.specs.declared.tetrahedron.Corners.{Corners}
use Rattle.geo_laws.specs.Delaunay.{corners, IsAmong, AreNumbersOf}
use Rattle.geo_laws.specs.Height.{IsLowestAmong}
use Rattle.geo_laws.specs.Hull.{InHullAmong, OffPlanes, rows_round, CoversHullOnceAmong}
use Rattle.geo_laws.specs.Simplex.{RowsProperlyMet}
use Rattle.geo_laws.specs.Laws.{KeepsSide}
use Rattle.insert_laws.specs.LowestCover.{IsLowestListAmong, LowestCoverLaw}
use Rattle.geo_laws.proofs.Cover.{count_none, count_one}
use Rattle.geo_laws.specs.declared.tetrahedra.Tet.{Tet}
use Rattle.sign_predicates.proofs.Places.{Place, A, B, C, D, opposite}
use Rattle.geo_laws.proofs.Places.{at_planes, at_face, all_faces}
use Rattle.geo_laws.proofs.Determinants.{spans}
use Rattle.geo_laws.proofs.Members.{IsMember, here, there, found_of, member_of, at_place, contains_of, each_true}
use Rattle.geo_laws.proofs.Ascending.{rises_of}
use Rattle.geo_laws.proofs.Corners.{corner_among}
use Rattle.geo_laws.proofs.General.{Near, near_point, closed_of}
use Rattle.geo_laws.proofs.Radical.{law_radical}
use Rattle.geo_laws.proofs.LeastHeight.{law_least_height}

-- ---- the row round x

-- the sign at x is that at the near point: else that would be below 0 with it
back : (a b : ℤ) → a ≢ pos 0 → (a <ℤ pos 0 → b <ℤ pos 0) → pos 0 <ℤ b → pos 0 <ℤ a
back a b off below h = go (sign_of a)
  where
    go : (pos 0 <ℤ a) ⊎ ((a ≡ pos 0) ⊎ (pos 0 <ℤ neg_ℤ a)) → pos 0 <ℤ a
    go (inl h) = h
    go (inr (inl e)) = absurd (off e)
    go (inr (inr n)) = absurd (pos_not_neg b h (below (neg_of_negated a n)))

-- a tetrahedron round the near point is round x, if x is off its face planes
round_x : (ps : List Point) (ms : List ℕ) (x : RationalPoint) (s : Corners) (g : Near ps ms s x) (t : Tet) → IsAmong ms t → IsPositive (corners ps t) → OffFacePlanes (corners ps t) x
    → StrictlyInside (corners ps t) g.near → StrictlyInside (corners ps t) x
round_x ps ms x s g t on p off h =
    let c = corners ps t in
    all_faces (λ f. pos 0 <ℤ side_rational f x) c (λ u.
    back (side_rational (opposite c u) x) (side_rational (opposite c u) g.near) (at_face (λ f. side_rational f x ≢ pos 0) c off u)
    (at_planes ps ms (λ f. SpansPlane f → KeepsSide x g.near f) g.keeps t (corner_among ms t on) u (spans c p u)).below (at_face (λ f. pos 0 <ℤ side_rational f g.near) c h u))

-- ---- counts

-- the test for strictly inside says so
test_inside : (t : Corners) (x : RationalPoint) → StrictlyInside t x → strictly_inside t x ≡ true
test_inside t x h =
    let above = λ (u : Place). test_pos (side_rational (opposite t u) x) (at_face (λ f. pos 0 <ℤ side_rational f x) t h u) in
    λ j. above A j && (above B j && (above C j && (above D j && true)))

inside_of : (t : Corners) (x : RationalPoint) → strictly_inside t x ≡ true → StrictlyInside t x
inside_of t x e = all_faces (λ f. pos 0 <ℤ side_rational f x) t (λ u. pos_of_test _ (each_true (λ f. int_lt (pos 0) (side_rational f x)) (faces t) e (opposite t u) (face_of u)))
  where
    face_of : (u : Place) → IsMember (opposite t u) (faces t)
    face_of A = here
    face_of B = there here
    face_of C = there (there here)
    face_of D = there (there (there here))

-- ---- the law

-- each member of the list is lowest
lowest_at : (lifts : ℕ → ℤ) (ps : List Point) (ms : List ℕ) (rows : List Tet) → IsLowestListAmong lifts ps ms rows → (t : Tet) → IsMember t rows → IsLowestAmong ps ms lifts t
lowest_at lifts ps ms rows list t m = (list.exactly t).0 (contains_of rows t m)

-- and x is off its faces
off_at : (ps : List Point) (rows : List Tet) (x : RationalPoint) → OffPlanes ps rows x → (t : Tet) → IsMember t rows → OffFacePlanes (corners ps t) x
off_at ps rows x off t m = let f = found_of rows t m in subst (λ u. OffFacePlanes (corners ps u) x) (f.is t) (off f.place t f.within)

covers : (lifts : ℕ → ℤ) (ps : List Point) (ms : List ℕ) → AreNumbersOf ps ms → (rows : List Tet) → IsLowestListAmong lifts ps ms rows → CoversHullOnceAmong ps ms rows
covers lifts ps ms within rows list = record { inside = inside_once; beyond = beyond_none }
  where
    inside_once : EachRational (λ x. OffPlanes ps rows x → InHullAmong ps ms x → rows_round ps rows x ≡ 1)
    inside_once x w off hull =
        let s = corners ps hull.row in
        let g = near_point ps ms s x hull.is_positive w hull.holds in
        let in_hull : InHullAmong ps ms g.near = record { row = hull.row; is_on = hull.is_on; is_positive = hull.is_positive; holds = closed_of s g.near g.strictly } in
        let found = law_least_height.lowest ps ms within lifts g.near g.w in_hull (λ i j k a b c s. (g.keeps i j k a b c s).off) in
        let c = (list.exactly found.0).1 found.1 in
        let m = member_of rows found.0 c in
        let inside = round_x ps ms x s g found.0 found.1.is_on found.1.is_positive (off_at ps rows x off found.0 m) found.2 in
        count_one (λ t. strictly_inside (corners ps t) x) rows found.0 (rises_of rows list.ascending) m (test_inside (corners ps found.0) x inside)
        (λ u k e. (law_radical.lowest ps ms lifts u found.0 (lowest_at lifts ps ms rows list u k) found.1).1 (x, w, (inside_of (corners ps u) x e, inside)))

    beyond_none : EachRational (λ x. OffPlanes ps rows x → ¬ InHullAmong ps ms x → rows_round ps rows x ≡ 0)
    beyond_none x w off beyond =
        count_none (λ t. strictly_inside (corners ps t) x) rows (λ t m e.
        let d = lowest_at lifts ps ms rows list t m in
        beyond (record { row = t; is_on = d.is_on; is_positive = d.is_positive; holds = closed_of (corners ps t) x (inside_of (corners ps t) x e) }))

rows_meet : (lifts : ℕ → ℤ) (ps : List Point) (ms : List ℕ) → AreNumbersOf ps ms → (rows : List Tet) → IsLowestListAmong lifts ps ms rows → RowsProperlyMet ps rows
rows_meet lifts ps ms within rows list i j d l k =
    let s = slice_index_or rows i d in
    let t = slice_index_or rows j d in
    (law_radical.lowest ps ms lifts s t (lowest_at lifts ps ms rows list s (at_place rows i d (omega arith))) (lowest_at lifts ps ms rows list t (at_place rows j d k))).0

pub law_cover : LowestCoverLaw
law_cover lifts ps ms within rows list = record { covers = covers lifts ps ms within rows list; properly_met = rows_meet lifts ps ms within rows list }
