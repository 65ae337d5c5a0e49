-- The rim of a new point has a face, if its cavity has a place: some tetrahedron of the new list holds the point. It is one of the star, as the point
-- would be hidden above an old one.
use Rattle.std.proofs.Common.{◌⊎◌, inl, inr, pos, ◌<ℤ◌, List, ◌∷◌, refl, arith, ℕ, ℤ}
use Rattle.std.specs.Prelude.{Contains}
use Rattle.std.proofs.lemmas.Int.{ints}
use Rattle.sign_predicates.specs.Point.{Point, as_rational}
use Rattle.sign_predicates.specs.Orientation.{side, InClosed}
use Rattle.geo_laws.specs.Delaunay.{point, corners}
use Rattle.geo_laws.specs.Height.{IsLowestAmong}
use Rattle.geo_laws.specs.declared.tetrahedra.Tet.{Tet}
use Rattle.geo_laws.proofs.General.{near_point, closed_of}
use Rattle.geo_laws.proofs.LeastHeight.{law_least_height}
use Rattle.geo_laws.specs.OrientedFace.{Face, triangle}
use Rattle.insert_laws.specs.LowestInsertion.{IsNew, HasAbove, IsLowestHullFace, IsLowestStarRow, IsLowestRimFace, LowestSomeRimFaceLaw}
use Rattle.insert_laws.proofs.LowestBridge
use Rattle.insert_laws.proofs.LowestHull as hull
use Rattle.insert_laws.proofs.LowestInsert.{law_insertion}
use Rattle.insert_laws.proofs.LowestStart.{locate_among}
use Rattle.insert_laws.proofs.HiddenPoints.{law_hidden}

-- the new list has a row: one is round a point in general position in an old row
row_with : (lifts : ℕ → ℤ) (ps : List Point) (ms : List ℕ) (p : ℕ) → IsNew ps ms p → (some : Tet) → IsLowestAmong ps ms lifts some → (t : Tet) × IsLowestAmong ps (p ∷ ms) lifts t
row_with lifts ps ms p new some is =
    let c = corners ps some in
    let inside = (hull.some_on lifts ps ms (Contains ms) (LowestBridge.of_list ps ms new.within) some is).inside in
    let g = near_point ps (p ∷ ms) c (hull.middle_of ps some) is.is_positive (omega (arith, ints)) (closed_of c (hull.middle_of ps some) inside) in
    let found = law_least_height.lowest ps (p ∷ ms) (LowestBridge.of_new ps ms p new).within lifts g.near g.w
    (record { row = some; is_on = λ i k. LowestBridge.to_cons p ms i (inr (is.is_on i k)); is_positive = is.is_positive; holds = closed_of c g.near g.strictly })
    (λ i j k a b d s. (g.keeps i j k a b d s).off) in
    (found.0, found.1)

pub law_some_rim_face : LowestSomeRimFaceLaw
law_some_rim_face lifts ps ms p new some is a in_cavity = by (locate_among lifts ps (p ∷ ms) (LowestBridge.of_new ps ms p new).within p first.0 first.1)
  where
    first : (t : Tet) × IsLowestAmong ps (p ∷ ms) lifts t
    first = row_with lifts ps ms p new some is

    of_row : (t : Tet) → InClosed (corners ps t) (as_rational (point ps p)) → (IsLowestAmong ps ms lifts t × HasAbove lifts ps t p) ⊎ IsLowestStarRow lifts ps ms p t → (f : Face) × IsLowestRimFace lifts ps ms p f
    of_row t holds (inl old) = absurd ((law_hidden lifts ps ms p new t old.0 holds old.1).no_place a in_cavity)
    of_row t holds (inr star) = (star.face, record { cavity = star.cavity; clear = star.clear })

    by : ((t : Tet) × IsLowestAmong ps (p ∷ ms) lifts t × InClosed (corners ps t) (as_rational (point ps p))) ⊎ ((f : Face) × IsLowestHullFace lifts ps (p ∷ ms) f × (pos 0 <ℤ side (triangle ps f) (point ps p)))
        → (f : Face) × IsLowestRimFace lifts ps ms p f
    by (inl row) = of_row row.0 row.2 ((law_insertion lifts ps ms p new some is row.0).0 row.1)
    by (inr face) = absurd (face.1.none_beyond p (LowestBridge.to_cons p ms p (inl refl)) face.2)
