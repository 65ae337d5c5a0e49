-- What a further point changes in the Delaunay list: the laws of the lowest tetrahedra, at the squared lengths.
use Rattle.std.proofs.Common.{◌⊎◌, inl, inr, ℕ, pos, ◌<ℤ◌, ◌∷◌}
use Rattle.sign_predicates.specs.Point.{as_rational}
use Rattle.sign_predicates.specs.Orientation.{side, InClosed}
use Rattle.geo_laws.specs.Delaunay.{point, corners, IsDelaunayAmong}
use Rattle.geo_laws.specs.Height.{lifted, IsLowestAmong}
use Rattle.geo_laws.specs.OrientedFace.{Face, triangle, reversed}
use Rattle.geo_laws.specs.declared.tetrahedra.Tet.{Tet}
use Rattle.geo_laws.proofs.Lift.{lowest_of, delaunay_of}
use Rattle.insert_laws.specs.LowestInsertion as lowest
use Rattle.insert_laws.proofs.LowestInsert as insertion
use Rattle.insert_laws.proofs.Sides as sides
use Rattle.insert_laws.proofs.Rim as rim
use Rattle.insert_laws.proofs.SomeRim as some_rim
use Rattle.insert_laws.proofs.InsideLaw as inside
use Rattle.insert_laws.proofs.BeyondLaw as beyond
use Rattle.insert_laws.specs.Insertion.{IsFaceOf, IsHullFace, HasNoneAmongBeyond, HasOutside, IsStarRow, IsRimFace, IsHullRim, edge_and, IsCavityPlace, IsClearPlace, row_place, ghost_place, InsertionLaw, RimLaw, FacePairingLaw, OneRowLaw, PlaceLaw, RimEdgeLaw, HullRimLaw, SomeRimFaceLaw, InsideCavityLaw, BeyondCavityLaw}
use Rattle.insert_laws.proofs.Bridge.{hull_of, numbers_with, low, row, above, outside, cavity_of, cavity_from, clear_of, clear_from, rim_of, rim_from, star_of, star_from, hull_rim_of, hull_rim_from, in_of, joined_from}
use Rattle.insert_laws.proofs.Start.{law_start, law_locate}

-- ---- the rows

pub law_insertion : InsertionLaw
law_insertion ps ms p new some is t =
    let law = insertion.law_insertion (lifted ps) ps ms p new some (low ps ms p new some is) t in
    let more = numbers_with ps ms p new in
    (λ d. to (law.0 (lowest_of ps (p ∷ ms) more t d)), λ h. delaunay_of ps (p ∷ ms) more t (law.1 (from h)))
  where
    to : (IsLowestAmong ps ms (lifted ps) t × lowest.HasAbove (lifted ps) ps t p) ⊎ lowest.IsLowestStarRow (lifted ps) ps ms p t → (IsDelaunayAmong ps ms t × HasOutside ps t p) ⊎ IsStarRow ps ms p t
    to (inl old) = let d = row ps ms p new t old.0 in inl (d, outside ps ms p new t d old.1)
    to (inr star) = inr (star_from ps ms p new t star)

    from : (IsDelaunayAmong ps ms t × HasOutside ps t p) ⊎ IsStarRow ps ms p t → (IsLowestAmong ps ms (lifted ps) t × lowest.HasAbove (lifted ps) ps t p) ⊎ lowest.IsLowestStarRow (lifted ps) ps ms p t
    from (inl old) = inl (low ps ms p new t old.0, above ps ms p new t old.0 old.1)
    from (inr star) = inr (star_of ps ms p new t star)

pub law_rim : RimLaw
law_rim ps ms p new f cavity clear = insertion.law_rim (lifted ps) ps ms p new f (cavity_of ps ms p new f cavity) (clear_of ps ms p new (reversed f) clear)

-- ---- the faces of a row

pub law_face_pairing : FacePairingLaw
law_face_pairing ps ms within f t d face = by (insertion.law_face_pairing (lifted ps) ps ms within f t (lowest_of ps ms within t d) face)
  where
    by : HasNoneAmongBeyond ps ms f ⊎ ((s : Tet) × IsLowestAmong ps ms (lifted ps) s × IsFaceOf ps f s) → HasNoneAmongBeyond ps ms f ⊎ ((s : Tet) × IsDelaunayAmong ps ms s × IsFaceOf ps f s)
    by (inl none) = inl none
    by (inr s) = inr (s.0, delaunay_of ps ms within s.0 s.1, s.2)

pub law_one_row : OneRowLaw
law_one_row ps ms within f s t d face e face' = insertion.law_one_row (lifted ps) ps ms within f s t (lowest_of ps ms within s d) face (lowest_of ps ms within t e) face'

pub law_place : PlaceLaw
law_place ps ms p new = record {
  decided = λ f t d face. by f (law.decided f t (low ps ms p new t d) face);
  exclusive = λ f cavity clear. law.exclusive f (cavity_of ps ms p new f cavity) (clear_of ps ms p new f clear);
}
  where
    law : lowest.IsLowestDivided (lifted ps) ps ms p
    law = sides.law_place (lifted ps) ps ms p new

    by : (f : Face) → lowest.IsLowestCavityPlace (lifted ps) ps ms p f ⊎ lowest.IsLowestClearPlace (lifted ps) ps ms p f → IsCavityPlace ps ms p f ⊎ IsClearPlace ps ms p f
    by f (inl cavity) = inl (cavity_from ps ms p new f cavity)
    by f (inr clear) = inr (clear_from ps ms p new f clear)

-- ---- the rim

pub law_rim_edge : RimEdgeLaw
law_rim_edge ps ms p new i j k face =
    let law = rim.law_rim_edge (lifted ps) ps ms p new i j k (rim_of ps ms p new (edge_and i j k) face) in
    (by law.0, λ q other. law.1 q (rim_of ps ms p new (edge_and i j q) other))
  where
    by : lowest.IsLowestHullRim (lifted ps) ps ms p i j ⊎ ((q : ℕ) × lowest.IsLowestRimFace (lifted ps) ps ms p (edge_and j i q)) → IsHullRim ps ms p i j ⊎ ((q : ℕ) × IsRimFace ps ms p (edge_and j i q))
    by (inl end) = inl (hull_rim_from ps ms p new i j end)
    by (inr r) = inr (r.0, rim_from ps ms p new (edge_and j i r.0) r.1)

pub law_hull_rim : HullRimLaw
law_hull_rim ps ms p new some is i j end =
    let law = rim.law_hull_rim (lifted ps) ps ms p new some (low ps ms p new some is) i j (hull_rim_of ps ms p new i j end) in
    ((law.0.0, rim_from ps ms p new (edge_and i j law.0.0) law.0.1), (law.1.0, hull_rim_from ps ms p new j law.1.0 law.1.1, λ r other. law.1.2 r (hull_rim_of ps ms p new j r other)))

-- the row that holds p, or the ghost of the hull face that p is beyond, is a place of the cavity
pub law_some_rim_face : SomeRimFaceLaw
law_some_rim_face ps ms p new apart some is = by (law_locate ps ms p new some is)
  where
    face_from : (f : Face) × lowest.IsLowestRimFace (lifted ps) ps ms p f → (f : Face) × IsRimFace ps ms p f
    face_from r = (r.0, rim_from ps ms p new r.0 r.1)

    by : ((t : Tet) × IsDelaunayAmong ps ms t × InClosed (corners ps t) (as_rational (point ps p))) ⊎ ((f : Face) × IsHullFace ps ms f × (pos 0 <ℤ side (triangle ps f) (point ps p)))
        → (f : Face) × IsRimFace ps ms p f
    by (inl t) = face_from (some_rim.law_some_rim_face (lifted ps) ps ms p new some (low ps ms p new some is) (row_place t.0)
        (lowest.row_in t.0 (low ps ms p new t.0 t.1) (λ a. law_start ps ms p new apart t.0 t.1 t.2 (outside ps ms p new t.0 t.1 a))))
    by (inr f) = face_from (some_rim.law_some_rim_face (lifted ps) ps ms p new some (low ps ms p new some is) (ghost_place f.0) (lowest.ghost_in f.0 (hull_of ps ms new.within f.0 f.1) (inl f.2)))

-- ---- the cavity is connected

pub law_inside_cavity : InsideCavityLaw
law_inside_cavity ps ms p new s d closed n a k =
    joined_from ps ms p new a (row_place s) (inside.law_inside_cavity (lifted ps) ps ms p new s (low ps ms p new s d) closed (λ o. n (outside ps ms p new s d o)) a (in_of ps ms p new a k))

pub law_beyond_cavity : BeyondCavityLaw
law_beyond_cavity ps ms p new f h sees a k =
    joined_from ps ms p new a (ghost_place f) (beyond.law_beyond_cavity (lifted ps) ps ms p new f (hull_of ps ms new.within f h) sees a (in_of ps ms p new a k))
