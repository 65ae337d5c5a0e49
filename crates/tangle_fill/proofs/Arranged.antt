-- Rows in the least even arrangement have their least corner first, and so have their faces: on each side of a face they name it in one order.
use Rattle.std.proofs.Common.{◌≡◌, ◌⊎◌, inl, inr, ◌<◌, Bool, true, false, cond, ◌||◌, Some, None, sym, ◌∙◌, arith}
use Rattle.std.specs.Prelude.{All}
use Rattle.std.specs.List.{list_any, slice_index_or}
use Rattle.indexmap.specs.IndexMap.{IndexMap, get}
use Rattle.geo_laws.specs.Delaunay.{IsArranged}
use Rattle.geo_laws.specs.OrientedFace.{Face}
use Rattle.geo_laws.specs.declared.tetrahedra.Tet.{Tet}
use Rattle.geo_laws.proofs.Members.{IsMember, here, there, some_true, any_true}
use Rattle.crossing_laws.specs.Crossing.{faces_of, is_same}
use Rattle.crossing_laws.proofs.Tests.{decided}
use Rattle.crossing_laws.proofs.Faces.{Same, straight, onward, backward, same_of}
use Rattle.tangle_laws.specs.Tangle.{lies_on}
use Rattle.tangle_laws.proofs.Apart.{fails_true}
use Rattle.tangle_fill.specs.Indexed.{same_face_side, face_side_of, has_side, IsIndexed, IsSidePut}
use Rattle.tangle_fill.specs.declared.growth.FaceSide.{FaceSide}
use Rattle.tangle_fill.specs.declared.growth.Growth.{Growth}
use Rattle.tangle_fill.proofs.Indexed.{three_same}

-- the first corner is the least
record IsLeastFirst (f : Face) : Type 0 where
  b : f.a < f.b
  c : f.a < f.c

least_first : (t : Tet) → IsArranged t → (f : Face) → IsMember f (faces_of t) → IsLeastFirst f
least_first t r f here = record { b = r.second'; c = r.second }
least_first t r f (there here) = let h = r.first in let k = r.second in let l = r.second' in record { b = omega arith; c = omega arith }
least_first t r f (there (there here)) = let h = r.first in let l = r.second' in record { b = omega arith; c = h }
least_first t r f (there (there (there here))) = let h = r.first in let k = r.second in record { b = h; c = omega arith }
least_first t r f (there (there (there (there m)))) = elim m [ ]

-- two such faces with the same corners in the same cyclic order are one
one_order : (f g : Face) → IsLeastFirst f → IsLeastFirst g → Same f g → (f.a ≡ g.a) × (f.b ≡ g.b) × (f.c ≡ g.c)
one_order f g lf lg (straight a b c) = (a, b, c)
one_order f g lf lg (onward a b c) = absurd (let h = lf.c in let k = lg.b in omega arith)
one_order f g lf lg (backward a b c) = absurd (let h = lf.b in let k = lg.c in omega arith)

-- where the row of no such side is kept, no row lies on it
pub none_straight : (g : Growth) (row : Tet) (f : Face) → IsIndexed g → All IsArranged g.rows → IsArranged row → IsMember f (faces_of row)
    → get same_face_side g.sides (face_side_of f) ≡ None → All (λ t. lies_on f t ≡ false) g.rows
none_straight g row f i arranged r m n k d l = go (decided (lies_on f t))
  where
    t : Tet
    t = slice_index_or g.rows k d

    go : (lies_on f t ≡ true) ⊎ (lies_on f t ≡ false) → lies_on f t ≡ false
    go (inr h) = h
    go (inl h) =
        let s = some_true (is_same f) (faces_of t) h in
        let e = one_order f s.0 (least_first row r f m) (least_first t (arranged k d l) s.0 s.1) (same_of f s.0 s.2) in
        fails_true (has_side t (face_side_of f)) (i.none (face_side_of f) n k d l)
        (any_true (λ h. same_face_side (face_side_of h) (face_side_of f)) (faces_of t) s.0 s.1 (three_same s.0 (face_side_of f) (sym e.0) (sym e.1) (sym e.2)))

-- a side that led nowhere after another one was put in led nowhere before
before_put : {S : Type 0} (old new : IndexMap FaceSide Tet S) (p q : FaceSide) (row : Tet) → IsSidePut old new p row → get same_face_side new q ≡ None → get same_face_side old q ≡ None
before_put old new p q row put n = go (same_face_side p q) (sym (put q) ∙ n)
  where
    go : (b : Bool) → cond b (Some row) (get same_face_side old q) ≡ None → get same_face_side old q ≡ None
    go true e = absurd (let m : Some row ≡ None = e in cc)
    go false e = e

abbrev side_a : Tet → FaceSide
side_a row = face_side_of (record { a = row.b; b = row.d; c = row.c })

abbrev side_b : Tet → FaceSide
side_b row = face_side_of (record { a = row.a; b = row.c; c = row.d })

abbrev side_c : Tet → FaceSide
side_c row = face_side_of (record { a = row.a; b = row.d; c = row.b })

abbrev side_d : Tet → FaceSide
side_d row = face_side_of (record { a = row.a; b = row.b; c = row.c })

-- when four sides are put in, each of which led nowhere then, all led nowhere before
pub sides_free : {S : Type 0} (m0 m1 m2 m3 : IndexMap FaceSide Tet S) (row : Tet) → IsSidePut m0 m1 (side_a row) row → IsSidePut m1 m2 (side_b row) row → IsSidePut m2 m3 (side_c row) row
    → get same_face_side m0 (side_a row) ≡ None → get same_face_side m1 (side_b row) ≡ None → get same_face_side m2 (side_c row) ≡ None → get same_face_side m3 (side_d row) ≡ None
    → (get same_face_side m0 (side_a row) ≡ None) × (get same_face_side m0 (side_b row) ≡ None) × (get same_face_side m0 (side_c row) ≡ None) × (get same_face_side m0 (side_d row) ≡ None)
sides_free m0 m1 m2 m3 row p1 p2 p3 a b c d = (
  a,
  before_put m0 m1 (side_a row) (side_b row) row p1 b,
  before_put m0 m1 (side_a row) (side_c row) row p1 (before_put m1 m2 (side_b row) (side_c row) row p2 c),
  before_put m0 m1 (side_a row) (side_d row) row p1 (before_put m1 m2 (side_b row) (side_d row) row p2 (before_put m2 m3 (side_c row) (side_d row) row p3 d)),
)

-- a row all of whose sides lead nowhere lies apart
pub lies_apart : (g : Growth) (row : Tet) → IsIndexed g → All IsArranged g.rows → IsArranged row
    → (get same_face_side g.sides (side_a row) ≡ None) × (get same_face_side g.sides (side_b row) ≡ None) × (get same_face_side g.sides (side_c row) ≡ None) × (get same_face_side g.sides (side_d row) ≡ None)
    → All (λ t. list_any (λ f. lies_on f t) (faces_of row) ≡ false) g.rows
lies_apart g row i arranged r n =
    let a = none_straight g row (record { a = row.b; b = row.d; c = row.c }) i arranged r here n.0 in
    let b = none_straight g row (record { a = row.a; b = row.c; c = row.d }) i arranged r (there here) n.1 in
    let c = none_straight g row (record { a = row.a; b = row.d; c = row.b }) i arranged r (there (there here)) n.2 in
    let d = none_straight g row (record { a = row.a; b = row.b; c = row.c }) i arranged r (there (there (there here))) n.3 in
    λ k e l j. a k e l j || (b k e l j || (c k e l j || (d k e l j || false)))
