-- A prepared facet holds a point exactly where the facet's region does.
use Rattle.std.proofs.Common.{◌≡◌, ℕ, ◌+◌, ◌<◌, Bool, true, false, cond, not, nat_lt, ◌||◌, ◌&&◌, List, [], ◌∷◌, map, length, refl, ap, sym, ◌∙◌, arith, eq-eqb, ne_eqb}
use Rattle.std.specs.Prelude.{Some, nat_eq, ◌≢◌}
use Rattle.std.specs.List.{list_any, list_all}
use lib.Pointwise.{pointwise}
use Rattle.sign_predicates.specs.Point.{Point, RationalPoint, from_to, from_to_rational}
use Rattle.sign_predicates.specs.Orientation.{dot, cross}
use Rattle.geo_laws.specs.Delaunay.{point}
use Rattle.geo_laws.specs.Segment.{sides, is_zero}
use Rattle.geo_laws.specs.Facet.{Axis, Facet, areas, axis_of, crosses_ray, in_region, is_on_piece, is_on_side, is_over_side, is_round, is_round_alike, is_within, keeps, plane, same}
use Rattle.geo_laws.specs.declared.complex.Piece.{Piece}
use Rattle.facet_laws.proofs.Chains.{odd, odd_is}
use Rattle.facet_plane.proofs.Planes.{region_is}
use Rattle.facet_plane.proofs.Polygons.{any_areas, all_areas}
use Rattle.facet_plane.specs.Areas.{on_area, over_polygon, round_area, alike_area}
use Rattle.facet_plane.specs.Axes.{axis_is}
use Rattle.facet_plane.specs.Outline.{side_between, side_meets, side_crosses}
use Rattle.facet_plane.specs.Walk.{is_odd}
use Rattle.facet_plane.specs.Prepared.{Shape, shape, shape_of, shape_meets, shape_round, passing_places, is_none, AreOutlinesOf, AreHoles, places_round, outlines_meet, is_hole_at, prepared_holds, IsPreparedOf}
use Rattle.facet_plane.specs.declared.outline.Outline.{Outline}
use Rattle.facet_plane.specs.declared.outline.Reach.TheVariants.{On, Over}
use Rattle.facet_plane.specs.declared.prepared.Prepared.{Prepared}
use Rattle.facet_laws.specs.Parity.{xor}

-- ---- tests of mapped lists

any_map : {X Y : Type 0} (test : Y → Bool) (f : X → Y) (xs : List X) → list_any test (map f xs) ≡ list_any (λ x. test (f x)) xs
any_map test f [] = refl
any_map test f (x ∷ xs) = ap (λ b. test (f x) || b) (any_map test f xs)

any_same : {X : Type 0} (s t : X → Bool) (xs : List X) → ((x : X) → s x ≡ t x) → list_any s xs ≡ list_any t xs
any_same s t [] h = refl
any_same s t (x ∷ xs) h = (λ j. h x j || any_same s t xs h j)

odd_map : {X Y : Type 0} (test : Y → Bool) (f : X → Y) (xs : List X) → is_odd test (map f xs) ≡ odd (λ x. test (f x)) xs
unfolding odd
odd_map test f [] = refl
odd_map test f (x ∷ xs) = ap (λ b. xor (test (f x)) b) (odd_map test f xs)

places_map : {X Y : Type 0} (test : Y → Bool) (f : X → Y) (n : ℕ) (xs : List X) → passing_places test n (map f xs) ≡ passing_places (λ x. test (f x)) n xs
places_map test f n [] = refl
places_map test f n (x ∷ xs) = ap (λ ps. cond (test (f x)) (n ∷ ps) ps) (places_map test f (n + 1) xs)

places_same : {X : Type 0} (s t : X → Bool) (n : ℕ) (xs : List X) → ((x : X) → s x ≡ t x) → passing_places s n xs ≡ passing_places t n xs
places_same s t n [] h = refl
places_same s t n (x ∷ xs) h = (λ j. cond (h x j) (n ∷ places_same s t (n + 1) xs h j) (places_same s t (n + 1) xs h j))

-- ---- the tests of shapes are those of polygons

on_is : (ps : List Point) (axis : Axis) (x : RationalPoint) (p : List ℕ) → shape_meets On axis x (shape_of ps p) ≡ on_area ps x p
on_is ps axis x p = ap (λ b. nat_lt 2 (length p) && b) (any_map (side_meets On axis x) (side_between ps) (sides p))

over_is : (ps : List Point) (axis : Axis) (x : RationalPoint) (p : List ℕ) → shape_meets Over axis x (shape_of ps p) ≡ over_polygon ps axis x p
over_is ps axis x p = any_map (side_meets Over axis x) (side_between ps) (sides p)

round_is : (ps : List Point) (axis : Axis) (x : RationalPoint) (p : List ℕ) → shape_round axis x (shape_of ps p) ≡ round_area ps axis x p
round_is ps axis x p =
    ap (λ b. nat_lt 2 (length p) && b)
    (odd_map (side_crosses axis x) (side_between ps) (sides p)
    ∙ sym (odd_is (λ (s : Piece). crosses_ray axis (from_to_rational (point ps s.a) x) (from_to_rational (point ps s.b) x)) (sides p)))

any_shapes : (ps : List Point) (polygons : List (List ℕ)) (os : List Outline) (t : Shape → Bool) (u : List ℕ → Bool) → map shape os ≡ map (shape_of ps) polygons → ((p : List ℕ) → t (shape_of ps p) ≡ u p)
    → list_any (λ o. t (shape o)) os ≡ list_any u polygons
any_shapes ps polygons os t u e h = sym (any_map t shape os) ∙ ap (list_any t) e ∙ any_map t (shape_of ps) polygons ∙ any_same (λ p. t (shape_of ps p)) u polygons h

places_shapes : (ps : List Point) (polygons : List (List ℕ)) (os : List Outline) (t : Shape → Bool) (u : List ℕ → Bool) → map shape os ≡ map (shape_of ps) polygons → ((p : List ℕ) → t (shape_of ps p) ≡ u p)
    → passing_places (λ o. t (shape o)) 0 os ≡ passing_places u 0 polygons
places_shapes ps polygons os t u e h = sym (places_map t shape 0 os) ∙ ap (passing_places t 0) e ∙ places_map t (shape_of ps) 0 polygons ∙ places_same (λ p. t (shape_of ps p)) u 0 polygons h

-- ---- the places of two tests

-- the places of later ones are not those that begin with an earlier one
later_left : {X : Type 0} (t : X → Bool) (n m : ℕ) (rest : List ℕ) (xs : List X) → n < m → pointwise nat_eq (n ∷ rest) (passing_places t m xs) ≡ false
later_left t n m rest [] l = refl
later_left t n m rest (x ∷ xs) l = go (t x) (later_left t n (m + 1) rest xs (omega arith))
  where
    go : (b : Bool) → pointwise nat_eq (n ∷ rest) (passing_places t (m + 1) xs) ≡ false → pointwise nat_eq (n ∷ rest) (cond b (m ∷ passing_places t (m + 1) xs) (passing_places t (m + 1) xs)) ≡ false
    go true e = ap (λ b. b && pointwise nat_eq rest (passing_places t (m + 1) xs)) (ne_eqb n m (let k : n ≢ m = omega arith in k))
    go false e = e

later_right : {X : Type 0} (t : X → Bool) (n m : ℕ) (rest : List ℕ) (xs : List X) → n < m → pointwise nat_eq (passing_places t m xs) (n ∷ rest) ≡ false
later_right t n m rest [] l = refl
later_right t n m rest (x ∷ xs) l = go (t x) (later_right t n (m + 1) rest xs (omega arith))
  where
    go : (b : Bool) → pointwise nat_eq (passing_places t (m + 1) xs) (n ∷ rest) ≡ false → pointwise nat_eq (cond b (m ∷ passing_places t (m + 1) xs) (passing_places t (m + 1) xs)) (n ∷ rest) ≡ false
    go true e = ap (λ b. b && pointwise nat_eq (passing_places t (m + 1) xs) rest) (ne_eqb m n (let k : m ≢ n = omega arith in k))
    go false e = e

-- the same places pass both tests exactly where the tests say the same of each
pub places_alike : {X : Type 0} (s t : X → Bool) (n : ℕ) (xs : List X) → pointwise nat_eq (passing_places s n xs) (passing_places t n xs) ≡ list_all (λ x. same (s x) (t x)) xs
places_alike s t n [] = refl
places_alike s t n (x ∷ xs) = go (s x) (t x) (places_alike s t (n + 1) xs)
  where
    go : (a b : Bool) → pointwise nat_eq (passing_places s (n + 1) xs) (passing_places t (n + 1) xs) ≡ list_all (λ x. same (s x) (t x)) xs
        → pointwise nat_eq (cond a (n ∷ passing_places s (n + 1) xs) (passing_places s (n + 1) xs)) (cond b (n ∷ passing_places t (n + 1) xs) (passing_places t (n + 1) xs)) ≡ (same a b && list_all (λ x. same (s x) (t x)) xs)
    go true true e = ap (λ b. b && pointwise nat_eq (passing_places s (n + 1) xs) (passing_places t (n + 1) xs)) (eq-eqb n n refl) ∙ e
    go true false e = later_left t n (n + 1) (passing_places s (n + 1) xs) xs (omega arith)
    go false true e = later_right s n (n + 1) (passing_places t (n + 1) xs) xs (omega arith)
    go false false e = e

places_any : {X : Type 0} (t : X → Bool) (n : ℕ) (xs : List X) → not (is_none (passing_places t n xs)) ≡ list_any t xs
places_any t n [] = refl
places_any t n (x ∷ xs) = go (t x) (places_any t (n + 1) xs)
  where
    go : (b : Bool) → not (is_none (passing_places t (n + 1) xs)) ≡ list_any t xs → not (is_none (cond b (n ∷ passing_places t (n + 1) xs) (passing_places t (n + 1) xs))) ≡ (b || list_any t xs)
    go true e = refl
    go false e = e

-- ---- hole points

area_alike : (ps : List Point) (axis : Axis) (x y : RationalPoint) (p : List ℕ) → same (round_area ps axis x p) (round_area ps axis y p) ≡ alike_area ps axis x y p
area_alike ps axis x y p = go (nat_lt 2 (length p))
  where
    go : (b : Bool) → same (b && is_round ps axis p x) (b && is_round ps axis p y) ≡ (not b || same (is_round ps axis p x) (is_round ps axis p y))
    go true = refl
    go false = refl

all_same : {X : Type 0} (s t : X → Bool) (xs : List X) → ((x : X) → s x ≡ t x) → list_all s xs ≡ list_all t xs
all_same s t [] h = refl
all_same s t (x ∷ xs) h = (λ j. h x j && all_same s t xs h j)

alike_places : (ps : List Point) (axis : Axis) (f : Facet) (x y : RationalPoint) → pointwise nat_eq (passing_places (round_area ps axis x) 0 f.polygons) (passing_places (round_area ps axis y) 0 f.polygons) ≡ is_round_alike ps axis f x y
alike_places ps axis f x y =
    places_alike (round_area ps axis x) (round_area ps axis y) 0 f.polygons
    ∙ all_same (λ p. same (round_area ps axis x p) (round_area ps axis y p)) (alike_area ps axis x y) f.polygons (area_alike ps axis x y)
    ∙ sym (all_areas (λ p. same (is_round ps axis p x) (is_round ps axis p y)) f.polygons)

none_taken : {X : Type 0} (s t : X → Bool) (xs : List X) → ((x : X) → not (s x) ≡ t x) → not (list_any s xs) ≡ list_all t xs
none_taken s t [] h = refl
none_taken s t (x ∷ xs) h = go (s x) (t x) (h x) (none_taken s t xs h)
  where
    go : (a b : Bool) → not a ≡ b → not (list_any s xs) ≡ list_all t xs → not (a || list_any s xs) ≡ (b && list_all t xs)
    go true true e f = cc
    go true false e f = refl
    go false true e f = f
    go false false e f = cc

not_and : (a b : Bool) → not (not a && b) ≡ (a || not b)
not_and true b = refl
not_and false b = refl

-- ---- the whole

pub prepared_is : (ps : List Point) (f : Facet) (r : Prepared) (a b c : ℕ) (p q s : Point) → Some (a, b, c) ≡ plane ps f → point ps a ≡ p → point ps b ≡ q → point ps c ≡ s
    → r.from ≡ p → r.normal ≡ cross (from_to p q) (from_to p s) → axis_is r.outlines.axis ≡ axis_of r.normal → AreOutlinesOf ps f.polygons r.outlines → AreHoles r.outlines f.holes r.holes → IsPreparedOf ps f r
prepared_is ps f r a b c p q s e ep eq es from normal axis outlines holes = record { blocked = outlines.blocked; holds = holds }
  where
    on : (x : RationalPoint) → outlines_meet On r.outlines x ≡ is_on_side ps f x
    on x =
        any_shapes ps f.polygons r.outlines.each (shape_meets On (axis_is r.outlines.axis) x) (on_area ps x) outlines.shapes (on_is ps (axis_is r.outlines.axis) x)
        ∙ sym (any_areas (λ p. list_any (λ s. is_on_piece ps s x) (sides p)) f.polygons)

    over : (x : RationalPoint) → outlines_meet Over r.outlines x ≡ is_over_side ps (axis_is r.outlines.axis) f x
    over x = any_shapes ps f.polygons r.outlines.each (shape_meets Over (axis_is r.outlines.axis) x) (over_polygon ps (axis_is r.outlines.axis) x) outlines.shapes (over_is ps (axis_is r.outlines.axis) x)

    round : (x : RationalPoint) → places_round r.outlines x ≡ passing_places (round_area ps (axis_is r.outlines.axis) x) 0 f.polygons
    round x = places_shapes ps f.polygons r.outlines.each (shape_round (axis_is r.outlines.axis) x) (round_area ps (axis_is r.outlines.axis) x) outlines.shapes (round_is ps (axis_is r.outlines.axis) x)

    inside : (x : RationalPoint) → not (is_none (places_round r.outlines x)) ≡ list_any (λ p. is_round ps (axis_is r.outlines.axis) p x) (areas f)
    inside x =
        ap (λ n. not (is_none n)) (round x) ∙ places_any (round_area ps (axis_is r.outlines.axis) x) 0 f.polygons
        ∙ sym (any_areas (λ p. is_round ps (axis_is r.outlines.axis) p x) f.polygons)

    kept : (x h : RationalPoint) → not (is_hole_at r.outlines (places_round r.outlines x) h) ≡ keeps ps (axis_is r.outlines.axis) f x h
    kept x h =
        not_and (outlines_meet Over r.outlines h) (pointwise nat_eq (places_round r.outlines x) (places_round r.outlines h))
        ∙ (λ j. over h j || not (((λ i. pointwise nat_eq (round x i) (round h i)) ∙ alike_places ps (axis_is r.outlines.axis) f x h) j))

    off_holes : (x : RationalPoint) → not (list_any (pointwise nat_eq (places_round r.outlines x)) r.holes) ≡ list_all (keeps ps (axis_is r.outlines.axis) f x) f.holes
    off_holes x =
        ap not (holes (places_round r.outlines x))
        ∙ none_taken (is_hole_at r.outlines (places_round r.outlines x)) (keeps ps (axis_is r.outlines.axis) f x) f.holes (kept x)

    within : (x : RationalPoint) → (outlines_meet On r.outlines x || not (is_none (places_round r.outlines x)) && not (list_any (pointwise nat_eq (places_round r.outlines x)) r.holes)) ≡ is_within ps (axis_is r.outlines.axis) f x
    within x = λ j. on x j || inside x j && off_holes x j

    holds : (x : RationalPoint) → prepared_holds r x ≡ in_region ps f x
    holds x =
        (λ j. is_zero (dot (normal j) (from_to_rational (from j) x)) && within x j)
        ∙ ap (λ t. is_zero (dot (cross (from_to p q) (from_to p s)) (from_to_rational p x)) && is_within ps t f x) (axis ∙ ap axis_of normal)
        ∙ sym (region_is ps f x a b c p q s e ep eq es)
