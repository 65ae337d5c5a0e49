-- A facet of one polygon with three corners, where no other point of its plane lies in its region: its one triangle is that of the corners. The
-- centroid is in the region, since a ray from there crosses one side, so some triangle holds it; and the corners of each triangle are in the region.
use Rattle.std.proofs.Common.{◌≡◌, ◌≢◌, ◌⊎◌, inl, inr, ℕ, ◌+◌, ◌-◌, ◌<◌, ◌≤◌, ℤ, pos, ◌+ℤ◌, ◌-ℤ◌, ◌*ℤ◌, ◌<ℤ◌, ◌≤ℤ◌, Bool, true, false, cond, ◌||◌, ◌&&◌, List, [], ◌∷◌, length, refl, ap, sym, subst, ◌∙◌, arith, eqb-true}
use Rattle.std.specs.Prelude.{Result, Ok, Err, IfOk, AllPairs, not, filter, count_by, int_lt, int_le, ◌==◌, ◌%◌}
use Rattle.std.specs.List.{HoldsAt, list_any, slice_index_or}
use Rattle.std.proofs.lemmas.Int.{ints}
use Rattle.exact_algebra.proofs.Ring.{num, var, ring, same, ◌⊕◌, ◌⊖◌, ◌⊗◌}
use Rattle.exact_algebra.proofs.Signs.{by_sign}
use Rattle.sign_predicates.specs.Point.{Point, RationalPoint, from_to_rational, as_rational}
use Rattle.sign_predicates.specs.Orientation.{SpansPlane, cross, dot, normal, side_rational}
use Rattle.geo_laws.specs.Complex.{Polygon, flat_facet}
use Rattle.geo_laws.specs.Delaunay.{point}
use Rattle.geo_laws.specs.Segment.{piece, sides, is_zero, is_zero_vector}
use Rattle.geo_laws.specs.Facet.{Facet, Axis, DropX, DropY, DropZ, first_of_two, second_of_two, cross_of_two, crosses_ray, is_on_piece, is_on_side, is_round, axis_of, in_region, triangle_centroid, corner_numbers, facet_triangles}
use Rattle.geo_laws.specs.declared.complex.Facet.{Facet as StoredFacet}
use Rattle.geo_laws.specs.declared.complex.Piece.{Piece}
use Rattle.geo_laws.specs.declared.complex.FacetTriangle.{FacetTriangle}
use Rattle.geo_laws.proofs.Ascending.{rises-same, none, more}
use Rattle.geo_laws.proofs.Members.{IsMember, here, there, in_cons, contains_of, member_of, both_true}
use Rattle.geo_laws.proofs.Simplices.{corner_in}
use Rattle.facet_laws.specs.Legs.{dropped}
use Rattle.facet_laws.specs.Region.{IsFacetProtected, IsFacetTriangle, through, CornersBefore}
use Rattle.facet_laws.proofs.Circles.{triangle_below}
use Rattle.facet_laws.proofs.FacetRows.{never_both}
use Rattle.facet_laws.proofs.Facets.{steep, plane_spans, region_is, law_triangle_inside, law_region_cover}
use Rattle.facet_laws.proofs.Insides.{middle_plane}
use Rattle.facet_laws.proofs.OnPiece.{zero_test, test_zero}
use Rattle.facet_laws.proofs.SideLaw.{at_least_test, below_test, is_above, is_under}
use Rattle.facet_laws.proofs.Sublist.{rises_of_pairs}
use Rattle.facet_laws.proofs.Threes.{law_facet_list, law_facet_order}
use Rattle.facet_plane.proofs.Boxed.{not_true, not_above, not_under}
use Rattle.facet_plane.proofs.Polygons.{lists_next, lists_none}
use Rattle.facet_plane.specs.Corners.{lists_between}
use Rattle.facet_plane.specs.NearPoints.{AreNumbersNear}
use Rattle.facet_plane.specs.Single.{three_cornered, first_triangle}

-- ---- one polygon

pub three_of : (cs : List ℕ) (a b c : ℕ) → length cs ≡ 3 → slice_index_or cs 0 0 ≡ a → slice_index_or cs 1 0 ≡ b → slice_index_or cs 2 0 ≡ c → cs ≡ a ∷ b ∷ c ∷ []
three_of [] a b c l ea eb ec = absurd (omega arith)
three_of (x ∷ []) a b c l ea eb ec = absurd (omega arith)
three_of (x ∷ y ∷ []) a b c l ea eb ec = absurd (omega arith)
three_of (x ∷ y ∷ z ∷ []) a b c l ea eb ec = λ j. ea j ∷ eb j ∷ ec j ∷ []
three_of (x ∷ y ∷ z ∷ v ∷ cs) a b c l ea eb ec = absurd (omega arith)

pub one_polygon : (polygons : List Polygon) (f : StoredFacet) (cs : List ℕ) (p : ℕ × ℕ × ℕ) → f.past - f.first ≡ 1 → f.first ≤ f.past → f.past ≤ length polygons → HoldsAt (λ q. q.corners ≡ cs) polygons f.first
    → cs ≡ p.0 ∷ p.1 ∷ p.2 ∷ [] → f.holes ≡ [] → flat_facet polygons f ≡ three_cornered p
one_polygon polygons f cs p one order range at are no_holes = λ j. record { polygons = only j; holes = no_holes j }
  where
    only : lists_between polygons f.first f.past ≡ (p.0 ∷ p.1 ∷ p.2 ∷ []) ∷ []
    only = lists_next polygons f.first f.past cs (omega arith) range at ∙ (λ j. are j ∷ lists_none polygons (f.first + 1) f.past (omega arith) j)

-- ---- the vectors from the corners to the centroid, in two coordinates

-- three times the turn from the first corner
abbrev turn_of : ℤ → ℤ → ℤ → ℤ → ℤ → ℤ → ℤ
turn_of a1 a2 b1 b2 c1 c2 = pos 3 *ℤ ((b1 -ℤ a1) *ℤ (c2 -ℤ a2) -ℤ (b2 -ℤ a2) *ℤ (c1 -ℤ a1))

from_a : (a1 a2 b1 b2 c1 c2 : ℤ)
    → (a1 +ℤ b1 +ℤ c1 -ℤ a1 *ℤ pos 3) *ℤ (a2 +ℤ b2 +ℤ c2 -ℤ b2 *ℤ pos 3) -ℤ (a2 +ℤ b2 +ℤ c2 -ℤ a2 *ℤ pos 3) *ℤ (a1 +ℤ b1 +ℤ c1 -ℤ b1 *ℤ pos 3)
    ≡ turn_of a1 a2 b1 b2 c1 c2
unfolding same
from_a a1 a2 b1 b2 c1 c2 =
    ring ((var 0 ⊕ var 2 ⊕ var 4 ⊖ var 0 ⊗ num (pos 3)) ⊗ (var 1 ⊕ var 3 ⊕ var 5 ⊖ var 3 ⊗ num (pos 3)) ⊖ (var 1 ⊕ var 3 ⊕ var 5 ⊖ var 1 ⊗ num (pos 3)) ⊗ (var 0 ⊕ var 2 ⊕ var 4 ⊖ var 2 ⊗ num (pos 3)))
    (num (pos 3) ⊗ ((var 2 ⊖ var 0) ⊗ (var 5 ⊖ var 1) ⊖ (var 3 ⊖ var 1) ⊗ (var 4 ⊖ var 0))) tt (a1 ∷ a2 ∷ b1 ∷ b2 ∷ c1 ∷ c2 ∷ [])

from_b : (a1 a2 b1 b2 c1 c2 : ℤ)
    → (a1 +ℤ b1 +ℤ c1 -ℤ b1 *ℤ pos 3) *ℤ (a2 +ℤ b2 +ℤ c2 -ℤ c2 *ℤ pos 3) -ℤ (a2 +ℤ b2 +ℤ c2 -ℤ b2 *ℤ pos 3) *ℤ (a1 +ℤ b1 +ℤ c1 -ℤ c1 *ℤ pos 3)
    ≡ turn_of a1 a2 b1 b2 c1 c2
unfolding same
from_b a1 a2 b1 b2 c1 c2 =
    ring ((var 0 ⊕ var 2 ⊕ var 4 ⊖ var 2 ⊗ num (pos 3)) ⊗ (var 1 ⊕ var 3 ⊕ var 5 ⊖ var 5 ⊗ num (pos 3)) ⊖ (var 1 ⊕ var 3 ⊕ var 5 ⊖ var 3 ⊗ num (pos 3)) ⊗ (var 0 ⊕ var 2 ⊕ var 4 ⊖ var 4 ⊗ num (pos 3)))
    (num (pos 3) ⊗ ((var 2 ⊖ var 0) ⊗ (var 5 ⊖ var 1) ⊖ (var 3 ⊖ var 1) ⊗ (var 4 ⊖ var 0))) tt (a1 ∷ a2 ∷ b1 ∷ b2 ∷ c1 ∷ c2 ∷ [])

from_c : (a1 a2 b1 b2 c1 c2 : ℤ)
    → (a1 +ℤ b1 +ℤ c1 -ℤ c1 *ℤ pos 3) *ℤ (a2 +ℤ b2 +ℤ c2 -ℤ a2 *ℤ pos 3) -ℤ (a2 +ℤ b2 +ℤ c2 -ℤ c2 *ℤ pos 3) *ℤ (a1 +ℤ b1 +ℤ c1 -ℤ a1 *ℤ pos 3)
    ≡ turn_of a1 a2 b1 b2 c1 c2
unfolding same
from_c a1 a2 b1 b2 c1 c2 =
    ring ((var 0 ⊕ var 2 ⊕ var 4 ⊖ var 4 ⊗ num (pos 3)) ⊗ (var 1 ⊕ var 3 ⊕ var 5 ⊖ var 1 ⊗ num (pos 3)) ⊖ (var 1 ⊕ var 3 ⊕ var 5 ⊖ var 5 ⊗ num (pos 3)) ⊗ (var 0 ⊕ var 2 ⊕ var 4 ⊖ var 0 ⊗ num (pos 3)))
    (num (pos 3) ⊗ ((var 2 ⊖ var 0) ⊗ (var 5 ⊖ var 1) ⊖ (var 3 ⊖ var 1) ⊗ (var 4 ⊖ var 0))) tt (a1 ∷ a2 ∷ b1 ∷ b2 ∷ c1 ∷ c2 ∷ [])

level_three : (a b c : ℤ) → (a +ℤ b +ℤ c -ℤ a *ℤ pos 3) +ℤ (a +ℤ b +ℤ c -ℤ b *ℤ pos 3) +ℤ (a +ℤ b +ℤ c -ℤ c *ℤ pos 3) ≡ pos 0
level_three a b c = omega (arith, ints)

-- vectors that turn alike from each to the next, and by their second coordinates lead back
record Spokes (axis : Axis) (u v w : Point) : Type 0 where
  turn : ℤ
  first : cross_of_two axis u v ≡ turn
  second : cross_of_two axis v w ≡ turn
  third : cross_of_two axis w u ≡ turn
  some : turn ≢ pos 0
  level : second_of_two axis u +ℤ second_of_two axis v +ℤ second_of_two axis w ≡ pos 0

third_of : (n : ℤ) → pos 3 *ℤ n ≡ pos 0 → n ≡ pos 0
third_of n e = omega (arith, ints)

back_of : (m n : ℤ) → pos 3 *ℤ (m -ℤ n) ≡ pos 0 → n -ℤ m ≡ pos 0
back_of m n e = omega (arith, ints)

spokes : (axis : Axis) (a b c : Point) → dropped axis (normal (record { a = a; b = b; c = c })) ≢ pos 0
    → Spokes axis (from_to_rational a (triangle_centroid a b c)) (from_to_rational b (triangle_centroid a b c)) (from_to_rational c (triangle_centroid a b c))
spokes DropX a b c off = record {
  turn = turn_of a.y a.z b.y b.z c.y c.z;
  first = from_a a.y a.z b.y b.z c.y c.z;
  second = from_b a.y a.z b.y b.z c.y c.z;
  third = from_c a.y a.z b.y b.z c.y c.z;
  some = λ e. off (third_of _ e);
  level = level_three a.z b.z c.z;
}
spokes DropY a b c off = record {
  turn = turn_of a.x a.z b.x b.z c.x c.z;
  first = from_a a.x a.z b.x b.z c.x c.z;
  second = from_b a.x a.z b.x b.z c.x c.z;
  third = from_c a.x a.z b.x b.z c.x c.z;
  some = λ e. off (back_of ((b.x -ℤ a.x) *ℤ (c.z -ℤ a.z)) ((b.z -ℤ a.z) *ℤ (c.x -ℤ a.x)) e);
  level = level_three a.z b.z c.z;
}
spokes DropZ a b c off = record {
  turn = turn_of a.x a.y b.x b.y c.x c.y;
  first = from_a a.x a.y b.x b.y c.x c.y;
  second = from_b a.x a.y b.x b.y c.x c.y;
  third = from_c a.x a.y b.x b.y c.x c.y;
  some = λ e. off (third_of _ e);
  level = level_three a.y b.y c.y;
}

-- ---- a ray from there crosses one side

-- the test of a side, by those of its ends and of the turn
abbrev crossed : Bool → Bool → Bool → Bool → Bool
crossed a b left right = (a && not b && left) || (b && not a && right)

abbrev one_in_three : Bool → Bool → Bool → Bool → Bool → Type 0
one_in_three a b c left right = count_by (λ t. t) (crossed a b left right ∷ crossed b c left right ∷ crossed c a left right ∷ []) ≡ 1

one_left : (a b c : Bool) → (a ≡ true → b ≡ true → c ≡ true → ⊥) → (a ≡ false → b ≡ false → c ≡ false → ⊥) → one_in_three a b c true false
one_left true true true h k = absurd (h refl refl refl)
one_left true true false h k = refl
one_left true false true h k = refl
one_left true false false h k = refl
one_left false true true h k = refl
one_left false true false h k = refl
one_left false false true h k = refl
one_left false false false h k = absurd (k refl refl refl)

one_right : (a b c : Bool) → (a ≡ true → b ≡ true → c ≡ true → ⊥) → (a ≡ false → b ≡ false → c ≡ false → ⊥) → one_in_three a b c false true
one_right true true true h k = absurd (h refl refl refl)
one_right true true false h k = refl
one_right true false true h k = refl
one_right true false false h k = refl
one_right false true true h k = refl
one_right false true false h k = refl
one_right false false true h k = refl
one_right false false false h k = absurd (k refl refl refl)

-- of numbers that are at least 0 and have the sum 0 each is 0
none_above : (a b c : ℤ) → a +ℤ b +ℤ c ≡ pos 0 → pos 0 ≤ℤ a → pos 0 ≤ℤ b → pos 0 ≤ℤ c → (a ≡ pos 0) × (b ≡ pos 0)
none_above a b c e h k l = (omega (arith, ints), omega (arith, ints))

not_below : (a b c : ℤ) → a +ℤ b +ℤ c ≡ pos 0 → a <ℤ pos 0 → b <ℤ pos 0 → c <ℤ pos 0 → ⊥
not_below a b c e h k l = omega (arith, ints)

flat_turn : (m n a b : ℤ) → a ≡ pos 0 → b ≡ pos 0 → m *ℤ b -ℤ a *ℤ n ≡ pos 0
flat_turn m n a b e f = (λ j. m *ℤ f j -ℤ e j *ℤ n) ∙ nothing m n
  where
    nothing : (m n : ℤ) → m *ℤ pos 0 -ℤ pos 0 *ℤ n ≡ pos 0
    nothing m n = omega (arith, ints)

ray_is : (axis : Axis) (u v : Point) (turn : ℤ) → cross_of_two axis u v ≡ turn
    → crosses_ray axis u v ≡ crossed (int_le (pos 0) (second_of_two axis u)) (int_le (pos 0) (second_of_two axis v)) (int_lt (pos 0) turn) (int_lt turn (pos 0))
ray_is axis u v turn e = λ j. crossed (int_le (pos 0) (second_of_two axis u)) (int_le (pos 0) (second_of_two axis v)) (int_lt (pos 0) (e j)) (int_lt (e j) (pos 0))

one_ray : (axis : Axis) (u v w : Point) → Spokes axis u v w → count_by (λ t. t) (crosses_ray axis u v ∷ crosses_ray axis v w ∷ crosses_ray axis w u ∷ []) ≡ 1
one_ray axis u v w s =
    (λ j. count_by (λ t. t) (ray_is axis u v s.turn s.first j ∷ ray_is axis v w s.turn s.second j ∷ ray_is axis w u s.turn s.third j ∷ []))
    ∙ by_sign s.turn
    (λ h. (λ j. one_with (not_above s.turn h j) (is_under s.turn h j)) ∙ one_right a b c some_below some_above)
    (λ e. absurd (s.some e))
    (λ h. (λ j. one_with (is_above s.turn h j) (not_under s.turn h j)) ∙ one_left a b c some_below some_above)
  where
    a : Bool
    a = int_le (pos 0) (second_of_two axis u)

    b : Bool
    b = int_le (pos 0) (second_of_two axis v)

    c : Bool
    c = int_le (pos 0) (second_of_two axis w)

    one_with : Bool → Bool → ℕ
    one_with left right = count_by (λ t. t) (crossed a b left right ∷ crossed b c left right ∷ crossed c a left right ∷ [])

    some_below : a ≡ true → b ≡ true → c ≡ true → ⊥
    some_below ea eb ec =
        let z = none_above (second_of_two axis u) (second_of_two axis v) (second_of_two axis w) s.level (at_least_test _ ea) (at_least_test _ eb) (at_least_test _ ec) in
        s.some (sym s.first ∙ flat_turn (first_of_two axis u) (first_of_two axis v) (second_of_two axis u) (second_of_two axis v) z.0 z.1)

    some_above : a ≡ false → b ≡ false → c ≡ false → ⊥
    some_above ea eb ec = not_below (second_of_two axis u) (second_of_two axis v) (second_of_two axis w) s.level (below_test _ ea) (below_test _ eb) (below_test _ ec)

-- ---- the centroid is in the region

differ_test : (a b : ℕ) → a ≢ b → not (a == b) ≡ true
differ_test a b n = go (a == b) refl
  where
    go : (t : Bool) → (a == b) ≡ t → not t ≡ true
    go true e = absurd (n (eqb-true a b e))
    go false e = refl

kept_first : {X : Type 0} (test : X → Bool) (x : X) (xs ys : List X) → test x ≡ true → filter test xs ≡ ys → filter test (x ∷ xs) ≡ x ∷ ys
kept_first test x xs ys e f = λ j. cond (e j) (x ∷ f j) (f j)

three_sides : (a b c : ℕ) → a ≢ b → b ≢ c → c ≢ a → sides (a ∷ b ∷ c ∷ []) ≡ piece a b 0 ∷ piece b c 0 ∷ piece c a 0 ∷ []
three_sides a b c ab bc ca =
    kept_first has_ends (piece a b 0) (piece b c 0 ∷ piece c a 0 ∷ []) (piece b c 0 ∷ piece c a 0 ∷ []) (differ_test a b ab)
    (kept_first has_ends (piece b c 0) (piece c a 0 ∷ []) (piece c a 0 ∷ []) (differ_test b c bc) (kept_first has_ends (piece c a 0) [] [] (differ_test c a ca) refl))
  where
    has_ends : Piece → Bool
    has_ends s = not (s.a == s.b)

-- the ends of a side that turns differ, and the point that it turns round is not on it
turned_apart : (axis : Axis) (u v : Point) (turn : ℤ) → cross_of_two axis u v ≡ turn → turn ≢ pos 0 → u ≢ v
turned_apart axis u v turn e some same = some (sym e ∙ (λ j. cross_of_two axis u (sym same j)) ∙ alone (first_of_two axis u) (second_of_two axis u))
  where
    alone : (m n : ℤ) → m *ℤ n -ℤ n *ℤ m ≡ pos 0
    alone m n = omega (arith, ints)

flat_cross : (axis : Axis) (u v : Point) → is_zero_vector (cross u v) ≡ true → cross_of_two axis u v ≡ pos 0
flat_cross axis u v e = go axis (zero_test (cross u v).x r.0) (zero_test (cross u v).y r.1) (zero_test (cross u v).z q.1)
  where
    q : (is_zero (cross u v).x && is_zero (cross u v).y ≡ true) × (is_zero (cross u v).z ≡ true)
    q = both_true (is_zero (cross u v).x && is_zero (cross u v).y) (is_zero (cross u v).z) e

    r : (is_zero (cross u v).x ≡ true) × (is_zero (cross u v).y ≡ true)
    r = both_true (is_zero (cross u v).x) (is_zero (cross u v).y) q.0

    back : (m n : ℤ) → m -ℤ n ≡ pos 0 → n -ℤ m ≡ pos 0
    back m n h = omega (arith, ints)

    go : (axis : Axis) → (cross u v).x ≡ pos 0 → (cross u v).y ≡ pos 0 → (cross u v).z ≡ pos 0 → cross_of_two axis u v ≡ pos 0
    go DropX x y z = x
    go DropY x y z = back (u.z *ℤ v.x) (u.x *ℤ v.z) y
    go DropZ x y z = z

off_side : (axis : Axis) (u v : Point) (turn : ℤ) → cross_of_two axis u v ≡ turn → turn ≢ pos 0 → (is_zero_vector (cross u v) && int_le (dot u v) (pos 0)) ≡ false
off_side axis u v turn e some = not_true _ (λ t. some (sym e ∙ flat_cross axis u v (both_true (is_zero_vector (cross u v)) (int_le (dot u v) (pos 0)) t).0))

-- what is known of the centroid of the corners
record IsMiddle (ps : List Point) (axis : Axis) (p : ℕ × ℕ × ℕ) : Type 0 where
  off : is_on_side ps (three_cornered p) (triangle_centroid (point ps p.0) (point ps p.1) (point ps p.2)) ≡ false
  round : is_round ps axis (p.0 ∷ p.1 ∷ p.2 ∷ []) (triangle_centroid (point ps p.0) (point ps p.1) (point ps p.2)) ≡ true

middle_is : (ps : List Point) (axis : Axis) (p : ℕ × ℕ × ℕ) → dropped axis (normal (through ps p)) ≢ pos 0 → IsMiddle ps axis p
middle_is ps axis p over = record {
  off = (λ j. (list_any on (around j) || false)) ∙ (λ j. ((offs p.0 p.1 s.first j || (offs p.1 p.2 s.second j || (offs p.2 p.0 s.third j || false))) || false));
  round = (λ j. count_by crosses (around j) % 2 == 1) ∙ (λ j. one_ray axis (u p.0) (u p.1) (u p.2) s j % 2 == 1);
}
  where
    x : RationalPoint
    x = triangle_centroid (point ps p.0) (point ps p.1) (point ps p.2)

    u : ℕ → Point
    u i = from_to_rational (point ps i) x

    on : Piece → Bool
    on r = is_on_piece ps r x

    crosses : Piece → Bool
    crosses r = crosses_ray axis (u r.a) (u r.b)

    s : Spokes axis (u p.0) (u p.1) (u p.2)
    s = spokes axis (point ps p.0) (point ps p.1) (point ps p.2) over

    apart : (i j : ℕ) → cross_of_two axis (u i) (u j) ≡ s.turn → i ≢ j
    apart i j e f = turned_apart axis (u i) (u j) s.turn e s.some (ap u f)

    around : sides (p.0 ∷ p.1 ∷ p.2 ∷ []) ≡ piece p.0 p.1 0 ∷ piece p.1 p.2 0 ∷ piece p.2 p.0 0 ∷ []
    around = three_sides p.0 p.1 p.2 (apart p.0 p.1 s.first) (apart p.1 p.2 s.second) (apart p.2 p.0 s.third)

    offs : (i j : ℕ) → cross_of_two axis (u i) (u j) ≡ s.turn → on (piece i j 0) ≡ false
    offs i j e = off_side axis (u i) (u j) s.turn e s.some

-- ---- the triangles

-- each triangle of the facet has its corners among the points of its region
corners_near : (ps : List Point) (number : ℕ) (facet : Facet) (p : ℕ × ℕ × ℕ) (ns : List ℕ) (t : FacetTriangle) → IsFacetProtected ps facet p → AreNumbersNear ps facet p ns → IsFacetTriangle ps number facet t
    → (i : ℕ) → IsMember i (corner_numbers t) → IsMember i ns
corners_near ps number facet p ns t protected near f i m =
    member_of ns i (near.region i (triangle_below t (length ps) f.first f.second f.on_list i m)
    (law_triangle_inside ps number facet p t protected f (as_rational (point ps i)) (omega (arith, ints)) (corner_in ps (corner_numbers t) i m)))

-- three rising numbers among three rising numbers
same_three : (a b c x y z : ℕ) → a < b → b < c → x < y → y < z → (a ≡ x) ⊎ ((a ≡ y) ⊎ (a ≡ z)) → (b ≡ x) ⊎ ((b ≡ y) ⊎ (b ≡ z)) → (c ≡ x) ⊎ ((c ≡ y) ⊎ (c ≡ z)) → (a ≡ x) × (b ≡ y) × (c ≡ z)
same_three a b c x y z ab bc xy yz ha hb hc = (grind arith, grind arith, grind arith)

among_three : (i x y z : ℕ) → IsMember i (x ∷ y ∷ z ∷ []) → (i ≡ x) ⊎ ((i ≡ y) ⊎ (i ≡ z))
among_three i x y z here = inl refl
among_three i x y z (there here) = inr (inl refl)
among_three i x y z (there (there here)) = inr (inr refl)
among_three i x y z (there (there (there m))) = elim m [ ]

is_first : (number : ℕ) (ns : List ℕ) (t : FacetTriangle) → length ns ≡ 3 → AllPairs ◌<◌ ns → t.facet ≡ number → t.a < t.b → t.b < t.c → ((i : ℕ) → IsMember i (corner_numbers t) → IsMember i ns) → t ≡ first_triangle number ns
is_first number [] t l rising facet first second on = absurd (omega arith)
is_first number (x ∷ []) t l rising facet first second on = absurd (omega arith)
is_first number (x ∷ y ∷ []) t l rising facet first second on = absurd (omega arith)
is_first number (x ∷ y ∷ z ∷ []) t l rising facet first second on =
    let e = same_three t.a t.b t.c x y z first second (rising 0 1 0 (omega arith) (omega arith)) (rising 1 2 0 (omega arith) (omega arith))
    (among_three t.a x y z (on t.a here)) (among_three t.b x y z (on t.b (there here))) (among_three t.c x y z (on t.c (there (there here)))) in
    λ j. record { facet = facet j; a = e.0 j; b = e.1 j; c = e.2 j }
is_first number (x ∷ y ∷ z ∷ v ∷ ns) t l rising facet first second on = absurd (omega arith)

-- where only the corners are near, their triangle is the facet's
pub one_triangle_is : (ps : List Point) (number : ℕ) (p : ℕ × ℕ × ℕ) (ns : List ℕ) → IsFacetProtected ps (three_cornered p) p → AreNumbersNear ps (three_cornered p) p ns → length ns ≡ 3
    → first_triangle number ns ∷ [] ≡ facet_triangles ps number (three_cornered p)
one_triangle_is ps number p ns protected near three =
    rises-same CornersBefore never_both (first_triangle number ns ∷ []) (facet_triangles ps number (three_cornered p)) (more (λ y m. elim m [ ]) none)
    (rises_of_pairs CornersBefore (facet_triangles ps number (three_cornered p)) (law_facet_order ps number (three_cornered p))) to from
  where
    spans : SpansPlane (through ps p)
    spans = plane_spans ps (three_cornered p) p protected.has_plane

    x : RationalPoint
    x = triangle_centroid (point ps p.0) (point ps p.1) (point ps p.2)

    is_middle : IsMiddle ps (axis_of (normal (through ps p))) p
    is_middle = middle_is ps (axis_of (normal (through ps p))) p (steep (normal (through ps p)) spans)

    inside : in_region ps (three_cornered p) x ≡ true
    inside =
        region_is ps (three_cornered p) p x protected.has_plane
        ∙ (λ j. test_zero (side_rational (through ps p) x) (middle_plane ps (record { facet = 0; a = p.0; b = p.1; c = p.2 })) j && (is_middle.off j || ((is_middle.round j || false) && true)))

    all_same : (t : FacetTriangle) → IsFacetTriangle ps number (three_cornered p) t → t ≡ first_triangle number ns
    all_same t f = is_first number ns t three near.numbers.rising f.of_facet f.first f.second (corners_near ps number (three_cornered p) p ns t protected near f)

    to : (t : FacetTriangle) → IsMember t (first_triangle number ns ∷ []) → IsMember t (facet_triangles ps number (three_cornered p))
    to t m =
        let some = law_region_cover ps number (three_cornered p) p protected x (omega (arith, ints)) inside is_middle.off in
        subst (λ s. IsMember s (facet_triangles ps number (three_cornered p))) (all_same some.0 some.1 ∙ sym (same t (in_cons t _ [] m)))
        (member_of (facet_triangles ps number (three_cornered p)) some.0 ((law_facet_list ps number (three_cornered p) some.0).1 some.1))
      where
        same : (t : FacetTriangle) → (t ≡ first_triangle number ns) ⊎ IsMember t [] → t ≡ first_triangle number ns
        same t (inl e) = e
        same t (inr m) = elim m [ ]

    from : (t : FacetTriangle) → IsMember t (facet_triangles ps number (three_cornered p)) → IsMember t (first_triangle number ns ∷ [])
    from t m =
        let f = (law_facet_list ps number (three_cornered p) t).0 (contains_of (facet_triangles ps number (three_cornered p)) t m) in
        subst (λ s. IsMember s (first_triangle number ns ∷ [])) (sym (all_same t f)) here

-- and so it is where the facet of the code is that one
pub answer_is : {E : Type 0} (P : List FacetTriangle → Type 0) (ps : List Point) (number : ℕ) (f : Facet) (p : ℕ × ℕ × ℕ) (ns : List ℕ) (r : Result (List FacetTriangle) E) → f ≡ three_cornered p → IsFacetProtected ps f p
    → AreNumbersNear ps f p ns → length ns ≡ 3 → ((ts : List FacetTriangle) → ts ≡ facet_triangles ps number f → P ts) → IfOk r (λ ts. ts ≡ first_triangle number ns ∷ []) → IfOk r P
answer_is P ps number f p ns (Ok ts) is protected near three give made =
    give ts (made ∙ one_triangle_is ps number p ns (subst (λ g. IsFacetProtected ps g p) is protected) (subst (λ g. AreNumbersNear ps g p ns) is near) three ∙ ap (facet_triangles ps number) (sym is))
answer_is P ps number f p ns (Err e) is protected near three give made = tt
