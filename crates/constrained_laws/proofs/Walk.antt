-- A walk along a line of sight, on which each tetrahedron that is entered has a point in its circumsphere. Each step leaves the plane of a
-- face behind that separated the ends, so the walk ends (visibility walk; Devillers, Pion and Teillaud, 2002).
use Rattle.std.proofs.Common.{◌≡◌, ◌≢◌, ◌⊎◌, inl, inr, ℕ, zero, suc, ◌+◌, ◌<◌, ℤ, pos, ◌+ℤ◌, ◌<ℤ◌, ◌≤ℤ◌, Bool, true, false, ◌&&◌, List, refl, ap, sym, subst, ◌∙◌, arith, eqb-true}
use Rattle.std.specs.Prelude.{Contains, IsTrue, count_by, int_lt, not, filter, ◌==◌}
use Rattle.std.specs.List.{slice_index_or}
use Rattle.std.proofs.lemmas.Int.{ints}
use Rattle.std.proofs.lemmas.List.Elements.{All-contains}
use Rattle.exact_algebra.proofs.Signs.{by_sign, mul_neg, mul_nonneg, pos_of_mul, pos_of_test, test_pos, neg_of_test, test_neg, pos_not_neg, neg_of_negated}
use Rattle.sign_predicates.specs.Point.{Point, RationalPoint, EachRational, as_rational}
use Rattle.sign_predicates.specs.Orientation.{StrictlyInside}
use Rattle.geo_laws.specs.Delaunay.{point, corners, numbers, is_outside_of}
use Rattle.geo_laws.specs.Hull.{IsBeyondHull, OffPlanes}
use Rattle.geo_laws.specs.Simplex.{has_number}
use Rattle.geo_laws.specs.Faces.{row_faces, face_numbers}
use Rattle.geo_laws.specs.Facet.{LiesInSome}
use Rattle.geo_laws.specs.Mesh.{IsOutsideOf, IsLocallyDelaunay}
use Rattle.geo_laws.specs.Path.{IsOnLeg, IsOnRowSide}
use Rattle.geo_laws.specs.declared.faces.Face.{Face}
use Rattle.geo_laws.specs.declared.tetrahedra.Tet.{Tet}
use Rattle.geo_laws.specs.declared.complex.FacetTriangle.{FacetTriangle}
use Rattle.sign_predicates.proofs.Places.{Place, IsOther, same_or_other, opposite}
use Rattle.geo_laws.proofs.Places.{number, each_or_not}
use Rattle.geo_laws.proofs.Determinants.{side_rational-as_rational}
use Rattle.geo_laws.proofs.Members.{IsMember, Found, found_of, member_of, contains_of, in_filter, some_true, both_true}
use Rattle.geo_laws.proofs.Corners.{IsCorner, on_corner, member_corner}
use Rattle.geo_laws.proofs.Heights.{above_or_not}
use Rattle.geo_laws.proofs.Ties.{order}
use Rattle.geo_laws.proofs.RowFaces.{face_at, has_face, in_face, of_face}
use Rattle.geo_laws.proofs.Radical.{SidesMean}
use Rattle.path_laws.specs.Places.{IsFilling}
use Rattle.path_laws.specs.KeptMesh.{IsWholeMesh}
use Rattle.path_laws.proofs.Counts.{count_less}
use Rattle.path_laws.proofs.Signs.{natural, neg_up, pos_of_nat, sum_least}
use Rattle.path_laws.proofs.Forms.{Form, mix, value-mix, mix_on_leg, value-combined, KeepsSide, Near, near, near_point}
use Rattle.path_laws.proofs.Means.{at, mean_least}
use Rattle.path_laws.proofs.Rows.{wall, wall_least, place_of, inside_at, inside_by, mean_of, closed_of, positive_row, on_row}
use Rattle.path_laws.proofs.Clear.{face_closed, HasAllBehind, hull_behind}
use Rattle.path_laws.proofs.OnePlace.{planes_of, in_planes, off_at, near_off, closed_near, in_hull, row_or_beyond}
use Rattle.path_laws.proofs.Opposite.{holds_face, same_on}
use Rattle.path_laws.proofs.ExitPoint.{ExitPoint, exit_point}
use Rattle.path_laws.proofs.Walk.{leg_part}
use Rattle.path_laws.proofs.General.{Follows}
use Rattle.path_laws.proofs.Crossings.{LegMissesFacets, follows_back}
use Rattle.path_laws.proofs.Chains.{no_facet_of}
use Rattle.path_laws.proofs.Far.{Separates, separated}
use Rattle.constrained_laws.proofs.Across.{IsInSphere, still_in}

-- the list contains a number that it has
pub number_in : (s : List ℕ) (i : ℕ) → has_number s i ≡ true → Contains s i
number_in s i e = let k = some_true (λ j. j == i) s e in subst (Contains s) (eqb-true k.0 i k.2) (contains_of s k.0 k.1)

-- ---- two tetrahedra of a whole mesh

-- across a common face in no facet each corner of the second that is none of the first is outside of the first
outside_across : (ps : List Point) (ts : List FacetTriangle) (rows : List Tet) → IsWholeMesh ps ts rows → (s t : Tet) → Contains rows s → Contains rows t → s ≢ t
    → (face : Face) → Contains (row_faces s) face → Contains (row_faces t) face → ¬ LiesInSome ps ts face → IsOutsideOf ps s t
outside_across ps ts rows whole s t in_s in_t differ face has_s has_t none = go (found_of rows s (member_of rows s in_s)) (found_of rows t (member_of rows t in_t))
  where
    LocalAt : Tet → Tet → Type 0
    LocalAt u v = Contains (row_faces u) face → Contains (row_faces v) face → ¬ LiesInSome ps ts face → IsLocallyDelaunay ps u v

    pair : (u v : Tet) (f : Found rows u) (g : Found rows v) → f.place < g.place → LocalAt u v
    pair u v f g l = subst (λ q. LocalAt u q) (g.is u) (subst (λ q. LocalAt q (slice_index_or rows g.place u)) (f.is u) (λ a b c. whole.locally_delaunay f.place g.place u l g.within face a b c))

    by : (f : Found rows s) (g : Found rows t) → (f.place < g.place) ⊎ ((f.place ≡ g.place) ⊎ (g.place < f.place)) → IsOutsideOf ps s t
    by f g (inl l) = (pair s t f g l has_s has_t none).0
    by f g (inr (inl e)) = absurd (differ (sym (f.is s) ∙ (λ j. slice_index_or rows (e j) s) ∙ g.is s))
    by f g (inr (inr l)) = (pair t s g f l has_t has_s none).1

    go : Found rows s → Found rows t → IsOutsideOf ps s t
    go f g = by f g (order f.place g.place)

-- two tetrahedra on the two sides of a common face in no facet
record AreAcross (ps : List Point) (ts : List FacetTriangle) (rows : List Tet) (s t : Tet) (u w : Place) : Type 0 where
  first : Contains rows s
  second : Contains rows t
  differ : s ≢ t
  face : face_at s u ≡ face_at t w
  in_none : ¬ LiesInSome ps ts (face_at s u)

-- the corners of the face are corners of the first
face_corner : (ps : List Point) (ts : List FacetTriangle) (rows : List Tet) (s t : Tet) (u w : Place) → AreAcross ps ts rows s t u w → (v : Place) → IsOther v w → IsCorner s (number t v)
face_corner ps ts rows s t u w a v o = let k = of_face s u (number t v) (subst (λ f. IsMember (number t v) (face_numbers f)) (sym a.face) (in_face t w v o)) in (k.0, k.2)

-- a point inside the second is beyond the face, so the second one's further corner is none of the first
further_corner : (ps : List Point) (ts : List FacetTriangle) (rows : List Tet) → IsFilling ps ts rows → (s t : Tet) (u w : Place) → AreAcross ps ts rows s t u w
    → (x : RationalPoint) → pos 0 <ℤ x.w → StrictlyInside (corners ps t) x → (wall ps s u).value x <ℤ pos 0 → ¬ Contains (numbers s) (number t w)
further_corner ps ts rows fill s t u w a x xw inside below own = clash _ (mean_least ps (wall ps s u) (numbers t) m.weight x xw m.mean least) below
  where
    m : SidesMean ps t x
    m = mean_of ps t x xw (positive_row ps ts rows fill t a.second) (closed_of ps t x inside)

    clash : (n : ℤ) → pos 0 ≤ℤ n → n <ℤ pos 0 → ⊥
    clash n h k = omega (arith, ints)

    corner : (v : Place) → (v ≡ w) ⊎ IsOther v w → IsMember (number t v) (numbers s)
    corner v (inl e) = subst (λ q. IsMember (number t q) (numbers s)) (sym e) (member_of (numbers s) (number t w) own)
    corner v (inr o) = let k = face_corner ps ts rows s t u w a v o in subst (λ n. IsMember n (numbers s)) (sym k.1) (member_corner s k.0)

    least : (i : ℕ) → IsMember i (numbers t) → pos 0 ≤ℤ at (wall ps s u) ps i
    least i n = let v = place_of t i n in wall_least ps s u (positive_row ps ts rows fill s a.first) i (subst (λ j. IsMember j (numbers s)) (sym v.1) (corner v.0 (same_or_other v.0 w)))

-- so a point on the second one's side of the face that is in the first one's circumsphere is in the second one's
enters : (ps : List Point) (ts : List FacetTriangle) (rows : List Tet) → IsWholeMesh ps ts rows → (s t : Tet) (u w : Place) → AreAcross ps ts rows s t u w → ¬ Contains (numbers s) (number t w)
    → (i : ℕ) → pos 0 ≤ℤ at (wall ps t w) ps i → IsInSphere ps s i → IsInSphere ps t i
enters ps ts rows whole s t u w a none i least below =
    still_in ps s t w (positive_row ps ts rows whole.filling s a.first) (positive_row ps ts rows whole.filling t a.second) (face_corner ps ts rows s t u w a)
    (on_row ps ts rows whole.filling s a.first) (on_corner ps t (on_row ps ts rows whole.filling t a.second) w) none outside i
    (subst (λ n. pos 0 ≤ℤ n) (side_rational-as_rational (opposite (corners ps t) w) (point ps i)) least) below
  where
    other : ℕ → Bool
    other j = not (has_number (numbers s) j)

    is_other : (b : Bool) → has_number (numbers s) (number t w) ≡ b → not (has_number (numbers s) (number t w)) ≡ true
    is_other true e = absurd (none (number_in (numbers s) (number t w) e))
    is_other false e = ap not e

    outside : IsTrue (is_outside_of ps s (number t w))
    outside =
        All-contains (λ j. IsTrue (is_outside_of ps s j)) (filter (λ j. not (has_number (numbers s) j)) (numbers t)) (number t w)
        (outside_across ps ts rows whole s t a.first a.second a.differ (face_at s u) (has_face s u) (subst (Contains (row_faces t)) (sym a.face) (has_face t w)) a.in_none)
        (contains_of _ (number t w) (in_filter (λ j. not (has_number (numbers s) j)) (number t w) (numbers t) (member_corner t w) (is_other _ refl)))

-- ---- a line of sight

-- near the point with this number, by the sides of all face planes; and behind each plane that has all points behind it
pub record IsBeside (ps : List Point) (rows : List Tet) (i : ℕ) (y : RationalPoint) : Type 0 where
  pub weight : pos 0 <ℤ y.w
  pub off : OffPlanes ps rows y
  pub follows : (g : Form) → IsMember g (planes_of ps rows) → Follows g (as_rational (point ps i)) y
  pub behind : (g : Form) → HasAllBehind ps g → pos 0 ≤ℤ g.value y

-- from a point strictly inside the tetrahedron a leg that meets no facet and no side
pub record IsSight (ps : List Point) (ts : List FacetTriangle) (rows : List Tet) (s : Tet) (x y : RationalPoint) : Type 0 where
  pub listed : Contains rows s
  pub weight : pos 0 <ℤ x.w
  pub inside : StrictlyInside (corners ps s) x
  pub off_facets : LegMissesFacets ps ts x y
  pub off_sides : EachRational (λ p. IsOnLeg x y p → ¬ IsOnRowSide ps rows p)

-- a tetrahedron that strictly holds y, and in whose circumsphere the point with the number i is
pub record Arrival (ps : List Point) (rows : List Tet) (i : ℕ) (y : RationalPoint) : Type 0 where
  pub row : Tet
  pub listed : Contains rows row
  pub inside : StrictlyInside (corners ps row) y
  pub in_sphere : IsInSphere ps row i

-- ---- the planes that the leg is still to leave behind

ahead : RationalPoint → RationalPoint → Form → Bool
ahead x y g = int_lt (pos 0) (g.value x) && int_lt (g.value y) (pos 0)

below_of_test : (a : ℤ) → int_lt a (pos 0) ≡ true → a <ℤ pos 0
below_of_test a e = neg_of_negated a (neg_of_test a e)

not_above : (a : ℤ) → a <ℤ pos 0 → int_lt (pos 0) a ≡ false
not_above a h = go (int_lt (pos 0) a) refl
  where
    go : (b : Bool) → int_lt (pos 0) a ≡ b → int_lt (pos 0) a ≡ false
    go true e = absurd (pos_not_neg a (pos_of_test a e) h)
    go false e = e

-- past a point between x and y only such are ahead as were before
ahead_back : (g : Form) (m n : ℕ) (x y x' : RationalPoint) → 0 < m → 0 < n → KeepsSide g (mix (pos m) (pos n) x y) y x' → ahead x' y g ≡ true → ahead x y g ≡ true
unfolding ahead
ahead_back g m n x y x' m_some n_some keep e = λ j. test_pos (g.value x) above j && h.1 j
  where
    h : (int_lt (pos 0) (g.value x') ≡ true) × (int_lt (g.value y) (pos 0) ≡ true)
    h = both_true _ _ e

    up : pos 0 <ℤ g.value x'
    up = pos_of_test (g.value x') h.0

    down : g.value y <ℤ pos 0
    down = below_of_test (g.value y) h.1

    more : (p q : ℤ) → pos 0 <ℤ (p +ℤ q) → q <ℤ pos 0 → pos 0 <ℤ p
    more p q a b = omega (arith, ints)

    above : pos 0 <ℤ g.value x
    above = by_sign (g.value (mix (pos m) (pos n) x y))
        (λ b. absurd (pos_not_neg _ up (keep.below b)))
        (λ z. absurd (pos_not_neg _ up (subst (λ q. q <ℤ pos 0) (sym (keep.on z)) down)))
        (λ a. pos_of_mul (pos m) (g.value x) (pos_of_nat m m_some) (more _ _ (subst (λ q. pos 0 <ℤ q) (value-mix g (pos m) (pos n) x y) a) (mul_neg (pos n) (g.value y) (pos_of_nat n n_some) down)))

-- ---- the walk

-- one step, with the walk from each point with fewer planes ahead
step : (ps : List Point) (ts : List FacetTriangle) (rows : List Tet) → IsWholeMesh ps ts rows → (i : ℕ) (y : RationalPoint) → IsBeside ps rows i y
    → (s : Tet) (x : RationalPoint) → IsSight ps ts rows s x y → IsInSphere ps s i
    → ((t : Tet) (x' : RationalPoint) → IsSight ps ts rows t x' y → IsInSphere ps t i → count_by (ahead x' y) (planes_of ps rows) < count_by (ahead x y) (planes_of ps rows) → Arrival ps rows i y)
    → Arrival ps rows i y
unfolding ahead
step ps ts rows whole i y beside s x sight below further = by (each_or_not (λ u. pos 0 <ℤ (wall ps s u).value y) (λ u. above_or_not ((wall ps s u).value y)))
  where
    fill : IsFilling ps ts rows
    fill = whole.filling

    in_s : Contains rows s
    in_s = sight.listed

    by : ((u : Place) → pos 0 <ℤ (wall ps s u).value y) ⊎ ¬ ((u : Place) → pos 0 <ℤ (wall ps s u).value y) → Arrival ps rows i y
    by (inl h) = record { row = s; listed = in_s; inside = inside_by ps s y h; in_sphere = below }
    by (inr none) = leave (exit_point ps s x y (positive_row ps ts rows fill s in_s) sight.weight beside.weight sight.inside (λ u. off_at ps rows y beside.off s in_s u) (λ h. none (λ u. inside_at ps s y h u))
        (λ p pw on sides. sight.off_sides p pw on (in_s.0, s, in_s.1, in_s.2, sides)))
      where
        leave : ExitPoint ps s x y → Arrival ps rows i y
        leave e = past (near (planes_of ps rows) (mix (pos e.m) (pos e.n) x y) y e.weight)
          where
            z : RationalPoint
            z = mix (pos e.m) (pos e.n) x y

            on_leg : IsOnLeg x y z
            on_leg = mix_on_leg e.m e.n x y (let h = e.some in omega arith)

            past : Near (planes_of ps rows) z y → Arrival ps rows i y
            past near_z = go (row_or_beyond ps ts rows fill x' near_z.weight x'_off)
              where
                x' : RationalPoint
                x' = near_point (planes_of ps rows) z y near_z

                keep : (q : Tet) → Contains rows q → (v : Place) → KeepsSide (wall ps q v) z y x'
                keep q c v = near_z.keep (wall ps q v) (in_planes ps rows q c v)

                x'_off : OffPlanes ps rows x'
                x'_off = near_off ps rows z y x' keep beside.off

                past_face : (wall ps s e.place).value x' <ℤ pos 0
                past_face = subst (λ a. a <ℤ pos 0) (sym ((keep s in_s e.place).on e.face.on)) e.below

                fewer : count_by (ahead x' y) (planes_of ps rows) < count_by (ahead x y) (planes_of ps rows)
                fewer = count_less (ahead x' y) (ahead x y) (planes_of ps rows)
                    (λ g m h. ahead_back g e.m e.n x y x' e.some e.some_too (near_z.keep g m) h)
                    (wall ps s e.place) (in_planes ps rows s in_s e.place)
                    (λ j. test_pos _ (inside_at ps s x sight.inside e.place) j && test_neg _ (neg_up _ e.below) j)
                    (λ j. not_above _ past_face j && int_lt ((wall ps s e.place).value y) (pos 0))

                -- the leg stays in the hull
                in_hull_of : Separates ps rows x' → ⊥
                in_hull_of b = clash _ (subst (λ a. pos 0 ≤ℤ a) (sym (value-combined g (pos near_z.times) z y)) (sum_least _ _ (mul_nonneg (pos near_z.times) (g.value z) (natural near_z.times) z_least) y_least)) b.below
                  where
                    g : Form
                    g = wall ps b.row b.place

                    clash : (a : ℤ) → pos 0 ≤ℤ a → a <ℤ pos 0 → ⊥
                    clash a h k = omega (arith, ints)

                    y_least : pos 0 ≤ℤ g.value y
                    y_least = beside.behind g b.behind

                    z_least : pos 0 ≤ℤ g.value z
                    z_least = subst (λ a. pos 0 ≤ℤ a) (sym (value-mix g (pos e.m) (pos e.n) x y))
                        (sum_least _ _ (mul_nonneg (pos e.m) (g.value x) (natural e.m) (hull_behind ps g b.behind x sight.weight (in_hull ps ts rows fill s in_s x sight.inside)))
                        (mul_nonneg (pos e.n) (g.value y) (natural e.n) y_least))

                go : ((t : Tet) × Contains rows t × StrictlyInside (corners ps t) x') ⊎ IsBeyondHull ps x' → Arrival ps rows i y
                go (inr b) = absurd (in_hull_of (separated ps ts rows fill s in_s x' near_z.weight x'_off b))
                go (inl t) = further t.0 x' (record {
                  listed = t.1;
                  weight = near_z.weight;
                  inside = t.2;
                  off_facets = λ p pw on. sight.off_facets p pw (leg_part near_z.times e.m e.n x y p on);
                  off_sides = λ p pw on. sight.off_sides p pw (leg_part near_z.times e.m e.n x y p on);
                }) (enters ps ts rows whole s t.0 e.place f.0 across (further_corner ps ts rows fill s t.0 e.place f.0 across x' near_z.weight t.2 past_face) i least below) fewer
                  where
                    f : (w : Place) × (face_at s e.place ≡ face_at t.0 w)
                    f = holds_face ps ts rows fill s t.0 in_s t.1 e.place z e.weight e.face (face_closed ps s e.place z e.face) (closed_near ps t.0 z y x' (keep t.0 t.1) t.2)

                    across : AreAcross ps ts rows s t.0 e.place f.0
                    across = record {
                      first = in_s;
                      second = t.1;
                      differ = λ d. pos_not_neg _ (inside_at ps s x' (subst (λ r. StrictlyInside (corners ps r) x') (sym d) t.2) e.place) past_face;
                      face = f.1;
                      in_none = no_facet_of ps ts s e.place z e.weight (positive_row ps ts rows fill s in_s) e.face (sight.off_facets z e.weight on_leg);
                    }

                    y_above : pos 0 <ℤ (wall ps t.0 f.0).value y
                    y_above = subst (λ a. pos 0 <ℤ a) ((keep t.0 t.1 f.0).on (same_on ps ts rows fill s t.0 in_s t.1 e.place f.0 f.1 z e.weight e.face).on) (inside_at ps t.0 x' t.2 f.0)

                    least : pos 0 ≤ℤ at (wall ps t.0 f.0) ps i
                    least = follows_back (wall ps t.0 f.0) (as_rational (point ps i)) y (beside.follows (wall ps t.0 f.0) (in_planes ps rows t.0 t.1 f.0)) y_above

walk_within : (budget : ℕ) (ps : List Point) (ts : List FacetTriangle) (rows : List Tet) → IsWholeMesh ps ts rows → (i : ℕ) (y : RationalPoint) → IsBeside ps rows i y
    → (s : Tet) (x : RationalPoint) → IsSight ps ts rows s x y → IsInSphere ps s i → count_by (ahead x y) (planes_of ps rows) < budget → Arrival ps rows i y
walk_within zero ps ts rows whole i y beside s x sight below l = absurd (omega arith)
walk_within (suc budget) ps ts rows whole i y beside s x sight below l =
    step ps ts rows whole i y beside s x sight below (λ t x' sight' below' fewer. walk_within budget ps ts rows whole i y beside t x' sight' below' (omega arith))

-- along a line of sight from a tetrahedron in whose circumsphere the point is, to the end
pub walk : (ps : List Point) (ts : List FacetTriangle) (rows : List Tet) → IsWholeMesh ps ts rows → (i : ℕ) (y : RationalPoint) → IsBeside ps rows i y
    → (s : Tet) (x : RationalPoint) → IsSight ps ts rows s x y → IsInSphere ps s i → Arrival ps rows i y
walk ps ts rows whole i y beside s x sight below = walk_within (count_by (ahead x y) (planes_of ps rows) + 1) ps ts rows whole i y beside s x sight below (omega arith)
