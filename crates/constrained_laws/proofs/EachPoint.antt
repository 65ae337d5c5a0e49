-- Where all tetrahedra of a whole mesh are admissible, each point is a corner of one.
use Rattle.std.proofs.Common.{◌≡◌, ◌≢◌, ◌⊎◌, inl, inr, ℕ, zero, suc, false, ◌<◌, pos, ◌<ℤ◌, ◌≤ℤ◌, List, [], ◌∷◌, length, refl, ap, sym, subst, ◌∙◌, arith}
use Rattle.std.specs.Prelude.{Contains}
use Rattle.std.proofs.lemmas.Int.{ints}
use Rattle.std.proofs.lemmas.List.Elements.{All-contains}
use Rattle.exact_algebra.proofs.Signs.{mul_pos, mul_nonneg}
use Rattle.sign_predicates.specs.Point.{Point, RationalPoint, as_rational}
use Rattle.sign_predicates.specs.Centroid.{centroid}
use Rattle.sign_predicates.specs.Orientation.{volume, side, IsPositive, StrictlyInside, InClosed}
use Rattle.geo_laws.specs.Delaunay.{point, corners, numbers, all_numbers, is_outside_of, HasDistinctPoints}
use Rattle.geo_laws.specs.Hull.{InHull}
use Rattle.geo_laws.specs.declared.tetrahedra.Tet.{Tet}
use Rattle.geo_laws.specs.declared.complex.FacetTriangle.{FacetTriangle}
use Rattle.sign_predicates.proofs.Places.{Place, IsOther, same_or_other, opposite}
use Rattle.geo_laws.proofs.Places.{number, with_number, corners-with_number, number-with, number-with_other}
use Rattle.geo_laws.proofs.Determinants.{volume-replaced, sides-sum, side_rational-as_rational}
use Rattle.geo_laws.proofs.Members.{IsMember, in_cons}
use Rattle.geo_laws.proofs.Corners.{IsCorner, contains_corner, corner_or_not, member_corner, among_of_corners, contains_below, on_corner, same_or_not}
use Rattle.tangle_laws.specs.Tangle.{IsHiddenFrom, IsAdmissible}
use Rattle.tangle_laws.proofs.Counted.{centroid_inside, centroid_w}
use Rattle.path_laws.specs.Places.{IsFilling}
use Rattle.path_laws.proofs.Signs.{natural, pos_of_nat, sum_pos_left}
use Rattle.path_laws.proofs.Forms.{leg_above}
use Rattle.path_laws.proofs.Rows.{wall, closed_at, closed_of_simplex, inside_at, inside_by, positive_row, on_row}
use Rattle.path_laws.proofs.Clear.{inside_clear}
use Rattle.path_laws.proofs.HolePoints.{NearRow, near_row, end_same}
use Rattle.constrained_laws.specs.Constrained.{IsCornerOfSome, HasEachPoint, HasTetrahedron, EachPointLaw}
use Rattle.constrained_laws.proofs.Inner.{not_outside}
use Rattle.constrained_laws.proofs.Sight.{point_in, some_above}

-- each point lies in the hull of the points, where four of them make a positive tetrahedron: it may take the place of some corner
point_in_hull : (ps : List Point) → HasTetrahedron ps → (i : ℕ) → i < length ps → InHull ps (as_rational (point ps i))
point_in_hull ps (t, t_on, t_positive) i within =
    by (some_above (λ u. side (opposite (corners ps t) u) (point ps i)) (subst (λ a. pos 0 <ℤ a) (sym (sides-sum (corners ps t) (point ps i))) t_positive))
  where
    by : (u : Place) × (pos 0 <ℤ side (opposite (corners ps t) u) (point ps i)) → InHull ps (as_rational (point ps i))
    by (u, up) = record {
      row = q;
      is_on = among_of_corners (all_numbers ps) q (λ v. contains_below (length ps) (number q v) (on v (same_or_other v u)));
      is_positive = positive;
      holds = closed_of_simplex ps q (i ∷ []) (as_rational (point ps i)) (omega (arith, ints)) positive (point_in ps i) (λ j m. own j (in_cons j i [] m));
    }
      where
        q : Tet
        q = with_number t u i

        positive : IsPositive (corners ps (with_number t u i))
        positive = subst (λ a. pos 0 <ℤ a) (sym (ap volume (corners-with_number ps t u i) ∙ volume-replaced (corners ps t) u (point ps i))) up

        on : (v : Place) → (v ≡ u) ⊎ IsOther v u → number (with_number t u i) v < length ps
        on v (inl e) = subst (λ j. j < length ps) (sym (ap (number (with_number t u i)) e ∙ number-with t u i)) within
        on v (inr o) = subst (λ j. j < length ps) (sym (number-with_other t v u i o)) (on_corner ps t t_on v)

        own : (j : ℕ) → (j ≡ i) ⊎ IsMember j [] → IsMember j (numbers (with_number t u i))
        own j (inl e) = subst (λ n. IsMember n (numbers (with_number t u i))) (number-with t u i ∙ sym e) (member_corner (with_number t u i) u)
        own j (inr m) = elim m [ ]

-- no facet lies between the centroid of a tetrahedron and a point of its closure
not_hidden : (ps : List Point) (ts : List FacetTriangle) (rows : List Tet) → IsFilling ps ts rows → (t : Tet) → Contains rows t → (i : ℕ) → ((u : Place) → pos 0 ≤ℤ (wall ps t u).value (as_rational (point ps i))) → ¬ IsHiddenFrom ps ts t i
not_hidden ps ts rows fill t in_t i closed (z, zw, (leg, not_start, not_end, on)) = go (same_or_not leg.0 0)
  where
    c : RationalPoint
    c = centroid (corners ps t)

    inside : StrictlyInside (corners ps t) c
    inside = centroid_inside (corners ps t) (positive_row ps ts rows fill t in_t)

    some : (n : ℕ) → n ≢ 0 → 0 < n
    some zero d = absurd (d refl)
    some (suc n) d = omega arith

    go : (leg.0 ≡ 0) ⊎ (leg.0 ≢ 0) → ⊥
    go (inl e) = not_end (end_same c (as_rational (point ps i)) z leg e)
    go (inr d) = (inside_clear ps ts rows fill t in_t z zw (inside_by ps t z (λ u.
        leg_above (wall ps t u) c (as_rational (point ps i)) z (centroid_w (corners ps t)) (omega (arith, ints)) zw leg
        (sum_pos_left _ _ (mul_pos (pos leg.0) _ (pos_of_nat leg.0 (some leg.0 d)) (inside_at ps t c inside u)) (mul_nonneg (pos leg.1) _ (natural leg.1) (closed u)))))).off_facets on

-- Where no closed tetrahedron has, of its further points, one that is not outside of its circumsphere, each point is a corner
pub each_point : (ps : List Point) (ts : List FacetTriangle) (rows : List Tet) → HasDistinctPoints ps → HasTetrahedron ps → IsFilling ps ts rows
    → ((u : Tet) → Contains rows u → (i : ℕ) → i < length ps → ¬ Contains (numbers u) i → InClosed (corners ps u) (as_rational (point ps i)) → is_outside_of ps u i ≡ false → ⊥) → HasEachPoint ps rows
each_point ps ts rows distinct some fill none i within = by (near_row ps ts rows fill (as_rational (point ps i)) (omega (arith, ints)) (point_in_hull ps some i within) [])
  where
    by : NearRow ps rows (as_rational (point ps i)) [] → IsCornerOfSome rows i
    by r = go (corner_or_not r.row i)
      where
        go : IsCorner r.row i ⊎ ¬ Contains (numbers r.row) i → IsCornerOfSome rows i
        go (inl c) = (r.listed.0, r.row, r.listed.1, r.listed.2, contains_corner r.row i c)
        go (inr further) = absurd (none r.row r.listed i within further r.closed
            (not_outside ps distinct r.row (on_row ps ts rows fill r.row r.listed) (positive_row ps ts rows fill r.row r.listed) i within further
            (λ u. subst (λ a. pos 0 ≤ℤ a) (side_rational-as_rational (opposite (corners ps r.row) u) (point ps i)) (closed_at ps r.row (as_rational (point ps i)) r.closed u))))

pub law_each_point : EachPointLaw
law_each_point ps ts rows distinct some whole admissible = each_point ps ts rows distinct some whole.filling
    (λ u in_u i within further closed not_outside. not_hidden ps ts rows whole.filling u in_u i (closed_at ps u (as_rational (point ps i)) closed)
    ((All-contains (IsAdmissible ps ts) rows u admissible in_u).others i within further not_outside))
