-- Two whole meshes in which each point is a corner are the same. Where a tetrahedron of each holds a point, no corner of the one is in the
-- circumsphere of the other, since nothing hides it from that point; so both are lowest among their corners, and the same.
use Rattle.std.proofs.Common.{◌≡◌, ◌⊎◌, inl, inr, ℕ, ◌<◌, pos, neg_ℤ, ◌*ℤ◌, ◌<ℤ◌, List, ◌++◌, map, length, sym, subst, arith}
use Rattle.std.specs.Prelude.{Contains}
use Rattle.std.proofs.lemmas.Int.{ints}
use Rattle.std.proofs.lemmas.List.Elements.{All-contains}
use Rattle.exact_algebra.proofs.Signs.{mul_nonneg}
use Rattle.sign_predicates.specs.Point.{Point, RationalPoint, as_rational}
use Rattle.sign_predicates.specs.Centroid.{centroid}
use Rattle.sign_predicates.specs.Orientation.{StrictlyInside}
use Rattle.geo_laws.specs.Delaunay.{point, corners, numbers, IsArranged}
use Rattle.geo_laws.specs.Height.{IsLexPositive, residual_at, residual, places, lifted, IsLowestAmong}
use Rattle.geo_laws.specs.declared.complex.FacetTriangle.{FacetTriangle}
use Rattle.geo_laws.specs.declared.tetrahedra.Tet.{Tet}
use Rattle.geo_laws.proofs.Ascending.{ascending-same}
use Rattle.geo_laws.proofs.Corners.{corner_of, on_corner}
use Rattle.geo_laws.proofs.Determinants.{combined}
use Rattle.geo_laws.proofs.LeastHeight.{law_residual}
use Rattle.geo_laws.proofs.Members.{IsMember, member_of, contains_of, in_append_left, in_append_right, append_cases}
use Rattle.geo_laws.proofs.Radical.{law_radical}
use Rattle.tangle_laws.proofs.Counted.{centroid_inside, centroid_w}
use Rattle.path_laws.specs.KeptMesh.{IsWholeMesh}
use Rattle.path_laws.proofs.Signs.{natural, sum_pos_right}
use Rattle.path_laws.proofs.Forms.{value-combined, leg_side}
use Rattle.path_laws.proofs.Rows.{wall, wall_least, closed_of, inside_at, inside_by, positive_row, on_row}
use Rattle.path_laws.proofs.Clear.{inside_clear}
use Rattle.path_laws.proofs.OnePlace.{planes_of, row_planes, in_row_planes, row_of, in_hull}
use Rattle.path_laws.proofs.General.{General, general, planes_real, off_of_planes}
use Rattle.path_laws.proofs.Crossings.{LegMissesFacets}
use Rattle.constrained_laws.specs.Constrained.{HasEachPoint}
use Rattle.run_laws.specs.Constrained.{ConstrainedOnceLaw}
use Rattle.constrained_laws.proofs.Across.{IsInSphere, neg-map}
use Rattle.constrained_laws.proofs.Sight.{seen_not}

-- two whole meshes of the same facets, and a tetrahedron of each that strictly holds x
record AreOver (ps : List Point) (ts : List FacetTriangle) (rows other : List Tet) (s r : Tet) (x : RationalPoint) : Type 0 where
  whole : IsWholeMesh ps ts rows
  whole_too : IsWholeMesh ps ts other
  each : HasEachPoint ps rows
  listed : Contains rows s
  listed_too : Contains other r
  weight : pos 0 <ℤ x.w
  inside : StrictlyInside (corners ps s) x
  inside_too : StrictlyInside (corners ps r) x

turned : (ps : List Point) (ts : List FacetTriangle) (rows other : List Tet) (s r : Tet) (x : RationalPoint) → HasEachPoint ps other → AreOver ps ts rows other s r x → AreOver ps ts other rows r s x
turned ps ts rows other s r x each h = record {
  whole = h.whole_too;
  whole_too = h.whole;
  each = each;
  listed = h.listed_too;
  listed_too = h.listed;
  weight = h.weight;
  inside = h.inside_too;
  inside_too = h.inside;
}

corner_on : (ps : List Point) (ts : List FacetTriangle) (rows : List Tet) → IsWholeMesh ps ts rows → (r : Tet) → Contains rows r → (e : ℕ) → Contains (numbers r) e → e < length ps
corner_on ps ts rows whole r in_r e own = let c = corner_of r e own in subst (λ n. n < length ps) (sym c.1) (on_corner ps r (on_row ps ts rows whole.filling r in_r) c.0)

-- no corner of the second is in the circumsphere of the first: the leg to it from x lies strictly inside the second, but for its end
not_in : (ps : List Point) (ts : List FacetTriangle) (rows other : List Tet) (s r : Tet) (x : RationalPoint) → AreOver ps ts rows other s r x → (e : ℕ) → Contains (numbers r) e → IsInSphere ps s e → ⊥
not_in ps ts rows other s r x h e own below = seen_not ps ts rows s x e (record {
  whole = h.whole;
  listed = h.listed;
  weight = h.weight;
  closed = closed_of ps s x h.inside;
  corner = h.each e (corner_on ps ts other h.whole_too r h.listed_too e own);
  in_sphere = below;
  sees = sees;
})
  where
    p : RationalPoint
    p = as_rational (point ps e)

    sees : (k : ℕ) → LegMissesFacets ps ts x (combined (pos k) (as_rational (point ps e)) x)
    sees k z zw l on = (inside_clear ps ts other h.whole_too.filling r h.listed_too z zw (inside_by ps r z (λ u.
        leg_side (wall ps r u) x (combined (pos k) p x) z h.weight near_w zw l (inside_at ps r x h.inside_too u)
        (subst (λ a. pos 0 <ℤ a) (sym (value-combined (wall ps r u) (pos k) p x)) (sum_pos_right _ _ (mul_nonneg (pos k) _ (natural k) (wall_least ps r u (positive_row ps ts other h.whole_too.filling r h.listed_too) e (member_of (numbers r) e own))) (inside_at ps r x h.inside_too u)))))).off_facets on
      where
        near_w : pos 0 <ℤ (combined (pos k) (as_rational (point ps e)) x).w
        near_w = sum_pos_right (pos k *ℤ pos 1) x.w (mul_nonneg (pos k) (pos 1) (natural k) (omega (arith, ints))) h.weight

-- so the first is lowest among numbers that are its own or corners of the second
lowest : (ps : List Point) (ts : List FacetTriangle) (rows other : List Tet) (s r : Tet) (x : RationalPoint) → AreOver ps ts rows other s r x → (ms : List ℕ) → ((e : ℕ) → Contains (numbers s) e → Contains ms e)
    → ((e : ℕ) → Contains ms e → Contains (numbers s) e ⊎ Contains (numbers r) e) → IsLowestAmong ps ms (lifted ps) s
lowest ps ts rows other s r x h ms within cases = record {
  is_on = within;
  is_positive = positive_row ps ts rows h.whole.filling s h.listed;
  is_arranged = All-contains IsArranged rows s h.whole.arranged h.listed;
  others = λ e c further. above e further (cases e c);
}
  where
    above : (e : ℕ) → ¬ Contains (numbers s) e → Contains (numbers s) e ⊎ Contains (numbers r) e → IsLexPositive (residual ps (lifted ps) s e)
    above e further (inl own) = absurd (further own)
    above e further (inr own) = go (law_residual ps (lifted ps) s e (corner_on ps ts other h.whole_too r h.listed_too e own) (positive_row ps ts rows h.whole.filling s h.listed) further)
      where
        go : IsLexPositive (residual ps (lifted ps) s e) ⊎ IsLexPositive (map neg_ℤ (residual ps (lifted ps) s e)) → IsLexPositive (residual ps (lifted ps) s e)
        go (inl a) = a
        go (inr b) = absurd (not_in ps ts rows other s r x h e own (subst IsLexPositive (neg-map (residual_at ps (lifted ps) s e) (places (length ps))) b))

-- and the two are the same
same_over : (ps : List Point) (ts : List FacetTriangle) (rows other : List Tet) (s r : Tet) (x : RationalPoint) → HasEachPoint ps other → AreOver ps ts rows other s r x → s ≡ r
same_over ps ts rows other s r x each h = (law_radical.lowest ps ms (lifted ps) s r
    (lowest ps ts rows other s r x h ms (λ e c. left e c) both)
    (lowest ps ts other rows r s x (turned ps ts rows other s r x each h) ms (λ e c. right e c) (λ e c. swap (both e c)))).1 (x, h.weight, (h.inside, h.inside_too))
  where
    ms : List ℕ
    ms = numbers s ++ numbers r

    left : (e : ℕ) → Contains (numbers s) e → Contains (numbers s ++ numbers r) e
    left e c = contains_of (numbers s ++ numbers r) e (in_append_left e (numbers s) (numbers r) (member_of (numbers s) e c))

    right : (e : ℕ) → Contains (numbers r) e → Contains (numbers s ++ numbers r) e
    right e c = contains_of (numbers s ++ numbers r) e (in_append_right e (numbers s) (numbers r) (member_of (numbers r) e c))

    both : (e : ℕ) → Contains (numbers s ++ numbers r) e → Contains (numbers s) e ⊎ Contains (numbers r) e
    both e c = go (append_cases e (numbers s) (numbers r) (member_of (numbers s ++ numbers r) e c))
      where
        go : IsMember e (numbers s) ⊎ IsMember e (numbers r) → Contains (numbers s) e ⊎ Contains (numbers r) e
        go (inl m) = inl (contains_of (numbers s) e m)
        go (inr m) = inr (contains_of (numbers r) e m)

    swap : {P Q : Type 0} → P ⊎ Q → Q ⊎ P
    swap (inl p) = inr p
    swap (inr q) = inl q

-- each tetrahedron of the one list is in the other: a point strictly inside it, off all face planes of the other, is strictly inside one of those
in_other : (ps : List Point) (ts : List FacetTriangle) (rows other : List Tet) → IsWholeMesh ps ts rows → IsWholeMesh ps ts other → HasEachPoint ps rows → HasEachPoint ps other → (s : Tet) → IsMember s rows → IsMember s other
in_other ps ts rows other whole whole_too each each_too s m = by (general (row_planes ps s) (planes_of ps other) (planes_real ps ts other whole_too.filling) (centroid (corners ps s)) (centroid_w (corners ps s)))
  where
    listed : Contains rows s
    listed = contains_of rows s m

    by : General (row_planes ps s) (planes_of ps other) (centroid (corners ps s)) → IsMember s other
    by g = go (row_of ps ts other whole_too.filling g.y g.weight (off_of_planes ps other g.y g.off) (in_hull ps ts rows whole.filling s listed g.y inside))
      where
        inside : StrictlyInside (corners ps s) g.y
        inside = inside_by ps s g.y (λ u. (g.follows (wall ps s u) (in_row_planes ps s u)).above
            (inside_at ps s (centroid (corners ps s)) (centroid_inside (corners ps s) (positive_row ps ts rows whole.filling s listed)) u))

        go : (r : Tet) × Contains other r × StrictlyInside (corners ps r) g.y → IsMember s other
        go (r, in_r, inside_r) = subst (λ t. IsMember t other) (sym (same_over ps ts rows other s r g.y each_too (record {
          whole = whole;
          whole_too = whole_too;
          each = each;
          listed = listed;
          listed_too = in_r;
          weight = g.weight;
          inside = inside;
          inside_too = inside_r;
        }))) (member_of other r in_r)

pub law_constrained_once : ConstrainedOnceLaw
law_constrained_once ps ts rows other whole whole_too each each_too ascending ascending_too =
    ascending-same rows other ascending ascending_too (in_other ps ts rows other whole whole_too each each_too) (in_other ps ts other rows whole_too whole each_too each)
