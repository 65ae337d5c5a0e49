-- A facet whose polygons all have fewer than three corners has no region, and so no triangles.
use Rattle.std.proofs.Common.{◌≡◌, ℕ, Bool, true, false, cond, ◌||◌, ◌&&◌, nat_lt, List, [], ◌∷◌, length, refl, ap, sym, ◌∙◌}
use Rattle.std.specs.Prelude.{Option, Some, None, filter}
use Rattle.std.specs.List.{list_any, list_all}
use Rattle.sign_predicates.specs.Point.{Point, RationalPoint}
use Rattle.sign_predicates.specs.Orientation.{normal, side_rational}
use Rattle.geo_laws.specs.Delaunay.{point}
use Rattle.geo_laws.specs.Segment.{sides, is_zero}
use Rattle.geo_laws.specs.Facet.{Facet, Axis, areas, plane, axis_of, is_on_piece, is_round, is_within}
use Rattle.geo_laws.specs.Facet.{is_within_plane, in_region, keeps, triangle_centroid, is_facet_triangle, facet_triangles, threes}
use Rattle.geo_laws.specs.declared.complex.FacetTriangle.{FacetTriangle}
use Rattle.facet_laws.specs.Region.{through}
use Rattle.facet_laws.proofs.Facets.{middle_of}
use Rattle.facet_plane.specs.Areas.{has_area}

abbrev is_area : List ℕ → Bool
is_area p = nat_lt 2 (length p)

-- no polygon passes the test
no_areas : (qs : List (List ℕ)) → list_any is_area qs ≡ false → filter is_area qs ≡ []
no_areas [] e = refl
no_areas (q ∷ qs) e = go (is_area q) e (no_areas qs)
  where
    never : true ≡ false → ⊥
    never e = cc

    go : (b : Bool) → b || list_any is_area qs ≡ false → (list_any is_area qs ≡ false → filter is_area qs ≡ [])
        → cond b (q ∷ filter is_area qs) (filter is_area qs) ≡ []
    go true e rest = absurd (never e)
    go false e rest = rest e

and_false : (b : Bool) → b && false ≡ false
and_false true = refl
and_false false = refl

-- so no point is in the region
no_region : (ps : List Point) (f : Facet) (x : RationalPoint) → areas f ≡ [] → in_region ps f x ≡ false
no_region ps f x e = go (plane ps f)
  where
    within : (axis : Axis) → is_within ps axis f x ≡ false
    within axis =
        ap (λ qs. list_any (λ p. list_any (λ s. is_on_piece ps s x) (sides p)) qs
        || list_any (λ p. is_round ps axis p x) qs && list_all (keeps ps axis f x) f.holes) e

    go : (o : Option (ℕ × ℕ × ℕ)) → is_within_plane ps f x o ≡ false
    go None = refl
    go (Some t) =
        ap (λ b. is_zero (side_rational (through ps t) x) && b) (within (axis_of (normal (through ps t))))
        ∙ and_false (is_zero (side_rational (through ps t) x))

none_kept : {X : Type 0} (test : X → Bool) (xs : List X) → ((x : X) → test x ≡ false) → filter test xs ≡ []
none_kept test [] h = refl
none_kept test (x ∷ xs) h = ap (λ b. cond b (x ∷ filter test xs) (filter test xs)) (h x) ∙ none_kept test xs h

-- and no triangle is one of the facet
pub no_triangles : (ps : List Point) (number : ℕ) (f : Facet) → has_area f ≡ false → facet_triangles ps number f ≡ []
no_triangles ps number f e = none_kept (is_facet_triangle ps f) (threes number (length ps)) fails
  where
    fails : (t : FacetTriangle) → is_facet_triangle ps f t ≡ false
    fails t = go (is_facet_triangle ps f t) refl
      where
        never : true ≡ false → ⊥
        never e = cc

        go : (b : Bool) → is_facet_triangle ps f t ≡ b → b ≡ false
        go false k = refl
        go true k =
            let x = triangle_centroid (point ps t.a) (point ps t.b) (point ps t.c) in
            absurd (never (sym (middle_of ps f t k) ∙ no_region ps f x (no_areas f.polygons e)))
