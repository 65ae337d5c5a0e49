-- A point that no facet hides from a tetrahedron is seen from it along a leg that meets no facet and no side, from near the centroid to near
-- the point; so, where it is a corner, it is outside of the tetrahedron.
use Rattle.std.proofs.Common.{◌≡◌, ◌↔◌, ◌⊎◌, inl, inr, ℕ, ◌+◌, ◌*◌, ◌<◌, ℤ, pos, ◌+ℤ◌, ◌*ℤ◌, ◌<ℤ◌, ◌≤ℤ◌, Bool, true, false, List, [], ◌∷◌, ◌++◌, length, refl, ap, sym, subst, ◌∙◌, arith}
use Rattle.std.specs.Prelude.{Contains, IsTrue}
use Rattle.std.proofs.lemmas.Int.{ints}
use Rattle.exact_algebra.proofs.Ring.{num, var, ring, ring_given, given, same, ◌⊕◌, ◌⊗◌}
use Rattle.exact_algebra.proofs.Signs.{mul_pos, mul_nonneg, pos_of_mul, pos_or_not, nonneg_of_pos}
use Rattle.sign_predicates.specs.Point.{Point, RationalPoint, as_rational}
use Rattle.sign_predicates.specs.Centroid.{centroid}
use Rattle.sign_predicates.specs.Orientation.{volume, IsPositive, StrictlyInside, InClosed}
use Rattle.geo_laws.specs.Delaunay.{point, corners, numbers}
use Rattle.geo_laws.specs.Hull.{OffPlanes}
use Rattle.geo_laws.specs.Simplex.{InSimplex}
use Rattle.geo_laws.specs.Facet.{IsUncrossed}
use Rattle.geo_laws.specs.Path.{IsOnLeg, SamePoint}
use Rattle.geo_laws.specs.declared.tetrahedra.Tet.{Tet}
use Rattle.geo_laws.specs.declared.complex.FacetTriangle.{FacetTriangle}
use Rattle.sign_predicates.proofs.Places.{Place, A, B, C, D}
use Rattle.geo_laws.proofs.Places.{number, over_places}
use Rattle.geo_laws.proofs.Determinants.{combined, weights-sum}
use Rattle.geo_laws.proofs.Members.{IsMember, in_cons, in_append_left, in_append_right, append_cases, member_of}
use Rattle.geo_laws.proofs.Corners.{IsCorner, contains_corner, corner_of, on_corner}
use Rattle.crossing_laws.proofs.Tests.{never}
use Rattle.tangle_laws.specs.Tangle.{IsHiddenFrom}
use Rattle.tangle_laws.specs.Hidden.{is_hidden}
use Rattle.tangle_laws.proofs.Between.{law_hidden}
use Rattle.tangle_laws.proofs.Counted.{centroid_inside, centroid_w}
use Rattle.path_laws.specs.Places.{IsFilling}
use Rattle.path_laws.specs.KeptMesh.{IsWholeMesh}
use Rattle.path_laws.proofs.Signs.{natural, sum_least}
use Rattle.path_laws.proofs.Forms.{Form, value-leg, value-combined, KeepsSide, Near, near, near_point}
use Rattle.path_laws.proofs.Rows.{wall, closed_at, closed_by, closed_of, inside_at, inside_by, positive_row, on_row, held}
use Rattle.path_laws.proofs.Clear.{hull_behind, inside_clear}
use Rattle.path_laws.proofs.OnePlace.{planes_of, in_planes, row_planes, in_row_planes, keep_off, near_off, in_hull, in_hull_closed}
use Rattle.path_laws.proofs.Opposite.{keep_closed}
use Rattle.path_laws.proofs.General.{Follows, IsReal, General, general, planes_real, off_of_planes, pencils, pencils_real, side_missed}
use Rattle.path_laws.proofs.Crossings.{LegMissesFacets, crossings, misses_turned, facets_missed, follows_closed}
use Rattle.path_laws.proofs.Chains.{same_value}
use Rattle.path_laws.proofs.HolePoints.{same_facet, follows_of}
use Rattle.path_laws.proofs.Far.{InnerPoint, inner_point}
use Rattle.constrained_laws.specs.Constrained.{IsCornerOfSome, HiddenCornerLaw}
use Rattle.constrained_laws.proofs.Across.{IsInSphere, in_sphere, corner_not_in}
use Rattle.constrained_laws.proofs.Walk.{IsBeside, Arrival, walk}

-- ---- a corner in a closed tetrahedron

itself-sum : (a : ℤ) → (pos 1 *ℤ a +ℤ pos 0) *ℤ pos 1 ≡ a *ℤ pos 1
unfolding same
itself-sum a = ring ((num (pos 1) ⊗ var 0 ⊕ num (pos 0)) ⊗ num (pos 1)) (var 0 ⊗ num (pos 1)) tt (a ∷ [])

-- a point is the hull of itself
pub point_in : (ps : List Point) (i : ℕ) → InSimplex ps (i ∷ []) (as_rational (point ps i))
point_in ps i = (
  λ j. 1,
  record { some = omega arith; x_is = itself-sum (point ps i).x; y_is = itself-sum (point ps i).y; z_is = itself-sum (point ps i).z },
)

-- of four numbers with a sum above 0 one is above 0
pub some_above : (f : Place → ℤ) → pos 0 <ℤ over_places f → (u : Place) × (pos 0 <ℤ f u)
some_above f h = go (pos_or_not (f A)) (pos_or_not (f B)) (pos_or_not (f C)) (pos_or_not (f D))
  where
    none : (a b c d : ℤ) → a ≤ℤ pos 0 → b ≤ℤ pos 0 → c ≤ℤ pos 0 → d ≤ℤ pos 0 → pos 0 <ℤ (a +ℤ b +ℤ c +ℤ d) → ⊥
    none a b c d ha hb hc hd h = omega (arith, ints)

    go : (pos 0 <ℤ f A) ⊎ (f A ≤ℤ pos 0) → (pos 0 <ℤ f B) ⊎ (f B ≤ℤ pos 0) → (pos 0 <ℤ f C) ⊎ (f C ≤ℤ pos 0) → (pos 0 <ℤ f D) ⊎ (f D ≤ℤ pos 0) → (u : Place) × (pos 0 <ℤ f u)
    go (inl a) _ _ _ = (A, a)
    go (inr _) (inl b) _ _ = (B, b)
    go (inr _) (inr _) (inl c) _ = (C, c)
    go (inr _) (inr _) (inr _) (inl d) = (D, d)
    go (inr a) (inr b) (inr c) (inr d) = absurd (none _ _ _ _ a b c d h)

-- a corner of some tetrahedron is a corner of each whose closure holds it
pub own_corner : (ps : List Point) (ts : List FacetTriangle) (rows : List Tet) → IsFilling ps ts rows → (s : Tet) → Contains rows s → (i : ℕ) → IsCornerOfSome rows i
    → InClosed (corners ps s) (as_rational (point ps i)) → IsCorner s i
own_corner ps ts rows fill s in_s i (k, r, within, is, own) closed = by (some_above (λ u. (wall ps s u).value p) (subst (λ a. pos 0 <ℤ a) (sym (weights-sum (corners ps s) p)) (mul_pos (volume (corners ps s)) (pos 1) (positive_row ps ts rows fill s in_s) (omega (arith, ints)))))
  where
    p : RationalPoint
    p = as_rational (point ps i)

    only : (j : ℕ) → IsMember j (i ∷ []) → j ≡ i
    only j m = go (in_cons j i [] m)
      where
        go : (j ≡ i) ⊎ IsMember j [] → j ≡ i
        go (inl e) = e
        go (inr k) = elim k [ ]

    by : (u : Place) × (pos 0 <ℤ (wall ps s u).value p) → IsCorner s i
    by (u, up) = (u, sym (only (number s u) (held ps ts rows fill s r in_s (k, within, is) (i ∷ []) p (omega (arith, ints)) closed (point_in ps i) (λ j m. subst (λ n. IsMember n (numbers r)) (sym (only j m)) (member_of (numbers r) i own)) u up)))

-- ---- the leg from the centroid

-- a point of the leg from c to k p + c lies on that from c to p, not at its end
leg-near : (m n k c p : ℤ) → m *ℤ c +ℤ n *ℤ (k *ℤ p +ℤ c) ≡ (m +ℤ n) *ℤ c +ℤ (n *ℤ k) *ℤ p
unfolding same
leg-near m n k c p = ring (var 0 ⊗ var 3 ⊕ var 1 ⊗ (var 2 ⊗ var 4 ⊕ var 3)) ((var 0 ⊕ var 1) ⊗ var 3 ⊕ (var 1 ⊗ var 2) ⊗ var 4) tt (m ∷ n ∷ k ∷ c ∷ p ∷ [])

leg_near : (k : ℕ) (c p z : RationalPoint) (l : IsOnLeg c (combined (pos k) p c) z) → IsOnLeg c p z
leg_near k c p z l = (
  l.0 + l.1,
  l.1 * k,
  some l.0 l.1 k l.2,
  sides z.x z.w c.w p.w c.x p.x l.3,
  sides z.y z.w c.w p.w c.y p.y l.4,
  sides z.z z.w c.w p.w c.z p.z l.5,
)
  where
    some : (m n k : ℕ) → 0 < m + n → 0 < m + n + n * k
    some m n k h = grind arith

    sides : (q w cw pw a b : ℤ) → q *ℤ (pos l.0 *ℤ cw +ℤ pos l.1 *ℤ (pos k *ℤ pw +ℤ cw)) ≡ w *ℤ (pos l.0 *ℤ a +ℤ pos l.1 *ℤ (pos k *ℤ b +ℤ a))
        → q *ℤ ((pos l.0 +ℤ pos l.1) *ℤ cw +ℤ (pos l.1 *ℤ pos k) *ℤ pw) ≡ w *ℤ ((pos l.0 +ℤ pos l.1) *ℤ a +ℤ (pos l.1 *ℤ pos k) *ℤ b)
    sides q w cw pw a b e = ap (λ r. q *ℤ r) (sym (leg-near (pos l.0) (pos l.1) (pos k) cw pw)) ∙ e ∙ ap (λ r. w *ℤ r) (leg-near (pos l.0) (pos l.1) (pos k) a b)

end-value : (m n cw pw zw gc gp gz : ℤ) → (m *ℤ cw +ℤ n *ℤ pw) *ℤ gz ≡ zw *ℤ (m *ℤ gc +ℤ n *ℤ gp) → zw *ℤ gp ≡ pw *ℤ gz → (zw *ℤ (m *ℤ cw)) *ℤ gp ≡ (pw *ℤ (zw *ℤ m)) *ℤ gc
unfolding same
end-value m n cw pw zw gc gp gz e d =
    ring_given ((var 4 ⊗ (var 0 ⊗ var 2)) ⊗ var 6) ((var 3 ⊗ (var 4 ⊗ var 0)) ⊗ var 5)
    (given (var 3) ((var 0 ⊗ var 2 ⊕ var 1 ⊗ var 3) ⊗ var 7) (var 4 ⊗ (var 0 ⊗ var 5 ⊕ var 1 ⊗ var 6)) ∷ given (var 0 ⊗ var 2 ⊕ var 1 ⊗ var 3) (var 4 ⊗ var 6) (var 3 ⊗ var 7) ∷ [])
    tt (m ∷ n ∷ cw ∷ pw ∷ zw ∷ gc ∷ gp ∷ gz ∷ []) (e, (d, tt))

-- where a point of a leg with a weight at the first end is the second end, the second end has the sides of the first
end_above : (g : Form) (c p z : RationalPoint) → pos 0 <ℤ c.w → pos 0 <ℤ p.w → pos 0 <ℤ z.w → (l : IsOnLeg c p z) → pos 0 <ℤ pos l.0 → SamePoint z p → pos 0 <ℤ g.value c → pos 0 <ℤ g.value p
end_above g c p z cw pw zw l some is up =
    pos_of_mul (z.w *ℤ (pos l.0 *ℤ c.w)) (g.value p) (mul_pos z.w (pos l.0 *ℤ c.w) zw (mul_pos (pos l.0) c.w some cw))
    (subst (λ a. pos 0 <ℤ a) (sym (end-value (pos l.0) (pos l.1) c.w p.w z.w (g.value c) (g.value p) (g.value z) (value-leg g c p z l) (same_value g z p is)))
    (mul_pos (p.w *ℤ (z.w *ℤ pos l.0)) (g.value c) (mul_pos p.w (z.w *ℤ pos l.0) pw (mul_pos z.w (pos l.0) zw some)) up))

-- ---- what is seen

-- A point c of a closed tetrahedron t of a whole mesh, and a corner of a tetrahedron of it, with the number i, in the circumsphere of t. No
-- facet meets the leg from c to that corner before its end: each point of it lies between c and some k p + c
pub record IsSeen (ps : List Point) (ts : List FacetTriangle) (rows : List Tet) (t : Tet) (c : RationalPoint) (i : ℕ) : Type 0 where
  pub whole : IsWholeMesh ps ts rows
  pub listed : Contains rows t
  pub weight : pos 0 <ℤ c.w
  pub closed : InClosed (corners ps t) c
  pub corner : IsCornerOfSome rows i
  pub in_sphere : IsInSphere ps t i
  pub sees : (k : ℕ) → LegMissesFacets ps ts c (combined (pos k) (as_rational (point ps i)) c)

then : (g : Form) (x y z : RationalPoint) → Follows g x y → Follows g y z → Follows g x z
then g x y z a b = record { above = λ h. b.above (a.above h); below = λ h. b.below (a.below h) }

-- a form that is at least 0 at two points is so near the one towards the other
near_least : (g : Form) (k : ℕ) (z v : RationalPoint) → pos 0 ≤ℤ g.value z → pos 0 ≤ℤ g.value v → pos 0 ≤ℤ g.value (combined (pos k) z v)
near_least g k z v a b = subst (λ q. pos 0 ≤ℤ q) (sym (value-combined g (pos k) z v)) (sum_least _ _ (mul_nonneg (pos k) (g.value z) (natural k) a) b)

-- a corner is a point of the list
corner_within : (ps : List Point) (ts : List FacetTriangle) (rows : List Tet) → IsFilling ps ts rows → (i : ℕ) → IsCornerOfSome rows i → i < length ps
corner_within ps ts rows fill i (k, r, within, is, own) = let q = corner_of r i own in subst (λ j. j < length ps) (sym q.1) (on_corner ps r (on_row ps ts rows fill r (k, within, is)) q.0)

-- The leg from near c, in general position, to near the corner leads into a tetrahedron that has the corner, and has it in its circumsphere
pub seen_not : (ps : List Point) (ts : List FacetTriangle) (rows : List Tet) (t : Tet) (c : RationalPoint) (i : ℕ) → IsSeen ps ts rows t c i → ⊥
seen_not ps ts rows t c i h = from (near (planes_of ps rows) p c (omega (arith, ints)))
  where
    fill : IsFilling ps ts rows
    fill = h.whole.filling

    p : RationalPoint
    p = as_rational (point ps i)

    v : InnerPoint ps rows t
    v = inner_point ps ts rows fill t h.listed

    from : Near (planes_of ps rows) p c → ⊥
    from n = to (near (planes_of ps rows ++ crossings ps rows c) z v.y n.weight)
      where
        z : RationalPoint
        z = near_point (planes_of ps rows) p c n

        to : Near (planes_of ps rows ++ crossings ps rows c) z v.y → ⊥
        to k = inner (general (row_planes ps t) (planes_of ps rows ++ pencils ps rows y) real (centroid (corners ps t)) (centroid_w (corners ps t)))
          where
            y : RationalPoint
            y = near_point (planes_of ps rows ++ crossings ps rows c) z v.y k

            planes : (g : Form) → IsMember g (planes_of ps rows) → KeepsSide g z v.y y
            planes g m = k.keep g (in_append_left g (planes_of ps rows) (crossings ps rows c) m)

            y_off : OffPlanes ps rows y
            y_off = near_off ps rows z v.y y (λ q d u. planes (wall ps q u) (in_planes ps rows q d u)) v.off

            beside : IsBeside ps rows i y
            beside = record {
              weight = k.weight;
              off = y_off;
              follows = λ g m. then g p z y (follows_of g p c z (n.keep g m)) (follows_of g z v.y y (planes g m));
              behind = λ g b. near_least g k.times z v.y
                  (near_least g n.times p c (b i (corner_within ps ts rows fill i h.corner)) (hull_behind ps g b c h.weight (in_hull_closed ps ts rows fill t h.listed c h.closed)))
                  (hull_behind ps g b v.y v.weight (in_hull ps ts rows fill t h.listed v.y v.inside));
            }

            real : (g : Form) → IsMember g (planes_of ps rows ++ pencils ps rows y) → IsReal g
            real g m = by (append_cases g (planes_of ps rows) (pencils ps rows y) m)
              where
                by : IsMember g (planes_of ps rows) ⊎ IsMember g (pencils ps rows y) → IsReal g
                by (inl a) = planes_real ps ts rows fill g a
                by (inr b) = pencils_real ps rows y y_off g b

            misses : LegMissesFacets ps ts c y
            misses = misses_turned ps ts y c (facets_missed ps ts rows fill z y c n.weight k.weight h.weight (λ g m. follows_of g z v.y y (planes g m))
                (λ g m. follows_of g z v.y y (k.keep g (in_append_right g (planes_of ps rows) (crossings ps rows c) m))) y_off
                (misses_turned ps ts c z (h.sees n.times)))

            arrived : Arrival ps rows i y → ⊥
            arrived a = corner_not_in ps a.row i (own_corner ps ts rows fill a.row a.listed i h.corner (follows_closed ps rows p y beside.follows a.row a.listed a.inside)) a.in_sphere

            inner : General (row_planes ps t) (planes_of ps rows ++ pencils ps rows y) (centroid (corners ps t)) → ⊥
            inner w = along (near (planes_of ps rows ++ (crossings ps rows y ++ pencils ps rows y)) c w.y h.weight)
              where
                w_inside : (u : Place) → pos 0 <ℤ (wall ps t u).value w.y
                w_inside u = (w.follows (wall ps t u) (in_row_planes ps t u)).above (inside_at ps t (centroid (corners ps t)) (centroid_inside (corners ps t) (positive_row ps ts rows fill t h.listed)) u)

                w_off : OffPlanes ps rows w.y
                w_off = off_of_planes ps rows w.y (λ g m. w.off g (in_append_left g (planes_of ps rows) (pencils ps rows y) m))

                along : Near (planes_of ps rows ++ (crossings ps rows y ++ pencils ps rows y)) c w.y → ⊥
                along q = arrived (walk ps ts rows h.whole i y beside t x (record {
                  listed = h.listed;
                  weight = q.weight;
                  inside = inside_by ps t x (λ u. keep_closed (wall ps t u) c w.y x (near_c (wall ps t u) (in_planes ps rows t h.listed u)) (closed_at ps t c h.closed u) (w_inside u));
                  off_facets = facets_missed ps ts rows fill c x y h.weight q.weight k.weight (λ g m. follows_of g c w.y x (near_c g m))
                      (λ g m. follows_of g c w.y x (q.keep g (in_append_right g (planes_of ps rows) (crossings ps rows y ++ pencils ps rows y) (in_append_left g (crossings ps rows y) (pencils ps rows y) m))))
                      (near_off ps rows c w.y x (λ r d u. near_c (wall ps r u) (in_planes ps rows r d u)) w_off) misses;
                  off_sides = side_missed ps rows y x y_off
                      (λ g m. keep_off g c w.y x (q.keep g (in_append_right g (planes_of ps rows) (crossings ps rows y ++ pencils ps rows y) (in_append_right g (crossings ps rows y) (pencils ps rows y) m))) (w.off g (in_append_right g (planes_of ps rows) (pencils ps rows y) m)));
                }) h.in_sphere)
                  where
                    x : RationalPoint
                    x = near_point (planes_of ps rows ++ (crossings ps rows y ++ pencils ps rows y)) c w.y q

                    near_c : (g : Form) → IsMember g (planes_of ps rows) → KeepsSide g c w.y x
                    near_c g m = q.keep g (in_append_left g (planes_of ps rows) (crossings ps rows y ++ pencils ps rows y) m)

-- ---- the law

-- no facet crosses a tetrahedron
pub uncrossed : (ps : List Point) (ts : List FacetTriangle) (rows : List Tet) → IsFilling ps ts rows → (t : Tet) → Contains rows t → IsUncrossed ps ts t
uncrossed ps ts rows fill t in_t facet (x, xw, (inside, on)) = (inside_clear ps ts rows fill t in_t x xw inside).off_facets (on.0, on.1, on.2, on.3, on.4.1)

-- where a corner of the mesh, which is none of the tetrahedron, is not hidden from it, the leg to it from the centroid meets no facet before its end
centroid_sees : (ps : List Point) (ts : List FacetTriangle) (rows : List Tet) → IsFilling ps ts rows → (t : Tet) → Contains rows t → (i : ℕ) → IsCornerOfSome rows i → ¬ Contains (numbers t) i → ¬ IsHiddenFrom ps ts t i
    → (k : ℕ) → LegMissesFacets ps ts (centroid (corners ps t)) (combined (pos k) (as_rational (point ps i)) (centroid (corners ps t)))
unfolding leg_near
centroid_sees ps ts rows fill t in_t i corner further seen k z zw l on = seen (z, zw, (leg_near k c p z l, not_start, not_end, on))
  where
    c : RationalPoint
    c = centroid (corners ps t)

    p : RationalPoint
    p = as_rational (point ps i)

    cw : pos 0 <ℤ c.w
    cw = centroid_w (corners ps t)

    inside : StrictlyInside (corners ps t) c
    inside = centroid_inside (corners ps t) (positive_row ps ts rows fill t in_t)

    not_start : ¬ SamePoint z c
    not_start e = (inside_clear ps ts rows fill t in_t c cw inside).off_facets (same_facet ps ts z c zw e on)

    some : (m n : ℕ) → 0 < m + n → pos 0 <ℤ pos (m + n)
    some m n h = omega (arith, ints)

    not_end : ¬ SamePoint z p
    not_end e = further (contains_corner t i (own_corner ps ts rows fill t in_t i corner
        (closed_by ps t p (λ u. nonneg_of_pos _ (end_above (wall ps t u) c p z cw (omega (arith, ints)) zw (leg_near k c p z l) (some l.0 l.1 l.2) e (inside_at ps t c inside u))))))

pub law_hidden_corner : HiddenCornerLaw
law_hidden_corner ps ts rows spans whole t in_t i corner further not_outside = go (is_hidden ps ts t i) refl
  where
    fill : IsFilling ps ts rows
    fill = whole.filling

    p : IsPositive (corners ps t)
    p = positive_row ps ts rows fill t in_t

    decides : IsHiddenFrom ps ts t i ↔ IsTrue (is_hidden ps ts t i)
    decides = law_hidden ps ts t spans p (uncrossed ps ts rows fill t in_t) i

    go : (b : Bool) → is_hidden ps ts t i ≡ b → IsHiddenFrom ps ts t i
    go true e = decides.1 e
    go false e = absurd (seen_not ps ts rows t (centroid (corners ps t)) i (record {
      whole = whole;
      listed = in_t;
      weight = centroid_w (corners ps t);
      closed = closed_of ps t (centroid (corners ps t)) (centroid_inside (corners ps t) p);
      corner = corner;
      in_sphere = in_sphere ps t i (on_row ps ts rows fill t in_t) (corner_within ps ts rows fill i corner) p further not_outside;
      sees = centroid_sees ps ts rows fill t in_t i corner further (λ s. never (sym e ∙ decides.0 s));
    }))
