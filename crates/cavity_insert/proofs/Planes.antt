-- Points on one line, and points in one plane: where all points lie on a line through two of them, or in a plane through three of them, any four of
-- them lie in one plane. Each step is an identity that the ring normalizer checks.
use Rattle.std.proofs.Common.{◌≡◌, ◌≢◌, ◌⊎◌, inl, inr, ℕ, ◌<◌, ℤ, pos, neg_ℤ, ◌-ℤ◌, ◌*ℤ◌, ◌<ℤ◌, List, [], ◌∷◌, length, ap, ◌∙◌, arith}
use Rattle.std.proofs.lemmas.Bool.{cases_eq}
use Rattle.exact_algebra.proofs.Ring.{num, var, neg, ring, ring_given, given, same, ◌⊖◌, ◌⊗◌}
use Rattle.exact_algebra.proofs.Signs.{sign_of, zero_or_not, zero_of_mul}
use Rattle.sign_predicates.specs.Point.{Point, from_to}
use Rattle.sign_predicates.specs.Orientation.{orient, det, dot, Triangle, normal, side}
use Rattle.sign_predicates.proofs.Terms.{pointE, triangleE, of_point, of_triangle, from_toE, dotE, detE, crossE, orientE, sideE, normalE}
use Rattle.geo_laws.specs.Delaunay.{point, AreCoplanar}
use Rattle.cavity_insert.specs.First.{IsOnLine}

-- a product is 0 where one factor is; so the other is, where this one isn't
zero_factor : (k x : ℤ) → k ≢ pos 0 → k *ℤ x ≡ pos 0 → x ≡ pos 0
unfolding same
zero_factor k x n e = by (sign_of k)
  where
    by : (pos 0 <ℤ k) ⊎ ((k ≡ pos 0) ⊎ (pos 0 <ℤ neg_ℤ k)) → x ≡ pos 0
    by (inl h) = zero_of_mul k x h e
    by (inr (inl z)) = absurd (n z)
    by (inr (inr h)) =
        zero_of_mul (neg_ℤ k) x h (ring_given (neg (var 0) ⊗ var 1) (num (pos 0)) (given (neg (num (pos 1))) (var 0 ⊗ var 1) (num (pos 0)) ∷ []) tt (k ∷ x ∷ []) (e, tt))

-- a vector that isn't 0 has a coordinate that isn't
pub some_coordinate : (v : Point) → ¬ ((v.x ≡ pos 0) × (v.y ≡ pos 0) × (v.z ≡ pos 0)) → (v.x ≢ pos 0) ⊎ ((v.y ≢ pos 0) ⊎ (v.z ≢ pos 0))
some_coordinate v n = by (zero_or_not v.x) (zero_or_not v.y) (zero_or_not v.z)
  where
    by : (v.x ≡ pos 0) ⊎ (v.x ≢ pos 0) → (v.y ≡ pos 0) ⊎ (v.y ≢ pos 0) → (v.z ≡ pos 0) ⊎ (v.z ≢ pos 0) → (v.x ≢ pos 0) ⊎ ((v.y ≢ pos 0) ⊎ (v.z ≢ pos 0))
    by (inr x) _ _ = inl x
    by (inl x) (inr y) _ = inr (inl y)
    by (inl x) (inl y) (inr z) = inr (inr z)
    by (inl x) (inl y) (inl z) = absurd (n (x, y, z))

-- ---- three vectors at right angles to one that isn't 0 have determinant 0

-- by the cofactors of a coordinate of n
plane_x : (n u v w : Point) → dot n u ≡ pos 0 → dot n v ≡ pos 0 → dot n w ≡ pos 0 → n.x *ℤ det u v w ≡ pos 0
unfolding same det
plane_x n u v w eu ev ew =
    let N = pointE 0 in
    let U = pointE 3 in
    let V = pointE 6 in
    let W = pointE 9 in
    ring_given (N.x ⊗ detE U V W) (num (pos 0))
    (given (crossE V W).x (dotE N U) (num (pos 0)) ∷ given (crossE W U).x (dotE N V) (num (pos 0)) ∷ given (crossE U V).x (dotE N W) (num (pos 0)) ∷ [])
    tt (of_point n (of_point u (of_point v (of_point w [])))) (eu, (ev, (ew, tt)))

plane_y : (n u v w : Point) → dot n u ≡ pos 0 → dot n v ≡ pos 0 → dot n w ≡ pos 0 → n.y *ℤ det u v w ≡ pos 0
unfolding same det
plane_y n u v w eu ev ew =
    let N = pointE 0 in
    let U = pointE 3 in
    let V = pointE 6 in
    let W = pointE 9 in
    ring_given (N.y ⊗ detE U V W) (num (pos 0))
    (given (crossE V W).y (dotE N U) (num (pos 0)) ∷ given (crossE W U).y (dotE N V) (num (pos 0)) ∷ given (crossE U V).y (dotE N W) (num (pos 0)) ∷ [])
    tt (of_point n (of_point u (of_point v (of_point w [])))) (eu, (ev, (ew, tt)))

plane_z : (n u v w : Point) → dot n u ≡ pos 0 → dot n v ≡ pos 0 → dot n w ≡ pos 0 → n.z *ℤ det u v w ≡ pos 0
unfolding same det
plane_z n u v w eu ev ew =
    let N = pointE 0 in
    let U = pointE 3 in
    let V = pointE 6 in
    let W = pointE 9 in
    ring_given (N.z ⊗ detE U V W) (num (pos 0))
    (given (crossE V W).z (dotE N U) (num (pos 0)) ∷ given (crossE W U).z (dotE N V) (num (pos 0)) ∷ given (crossE U V).z (dotE N W) (num (pos 0)) ∷ [])
    tt (of_point n (of_point u (of_point v (of_point w [])))) (eu, (ev, (ew, tt)))

det_of_plane : (n u v w : Point) → ¬ ((n.x ≡ pos 0) × (n.y ≡ pos 0) × (n.z ≡ pos 0)) → dot n u ≡ pos 0 → dot n v ≡ pos 0 → dot n w ≡ pos 0 → det u v w ≡ pos 0
det_of_plane n u v w some eu ev ew = by (some_coordinate n some)
  where
    by : (n.x ≢ pos 0) ⊎ ((n.y ≢ pos 0) ⊎ (n.z ≢ pos 0)) → det u v w ≡ pos 0
    by (inl k) = zero_factor n.x (det u v w) k (plane_x n u v w eu ev ew)
    by (inr (inl k)) = zero_factor n.y (det u v w) k (plane_y n u v w eu ev ew)
    by (inr (inr k)) = zero_factor n.z (det u v w) k (plane_z n u v w eu ev ew)

-- the vector between two points of a plane is at right angles to its normal
along_plane : (f : Triangle) (p q : Point) → side f p ≡ pos 0 → side f q ≡ pos 0 → dot (normal f) (from_to p q) ≡ pos 0
unfolding same det orient
along_plane f p q ep eq =
    let F = triangleE 0 in
    let P = pointE 9 in
    let Q = pointE 12 in
    ring_given (dotE (normalE F) (from_toE P Q)) (num (pos 0))
    (given (num (pos 1)) (sideE F Q) (num (pos 0)) ∷ given (neg (num (pos 1))) (sideE F P) (num (pos 0)) ∷ [])
    tt (of_triangle f (of_point p (of_point q []))) (eq, (ep, tt))

orient_by_vectors : (p q r s : Point) → det (from_to p q) (from_to p r) (from_to p s) ≡ pos 0 → orient p q r s ≡ pos 0
unfolding orient
orient_by_vectors p q r s e = e

-- four points of a plane that is spanned by a triangle
four_in_plane : (f : Triangle) → ¬ (((normal f).x ≡ pos 0) × ((normal f).y ≡ pos 0) × ((normal f).z ≡ pos 0)) → (p q r s : Point)
    → side f p ≡ pos 0 → side f q ≡ pos 0 → side f r ≡ pos 0 → side f s ≡ pos 0 → orient p q r s ≡ pos 0
four_in_plane f some p q r s ep eq er es =
    orient_by_vectors p q r s
    (det_of_plane (normal f) (from_to p q) (from_to p r) (from_to p s) some (along_plane f p q ep eq) (along_plane f p r ep er) (along_plane f p s ep es))

-- three points whose triangle has no normal lie on one line
on_line_of_normal : (a b c : Point) → (normal (record { a = a; b = b; c = c })).x ≡ pos 0 → (normal (record { a = a; b = b; c = c })).y ≡ pos 0
    → (normal (record { a = a; b = b; c = c })).z ≡ pos 0 → IsOnLine a b c
unfolding same
on_line_of_normal a b c ex ey ez =
    let F = triangleE 0 in
    let u = from_toE F.a F.b in
    let v = from_toE F.a F.c in
    let ρ = of_triangle (record { a = a; b = b; c = c }) [] in (
      ring_given (u.x ⊗ v.y) (u.y ⊗ v.x) (given (num (pos 1)) (normalE F).z (num (pos 0)) ∷ []) tt ρ (ez, tt),
      ring_given (u.x ⊗ v.z) (u.z ⊗ v.x) (given (neg (num (pos 1))) (normalE F).y (num (pos 0)) ∷ []) tt ρ (ey, tt),
      ring_given (u.y ⊗ v.z) (u.z ⊗ v.y) (given (num (pos 1)) (normalE F).x (num (pos 0)) ∷ []) tt ρ (ex, tt),
    )

-- all points lie in the plane through three of them that are not on one line
pub coplanar_of_plane : (ps : List Point) (a b c : Point) → ¬ IsOnLine a b c → ((i : ℕ) → i < length ps → orient a b c (point ps i) ≡ pos 0) → AreCoplanar ps
coplanar_of_plane ps a b c off each i j k l hi hj hk hl =
    four_in_plane (record { a = a; b = b; c = c }) (λ z. off (on_line_of_normal a b c z.0 z.1 z.2))
    (point ps i) (point ps j) (point ps k) (point ps l) (each i hi) (each j hj) (each k hk) (each l hl)

-- ---- three vectors along one that isn't 0 have determinant 0

-- v is along d: their cross product is zero
abbrev IsAlong : Point → Point → Type 0
IsAlong d v = (d.x *ℤ v.y ≡ d.y *ℤ v.x) × (d.x *ℤ v.z ≡ d.z *ℤ v.x) × (d.y *ℤ v.z ≡ d.z *ℤ v.y)

line_x : (d u v w : Point) → IsAlong d u → IsAlong d v → d.x *ℤ det u v w ≡ pos 0
unfolding same det
line_x d u v w eu ev =
    let D = pointE 0 in
    let U = pointE 3 in
    let V = pointE 6 in
    let W = pointE 9 in
    ring_given (D.x ⊗ detE U V W) (num (pos 0))
    (given (crossE V W).y (D.x ⊗ U.y) (D.y ⊗ U.x) ∷ given (crossE V W).z (D.x ⊗ U.z) (D.z ⊗ U.x)
    ∷ given (U.x ⊗ W.z) (D.x ⊗ V.y) (D.y ⊗ V.x) ∷ given (neg (U.x ⊗ W.y)) (D.x ⊗ V.z) (D.z ⊗ V.x) ∷ given (U.x ⊗ W.x) (D.y ⊗ V.z) (D.z ⊗ V.y) ∷ [])
    tt (of_point d (of_point u (of_point v (of_point w [])))) (eu.0, (eu.1, (ev.0, (ev.1, (ev.2, tt)))))

line_y : (d u v w : Point) → IsAlong d u → IsAlong d v → d.y *ℤ det u v w ≡ pos 0
unfolding same det
line_y d u v w eu ev =
    let D = pointE 0 in
    let U = pointE 3 in
    let V = pointE 6 in
    let W = pointE 9 in
    ring_given (D.y ⊗ detE U V W) (num (pos 0))
    (given (neg (crossE V W).x) (D.x ⊗ U.y) (D.y ⊗ U.x) ∷ given (crossE V W).z (D.y ⊗ U.z) (D.z ⊗ U.y)
    ∷ given (U.y ⊗ W.z) (D.x ⊗ V.y) (D.y ⊗ V.x) ∷ given (neg (U.y ⊗ W.y)) (D.x ⊗ V.z) (D.z ⊗ V.x) ∷ given (U.y ⊗ W.x) (D.y ⊗ V.z) (D.z ⊗ V.y) ∷ [])
    tt (of_point d (of_point u (of_point v (of_point w [])))) (eu.0, (eu.2, (ev.0, (ev.1, (ev.2, tt)))))

line_z : (d u v w : Point) → IsAlong d u → IsAlong d v → d.z *ℤ det u v w ≡ pos 0
unfolding same det
line_z d u v w eu ev =
    let D = pointE 0 in
    let U = pointE 3 in
    let V = pointE 6 in
    let W = pointE 9 in
    ring_given (D.z ⊗ detE U V W) (num (pos 0))
    (given (neg (crossE V W).x) (D.x ⊗ U.z) (D.z ⊗ U.x) ∷ given (neg (crossE V W).y) (D.y ⊗ U.z) (D.z ⊗ U.y)
    ∷ given (U.z ⊗ W.z) (D.x ⊗ V.y) (D.y ⊗ V.x) ∷ given (neg (U.z ⊗ W.y)) (D.x ⊗ V.z) (D.z ⊗ V.x) ∷ given (U.z ⊗ W.x) (D.y ⊗ V.z) (D.z ⊗ V.y) ∷ [])
    tt (of_point d (of_point u (of_point v (of_point w [])))) (eu.1, (eu.2, (ev.0, (ev.1, (ev.2, tt)))))

det_of_line : (d u v w : Point) → ¬ ((d.x ≡ pos 0) × (d.y ≡ pos 0) × (d.z ≡ pos 0)) → IsAlong d u → IsAlong d v → det u v w ≡ pos 0
det_of_line d u v w some eu ev = by (some_coordinate d some)
  where
    by : (d.x ≢ pos 0) ⊎ ((d.y ≢ pos 0) ⊎ (d.z ≢ pos 0)) → det u v w ≡ pos 0
    by (inl k) = zero_factor d.x (det u v w) k (line_x d u v w eu ev)
    by (inr (inl k)) = zero_factor d.y (det u v w) k (line_y d u v w eu ev)
    by (inr (inr k)) = zero_factor d.z (det u v w) k (line_z d u v w eu ev)

-- one equation of a cross product, from those of two points
along_part : (dx dy ax ay px py qx qy : ℤ) → dx *ℤ (py -ℤ ay) ≡ dy *ℤ (px -ℤ ax) → dx *ℤ (qy -ℤ ay) ≡ dy *ℤ (qx -ℤ ax) → dx *ℤ (qy -ℤ py) ≡ dy *ℤ (qx -ℤ px)
unfolding same
along_part dx dy ax ay px py qx qy ep eq =
    ring_given (var 0 ⊗ (var 7 ⊖ var 5)) (var 1 ⊗ (var 6 ⊖ var 4))
    (given (num (pos 1)) (var 0 ⊗ (var 7 ⊖ var 3)) (var 1 ⊗ (var 6 ⊖ var 2)) ∷ given (neg (num (pos 1))) (var 0 ⊗ (var 5 ⊖ var 3)) (var 1 ⊗ (var 4 ⊖ var 2)) ∷ [])
    tt (dx ∷ dy ∷ ax ∷ ay ∷ px ∷ py ∷ qx ∷ qy ∷ []) (eq, (ep, tt))

-- the vector between two points of a line is along it
along_line : (a b p q : Point) → IsOnLine a b p → IsOnLine a b q → IsAlong (from_to a b) (from_to p q)
along_line a b p q hp hq =
    let d = from_to a b in (
      along_part d.x d.y a.x a.y p.x p.y q.x q.y hp.0 hq.0,
      along_part d.x d.z a.x a.z p.x p.z q.x q.z hp.1 hq.1,
      along_part d.y d.z a.y a.z p.y p.z q.y q.z hp.2 hq.2,
    )

-- points with no difference are the same
same_point : (a b : Point) → ((from_to a b).x ≡ pos 0) × ((from_to a b).y ≡ pos 0) × ((from_to a b).z ≡ pos 0) → a ≡ b
unfolding same
same_point a b z =
    let part = λ (x y : ℤ) (e : y -ℤ x ≡ pos 0). ring_given (var 0) (var 1) (given (neg (num (pos 1))) (var 1 ⊖ var 0) (num (pos 0)) ∷ []) tt (x ∷ y ∷ []) (e, tt) in
    λ t. record { x = part a.x b.x z.0 t; y = part a.y b.y z.1 t; z = part a.z b.z z.2 t }

-- all points lie on the line through two of them
pub coplanar_of_line : (ps : List Point) (a b : Point) → a ≢ b → ((i : ℕ) → i < length ps → IsOnLine a b (point ps i)) → AreCoplanar ps
coplanar_of_line ps a b differ each i j k l hi hj hk hl =
    let p = point ps i in
    orient_by_vectors p (point ps j) (point ps k) (point ps l)
    (det_of_line (from_to a b) (from_to p (point ps j)) (from_to p (point ps k)) (from_to p (point ps l)) (λ z. differ (same_point a b z))
    (along_line a b p (point ps j) (each i hi) (each j hj)) (along_line a b p (point ps k) (each i hi) (each k hk)))

-- the first two points of a line are on it
pub on_line_first : (a b : Point) → IsOnLine a b a
unfolding same
on_line_first a b =
    let A = pointE 0 in
    let B = pointE 3 in
    let u = from_toE A B in
    let v = from_toE A A in
    let ρ = of_point a (of_point b []) in
    (ring (u.x ⊗ v.y) (u.y ⊗ v.x) tt ρ, ring (u.x ⊗ v.z) (u.z ⊗ v.x) tt ρ, ring (u.y ⊗ v.z) (u.z ⊗ v.y) tt ρ)

pub on_line_second : (a b : Point) → IsOnLine a b b
unfolding same
on_line_second a b =
    let A = pointE 0 in
    let B = pointE 3 in
    let u = from_toE A B in
    let ρ = of_point a (of_point b []) in
    (ring (u.x ⊗ u.y) (u.y ⊗ u.x) tt ρ, ring (u.x ⊗ u.z) (u.z ⊗ u.x) tt ρ, ring (u.y ⊗ u.z) (u.z ⊗ u.y) tt ρ)

-- ---- a point that stands twice

flat_ab : (p r s : Point) → orient p p r s ≡ pos 0
unfolding same det orient
flat_ab p r s = ring (orientE (pointE 0) (pointE 0) (pointE 3) (pointE 6)) (num (pos 0)) tt (of_point p (of_point r (of_point s [])))

flat_ac : (p q s : Point) → orient p q p s ≡ pos 0
unfolding same det orient
flat_ac p q s = ring (orientE (pointE 0) (pointE 3) (pointE 0) (pointE 6)) (num (pos 0)) tt (of_point p (of_point q (of_point s [])))

pub flat_ad : (p q r : Point) → orient p q r p ≡ pos 0
unfolding same det orient
flat_ad p q r = ring (orientE (pointE 0) (pointE 3) (pointE 6) (pointE 0)) (num (pos 0)) tt (of_point p (of_point q (of_point r [])))

flat_bc : (p q s : Point) → orient p q q s ≡ pos 0
unfolding same det orient
flat_bc p q s = ring (orientE (pointE 0) (pointE 3) (pointE 3) (pointE 6)) (num (pos 0)) tt (of_point p (of_point q (of_point s [])))

pub flat_bd : (p q r : Point) → orient p q r q ≡ pos 0
unfolding same det orient
flat_bd p q r = ring (orientE (pointE 0) (pointE 3) (pointE 6) (pointE 3)) (num (pos 0)) tt (of_point p (of_point q (of_point r [])))

flat_cd : (p q r : Point) → orient p q r r ≡ pos 0
unfolding same det orient
flat_cd p q r = ring (orientE (pointE 0) (pointE 3) (pointE 6) (pointE 6)) (num (pos 0)) tt (of_point p (of_point q (of_point r [])))

-- of four numbers below 3, two are equal
pub coplanar_of_few : (ps : List Point) → length ps < 4 → AreCoplanar ps
coplanar_of_few ps few i j k l hi hj hk hl =
    by (cases_eq i j) (cases_eq i k) (cases_eq i l) (cases_eq j k) (cases_eq j l) (cases_eq k l)
  where
    by : (i ≡ j) ⊎ (i ≢ j) → (i ≡ k) ⊎ (i ≢ k) → (i ≡ l) ⊎ (i ≢ l) → (j ≡ k) ⊎ (j ≢ k) → (j ≡ l) ⊎ (j ≢ l) → (k ≡ l) ⊎ (k ≢ l)
        → orient (point ps i) (point ps j) (point ps k) (point ps l) ≡ pos 0
    by (inl e) _ _ _ _ _ = ap (λ n. orient (point ps n) (point ps j) (point ps k) (point ps l)) e ∙ flat_ab (point ps j) (point ps k) (point ps l)
    by _ (inl e) _ _ _ _ = ap (λ n. orient (point ps n) (point ps j) (point ps k) (point ps l)) e ∙ flat_ac (point ps k) (point ps j) (point ps l)
    by _ _ (inl e) _ _ _ = ap (λ n. orient (point ps n) (point ps j) (point ps k) (point ps l)) e ∙ flat_ad (point ps l) (point ps j) (point ps k)
    by _ _ _ (inl e) _ _ = ap (λ n. orient (point ps i) (point ps n) (point ps k) (point ps l)) e ∙ flat_bc (point ps i) (point ps k) (point ps l)
    by _ _ _ _ (inl e) _ = ap (λ n. orient (point ps i) (point ps n) (point ps k) (point ps l)) e ∙ flat_bd (point ps i) (point ps l) (point ps k)
    by _ _ _ _ _ (inl e) = ap (λ n. orient (point ps i) (point ps j) (point ps n) (point ps l)) e ∙ flat_cd (point ps i) (point ps j) (point ps l)
    by (inr a) (inr b) (inr c) (inr d) (inr e) (inr f) = absurd (omega arith)
