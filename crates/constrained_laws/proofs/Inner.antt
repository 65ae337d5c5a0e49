-- A point of a closed tetrahedron that is no corner of it is in its circumsphere, where points differ.
use Rattle.std.proofs.Common.{◌≡◌, ◌≢◌, ◌⊎◌, inl, inr, ℕ, ◌<◌, ℤ, pos, neg_ℤ, ◌+ℤ◌, ◌-ℤ◌, ◌*ℤ◌, ◌<ℤ◌, ◌≤ℤ◌, Bool, true, false, List, [], length, refl, sym, subst, ◌∙◌, arith}
use Rattle.std.specs.Prelude.{Contains}
use Rattle.std.proofs.lemmas.Int.{ints}
use Rattle.exact_algebra.proofs.Ring.{ring, same, ◌⊕◌, ◌⊗◌}
use Rattle.exact_algebra.proofs.Signs.{mul_pos, mul_nonneg, nonneg_of_pos, pos_of_nonneg, square_nonneg, squares_zero, pos_or_not}
use Rattle.sign_predicates.proofs.Terms.{cornersE, pointE, of_point, of_corners, sideE, from_toE, square_lengthE, in_sphereE}
use Rattle.sign_predicates.specs.Point.{Point, from_to}
use Rattle.sign_predicates.specs.Sphere.{square_length, in_sphere}
use Rattle.sign_predicates.specs.Orientation.{side, orient, det, IsPositive}
use Rattle.sign_predicates.specs.declared.tetrahedron.Corners.{Corners}
use Rattle.geo_laws.specs.Delaunay.{point, corners, numbers, is_outside_of, HasDistinctPoints, IsOn}
use Rattle.geo_laws.specs.Height.{IsLexPositive, residual_at, residual, lifted}
use Rattle.geo_laws.specs.declared.tetrahedra.Tet.{Tet}
use Rattle.sign_predicates.proofs.Places.{Place, A, B, C, D, opposite, corner, cornerE, oppositeE}
use Rattle.geo_laws.proofs.Places.{number, corner-point, over_places}
use Rattle.geo_laws.proofs.Determinants.{sides-sum, sphere-lift}
use Rattle.geo_laws.proofs.Corners.{contains_corner, on_corner}
use Rattle.geo_laws.proofs.Lift.{law_lift}
use Rattle.geo_laws.proofs.Ties.{order}

-- the sphere sum of a point is that of its squared distances from the corners, each times its weight there
spread : (t : Corners) (e : Point) → over_places (λ u. side (opposite t u) e *ℤ square_length (from_to e (corner t u))) ≡ in_sphere t e
unfolding same det orient in_sphere
spread t e =
    let part = λ (u : Place). sideE (oppositeE (cornersE 0) u) (pointE 12) ⊗ square_lengthE (from_toE (pointE 12) (cornerE (cornersE 0) u)) in
    ring (part A ⊕ part B ⊕ part C ⊕ part D) (in_sphereE (cornersE 0) (pointE 12)) tt (of_corners t (of_point e []))

-- ---- squared distances

three_nonneg : (a b c : ℤ) → pos 0 ≤ℤ a → pos 0 ≤ℤ b → pos 0 ≤ℤ c → pos 0 ≤ℤ (a +ℤ b +ℤ c)
three_nonneg a b c ha hb hc = omega (arith, ints)

length_nonneg : (v : Point) → pos 0 ≤ℤ square_length v
length_nonneg v = three_nonneg (v.x *ℤ v.x) (v.y *ℤ v.y) (v.z *ℤ v.z) (square_nonneg v.x) (square_nonneg v.y) (square_nonneg v.z)

same_of_difference : (a b : ℤ) → a -ℤ b ≡ pos 0 → b ≡ a
same_of_difference a b e = omega (arith, ints)

-- different points are apart
length_above : (p q : Point) → p ≢ q → pos 0 <ℤ square_length (from_to p q)
length_above p q n = pos_of_nonneg _ (length_nonneg (from_to p q)) (λ e. n (same (squares_zero (q.x -ℤ p.x) (q.y -ℤ p.y) (q.z -ℤ p.z) e)))
  where
    same : (q.x -ℤ p.x ≡ pos 0) × (q.y -ℤ p.y ≡ pos 0) × (q.z -ℤ p.z ≡ pos 0) → p ≡ q
    same h = λ j. record { x = same_of_difference q.x p.x h.0 j; y = same_of_difference q.y p.y h.1 j; z = same_of_difference q.z p.z h.2 j }

-- two numbers of one point are the same
same_number : (ps : List Point) → HasDistinctPoints ps → (i j : ℕ) → i < length ps → j < length ps → point ps i ≡ point ps j → i ≡ j
same_number ps distinct i j within_i within_j e = go (order i j)
  where
    go : (i < j) ⊎ ((i ≡ j) ⊎ (j < i)) → i ≡ j
    go (inl l) = absurd (distinct i j l within_j e)
    go (inr (inl d)) = d
    go (inr (inr l)) = absurd (distinct j i l within_i (sym e))

-- ---- the sphere sum

-- of four products of numbers that are at least 0, where the first four have a sum above 0 and the others are above 0
sum_above : (s d : Place → ℤ) → ((u : Place) → pos 0 ≤ℤ s u) → ((u : Place) → pos 0 <ℤ d u) → pos 0 <ℤ over_places s → pos 0 <ℤ over_places (λ u. s u *ℤ d u)
sum_above s d least apart total = go (pos_or_not (s A)) (pos_or_not (s B)) (pos_or_not (s C)) (pos_or_not (s D))
  where
    none : (a b c d : ℤ) → a ≤ℤ pos 0 → b ≤ℤ pos 0 → c ≤ℤ pos 0 → d ≤ℤ pos 0 → pos 0 <ℤ (a +ℤ b +ℤ c +ℤ d) → ⊥
    none a b c d ha hb hc hd h = omega (arith, ints)

    part : (u : Place) → pos 0 ≤ℤ (s u *ℤ d u)
    part u = mul_nonneg (s u) (d u) (least u) (nonneg_of_pos _ (apart u))

    some : (a b c d : ℤ) → pos 0 ≤ℤ a → pos 0 ≤ℤ b → pos 0 ≤ℤ c → pos 0 ≤ℤ d → (pos 0 <ℤ a) ⊎ ((pos 0 <ℤ b) ⊎ ((pos 0 <ℤ c) ⊎ (pos 0 <ℤ d))) → pos 0 <ℤ (a +ℤ b +ℤ c +ℤ d)
    some a b c d ha hb hc hd (inl h) = omega (arith, ints)
    some a b c d ha hb hc hd (inr (inl h)) = omega (arith, ints)
    some a b c d ha hb hc hd (inr (inr (inl h))) = omega (arith, ints)
    some a b c d ha hb hc hd (inr (inr (inr h))) = omega (arith, ints)

    above : (u : Place) → pos 0 <ℤ s u → pos 0 <ℤ (s u *ℤ d u)
    above u h = mul_pos (s u) (d u) h (apart u)

    sum : (pos 0 <ℤ (s A *ℤ d A)) ⊎ ((pos 0 <ℤ (s B *ℤ d B)) ⊎ ((pos 0 <ℤ (s C *ℤ d C)) ⊎ (pos 0 <ℤ (s D *ℤ d D)))) → pos 0 <ℤ over_places (λ u. s u *ℤ d u)
    sum h = some _ _ _ _ (part A) (part B) (part C) (part D) h

    go : (pos 0 <ℤ s A) ⊎ (s A ≤ℤ pos 0) → (pos 0 <ℤ s B) ⊎ (s B ≤ℤ pos 0) → (pos 0 <ℤ s C) ⊎ (s C ≤ℤ pos 0) → (pos 0 <ℤ s D) ⊎ (s D ≤ℤ pos 0) → pos 0 <ℤ over_places (λ u. s u *ℤ d u)
    go (inl h) _ _ _ = sum (inl (above A h))
    go (inr _) (inl h) _ _ = sum (inr (inl (above B h)))
    go (inr _) (inr _) (inl h) _ = sum (inr (inr (inl (above C h))))
    go (inr _) (inr _) (inr _) (inl h) = sum (inr (inr (inr (above D h))))
    go (inr a) (inr b) (inr c) (inr d) = absurd (none _ _ _ _ a b c d total)

pub not_outside : (ps : List Point) → HasDistinctPoints ps → (t : Tet) → IsOn ps t → IsPositive (corners ps t) → (i : ℕ) → i < length ps → ¬ Contains (numbers t) i
    → ((u : Place) → pos 0 ≤ℤ side (opposite (corners ps t) u) (point ps i)) → is_outside_of ps t i ≡ false
not_outside ps distinct t on p i within further least = go (is_outside_of ps t i) refl
  where
    apart : (u : Place) → pos 0 <ℤ square_length (from_to (point ps i) (corner (corners ps t) u))
    apart u = length_above (point ps i) (corner (corners ps t) u) (λ e. further (contains_corner t i (u, same_number ps distinct i (number t u) within (on_corner ps t on u) (e ∙ corner-point ps t u))))

    inside : pos 0 <ℤ in_sphere (corners ps t) (point ps i)
    inside = subst (λ a. pos 0 <ℤ a) (spread (corners ps t) (point ps i))
        (sum_above (λ u. side (opposite (corners ps t) u) (point ps i)) (λ u. square_length (from_to (point ps i) (corner (corners ps t) u))) least apart (subst (λ a. pos 0 <ℤ a) (sym (sides-sum (corners ps t) (point ps i))) p))

    first_is : residual_at ps (lifted ps) t i 0 ≡ neg_ℤ (in_sphere (corners ps t) (point ps i))
    first_is = sphere-lift (corners ps t) (point ps i)

    above : (a s : ℤ) → a ≡ neg_ℤ s → pos 0 <ℤ s → pos 0 <ℤ a → ⊥
    above a s e h k = omega (arith, ints)

    flat : (a s : ℤ) → a ≡ neg_ℤ s → pos 0 <ℤ s → a ≡ pos 0 → ⊥
    flat a s e h k = omega (arith, ints)

    clash : IsLexPositive (residual ps (lifted ps) t i) → ⊥
    clash (inl h) = above _ _ first_is inside h
    clash (inr h) = flat _ _ first_is inside h.0

    go : (b : Bool) → is_outside_of ps t i ≡ b → is_outside_of ps t i ≡ false
    go true e = absurd (clash ((law_lift ps t i on within p further).0 e))
    go false e = e
