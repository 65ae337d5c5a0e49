-- On which hand of a side corners lie that are in one plane with it.
use Rattle.std.proofs.Common.{◌≡◌, ◌≢◌, ℕ, Bool, true, false, not, List, [], ◌∷◌, refl, ap, sym, ◌∙◌, subst, arith}
use Rattle.std.specs.Prelude.{ℤ, pos, neg_ℤ, ◌+ℤ◌, ◌-ℤ◌, ◌*ℤ◌, ◌<ℤ◌, ◌≤ℤ◌}
use Rattle.std.specs.List.{list_any}
use Rattle.std.proofs.lemmas.Int.{ints}
use Rattle.exact_algebra.proofs.Ring.{ring, same, ring_given, given, var, num, neg, ◌⊕◌, ◌⊖◌, ◌⊗◌}
use Rattle.exact_algebra.proofs.Signs.{nonneg_of_mul}
use Rattle.sign_predicates.specs.Point.{Point, from_to}
use Rattle.sign_predicates.specs.Orientation.{dot, cross, det, orient}
use Rattle.geo_laws.specs.Delaunay.{point}
use Rattle.geo_laws.specs.Facet.{spans_plane}
use Rattle.geo_laws.specs.Segment.{is_zero_vector}
use Rattle.geo_laws.specs.declared.complex.Piece.{Piece}
use Rattle.geo_laws.proofs.Members.{IsMember, some_true, any_true}
use Rattle.facet_laws.proofs.Circles.{squares_above}
use Rattle.facet_laws.proofs.PlaneOf.{IsZero, zero_of, test_of, along, apart}
use Rattle.merged_facets.specs.Merged.{has_span, alike_turned}

-- ---- the dot products of three vectors, of which one is along both others

-- (a . a) (b . c) = (a . b) (a . c) + (a x b) . (a x c)
products : (a1 a2 a3 b1 b2 b3 c1 c2 c3 : ℤ) → a2 *ℤ b3 -ℤ a3 *ℤ b2 ≡ pos 0 → a3 *ℤ b1 -ℤ a1 *ℤ b3 ≡ pos 0 → a1 *ℤ b2 -ℤ a2 *ℤ b1 ≡ pos 0
    → (a1 *ℤ a1 +ℤ a2 *ℤ a2 +ℤ a3 *ℤ a3) *ℤ (b1 *ℤ c1 +ℤ b2 *ℤ c2 +ℤ b3 *ℤ c3) ≡ (a1 *ℤ b1 +ℤ a2 *ℤ b2 +ℤ a3 *ℤ b3) *ℤ (a1 *ℤ c1 +ℤ a2 *ℤ c2 +ℤ a3 *ℤ c3)
unfolding same
products a1 a2 a3 b1 b2 b3 c1 c2 c3 e f g =
    ring_given ((var 0 ⊗ var 0 ⊕ var 1 ⊗ var 1 ⊕ var 2 ⊗ var 2) ⊗ (var 3 ⊗ var 6 ⊕ var 4 ⊗ var 7 ⊕ var 5 ⊗ var 8))
    ((var 0 ⊗ var 3 ⊕ var 1 ⊗ var 4 ⊕ var 2 ⊗ var 5) ⊗ (var 0 ⊗ var 6 ⊕ var 1 ⊗ var 7 ⊕ var 2 ⊗ var 8))
    (given (var 1 ⊗ var 8 ⊖ var 2 ⊗ var 7) (var 1 ⊗ var 5 ⊖ var 2 ⊗ var 4) (num (pos 0)) ∷ given (var 2 ⊗ var 6 ⊖ var 0 ⊗ var 8) (var 2 ⊗ var 3 ⊖ var 0 ⊗ var 5) (num (pos 0))
    ∷ given (var 0 ⊗ var 7 ⊖ var 1 ⊗ var 6) (var 0 ⊗ var 4 ⊖ var 1 ⊗ var 3) (num (pos 0)) ∷ [])
    tt (a1 ∷ a2 ∷ a3 ∷ b1 ∷ b2 ∷ b3 ∷ c1 ∷ c2 ∷ c3 ∷ []) (e, (f, (g, tt)))

pub along_products : (a b c : Point) → IsZero (cross a b) → dot a a *ℤ dot b c ≡ dot a b *ℤ dot a c
along_products a b c z = products a.x a.y a.z b.x b.y b.z c.x c.y c.z z.at_x z.at_y z.at_z

-- ---- crosses with one vector are along each other where the three lie in one plane

-- a coordinate of (d x u) x (d x v), which is det d u v times d
plane_part : (d1 d2 d3 u1 u2 u3 v1 v2 v3 : ℤ) → d1 *ℤ (u2 *ℤ v3 -ℤ u3 *ℤ v2) -ℤ d2 *ℤ (u1 *ℤ v3 -ℤ u3 *ℤ v1) +ℤ d3 *ℤ (u1 *ℤ v2 -ℤ u2 *ℤ v1) ≡ pos 0
    → (d3 *ℤ u1 -ℤ d1 *ℤ u3) *ℤ (d1 *ℤ v2 -ℤ d2 *ℤ v1) -ℤ (d1 *ℤ u2 -ℤ d2 *ℤ u1) *ℤ (d3 *ℤ v1 -ℤ d1 *ℤ v3) ≡ pos 0
unfolding same
plane_part d1 d2 d3 u1 u2 u3 v1 v2 v3 e =
    ring_given ((var 2 ⊗ var 3 ⊖ var 0 ⊗ var 5) ⊗ (var 0 ⊗ var 7 ⊖ var 1 ⊗ var 6) ⊖ (var 0 ⊗ var 4 ⊖ var 1 ⊗ var 3) ⊗ (var 2 ⊗ var 6 ⊖ var 0 ⊗ var 8)) (num (pos 0))
    (given (var 0) (var 0 ⊗ (var 4 ⊗ var 8 ⊖ var 5 ⊗ var 7) ⊖ var 1 ⊗ (var 3 ⊗ var 8 ⊖ var 5 ⊗ var 6) ⊕ var 2 ⊗ (var 3 ⊗ var 7 ⊖ var 4 ⊗ var 6)) (num (pos 0)) ∷ [])
    tt (d1 ∷ d2 ∷ d3 ∷ u1 ∷ u2 ∷ u3 ∷ v1 ∷ v2 ∷ v3 ∷ []) (e, tt)

turn_det : (d1 d2 d3 u1 u2 u3 v1 v2 v3 : ℤ) → d1 *ℤ (u2 *ℤ v3 -ℤ u3 *ℤ v2) -ℤ d2 *ℤ (u1 *ℤ v3 -ℤ u3 *ℤ v1) +ℤ d3 *ℤ (u1 *ℤ v2 -ℤ u2 *ℤ v1) ≡ pos 0
    → d2 *ℤ (u3 *ℤ v1 -ℤ u1 *ℤ v3) -ℤ d3 *ℤ (u2 *ℤ v1 -ℤ u1 *ℤ v2) +ℤ d1 *ℤ (u2 *ℤ v3 -ℤ u3 *ℤ v2) ≡ pos 0
unfolding same
turn_det d1 d2 d3 u1 u2 u3 v1 v2 v3 e =
    ring_given (var 1 ⊗ (var 5 ⊗ var 6 ⊖ var 3 ⊗ var 8) ⊖ var 2 ⊗ (var 4 ⊗ var 6 ⊖ var 3 ⊗ var 7) ⊕ var 0 ⊗ (var 4 ⊗ var 8 ⊖ var 5 ⊗ var 7)) (num (pos 0))
    (given (num (pos 1)) (var 0 ⊗ (var 4 ⊗ var 8 ⊖ var 5 ⊗ var 7) ⊖ var 1 ⊗ (var 3 ⊗ var 8 ⊖ var 5 ⊗ var 6) ⊕ var 2 ⊗ (var 3 ⊗ var 7 ⊖ var 4 ⊗ var 6)) (num (pos 0)) ∷ [])
    tt (d1 ∷ d2 ∷ d3 ∷ u1 ∷ u2 ∷ u3 ∷ v1 ∷ v2 ∷ v3 ∷ []) (e, tt)

pub crosses_along : (d u v : Point) → det d u v ≡ pos 0 → IsZero (cross (cross d u) (cross d v))
unfolding det
crosses_along d u v e =
    let f = turn_det d.x d.y d.z u.x u.y u.z v.x v.y v.z e in
    let g = turn_det d.y d.z d.x u.y u.z u.x v.y v.z v.x f in
    record {
      at_x = plane_part d.x d.y d.z u.x u.y u.z v.x v.y v.z e;
      at_y = plane_part d.y d.z d.x u.y u.z u.x v.y v.z v.x f;
      at_z = plane_part d.z d.x d.y u.z u.x u.y v.z v.x v.y g;
    }

-- ---- corners by the sign of their turns

-- the square of how far i is from the line of the side
abbrev pub off : List Point → Piece → ℕ → ℤ
off ps s i = alike_turned ps s i i

pub in_plane_products : (ps : List Point) (s : Piece) (w i j : ℕ) → orient (point ps s.a) (point ps s.b) (point ps w) (point ps i) ≡ pos 0
    → off ps s w *ℤ alike_turned ps s i j ≡ alike_turned ps s w i *ℤ alike_turned ps s w j
unfolding orient
in_plane_products ps s w i j e =
    let d = from_to (point ps s.a) (point ps s.b) in
    let u = from_to (point ps s.a) (point ps w) in
    let v = from_to (point ps s.a) (point ps i) in
    along_products (cross d u) (cross d v) (cross d (from_to (point ps s.a) (point ps j))) (crosses_along d u v e)

above_product : (p q : ℤ) → pos 0 ≤ℤ p → pos 0 ≤ℤ q → pos 0 ≤ℤ (p *ℤ q)
above_product (pos m) (pos n) hp hq = nonneg m n
  where
    nonneg : (m n : ℕ) → pos 0 ≤ℤ (pos m *ℤ pos n)
    nonneg m n = grind (arith, ints)
above_product p q hp hq = absurd (omega (arith, ints))

neg_product : (p q : ℤ) → neg_ℤ p *ℤ neg_ℤ q ≡ p *ℤ q
unfolding same
neg_product p q = ring (neg (var 0) ⊗ neg (var 1)) (var 0 ⊗ var 1) tt (p ∷ q ∷ [])

neg_second : (p q : ℤ) → p *ℤ neg_ℤ q ≡ neg_ℤ (p *ℤ q)
unfolding same
neg_second p q = ring (var 0 ⊗ neg (var 1)) (neg (var 0 ⊗ var 1)) tt (p ∷ q ∷ [])

negated : (p : ℤ) → p ≤ℤ pos 0 → pos 0 ≤ℤ neg_ℤ p
negated p h = omega (arith, ints)

-- corners on the same hand as w
pub both_beside : (ps : List Point) (s : Piece) (w i j : ℕ) → pos 0 <ℤ off ps s w → orient (point ps s.a) (point ps s.b) (point ps w) (point ps i) ≡ pos 0
    → pos 0 ≤ℤ alike_turned ps s w i → pos 0 ≤ℤ alike_turned ps s w j → pos 0 ≤ℤ alike_turned ps s i j
both_beside ps s w i j far e hi hj =
    nonneg_of_mul (off ps s w) (alike_turned ps s i j) far
    (subst (λ n. pos 0 ≤ℤ n) (sym (in_plane_products ps s w i j e)) (above_product (alike_turned ps s w i) (alike_turned ps s w j) hi hj))

-- corners on the other hand
pub both_beyond : (ps : List Point) (s : Piece) (w i j : ℕ) → pos 0 <ℤ off ps s w → orient (point ps s.a) (point ps s.b) (point ps w) (point ps i) ≡ pos 0
    → alike_turned ps s w i ≤ℤ pos 0 → alike_turned ps s w j ≤ℤ pos 0 → pos 0 ≤ℤ alike_turned ps s i j
both_beyond ps s w i j far e hi hj =
    nonneg_of_mul (off ps s w) (alike_turned ps s i j) far
    (subst (λ n. pos 0 ≤ℤ n) (neg_product (alike_turned ps s w i) (alike_turned ps s w j) ∙ sym (in_plane_products ps s w i j e))
    (above_product (neg_ℤ (alike_turned ps s w i)) (neg_ℤ (alike_turned ps s w j)) (negated _ hi) (negated _ hj)))

-- one on each
pub either_beside : (ps : List Point) (s : Piece) (w i j : ℕ) → pos 0 <ℤ off ps s w → orient (point ps s.a) (point ps s.b) (point ps w) (point ps i) ≡ pos 0
    → pos 0 ≤ℤ alike_turned ps s w i → alike_turned ps s w j ≤ℤ pos 0 → alike_turned ps s i j ≤ℤ pos 0
either_beside ps s w i j far e hi hj =
    back (alike_turned ps s i j) (nonneg_of_mul (off ps s w) (neg_ℤ (alike_turned ps s i j)) far
    (subst (λ n. pos 0 ≤ℤ n) (neg_second (alike_turned ps s w i) (alike_turned ps s w j) ∙ ap neg_ℤ (sym (in_plane_products ps s w i j e)) ∙ sym (neg_second (off ps s w) (alike_turned ps s i j)))
    (above_product (alike_turned ps s w i) (neg_ℤ (alike_turned ps s w j)) hi (negated _ hj))))
  where
    back : (n : ℤ) → pos 0 ≤ℤ neg_ℤ n → n ≤ℤ pos 0
    back n h = omega (arith, ints)

-- ---- corners off the line

pub spans_off : (ps : List Point) (s : Piece) (i : ℕ) → spans_plane ps s.a s.b i ≡ true → pos 0 <ℤ off ps s i
spans_off ps s i e =
    let n = cross (from_to (point ps s.a) (point ps s.b)) (from_to (point ps s.a) (point ps i)) in
    squares_above n.x n.y n.z (λ z. clash (is_zero_vector n) (test_of n (record { at_x = z.0; at_y = z.1; at_z = z.2 })) e)
  where
    clash : (b : Bool) → b ≡ true → not b ≡ true → ⊥
    clash true h k = cc
    clash false h k = cc

not_true : (b : Bool) → not b ≡ false → b ≡ true
not_true true e = refl
not_true false e = cc

-- where no corner is off the line of a side, no three span a plane
pub no_span : (ps : List Point) (s : Piece) (p : List ℕ) → point ps s.a ≢ point ps s.b → ((i : ℕ) → IsMember i p → spans_plane ps s.a s.b i ≡ false) → has_span ps p ≡ true → ⊥
no_span ps s p differ none e =
    let a = some_true (λ a. list_any (λ b. list_any (λ c. spans_plane ps a b c) p) p) p e in
    let b = some_true (λ b. list_any (λ c. spans_plane ps a.0 b c) p) p a.2 in
    let c = some_true (λ c. spans_plane ps a.0 b.0 c) p b.2 in
    clash (is_zero_vector (cross (from_to (point ps a.0) (point ps b.0)) (from_to (point ps a.0) (point ps c.0))))
    (test_of (cross (from_to (point ps a.0) (point ps b.0)) (from_to (point ps a.0) (point ps c.0))) (along d (from_to (point ps a.0) (point ps b.0)) (from_to (point ps a.0) (point ps c.0)) long
    (apart d (point ps s.a) (point ps a.0) (point ps b.0) (on a.0 a.1) (on b.0 b.1))
    (apart d (point ps s.a) (point ps a.0) (point ps c.0) (on a.0 a.1) (on c.0 c.1))))
    c.2
  where
    clash : (b : Bool) → b ≡ true → not b ≡ true → ⊥
    clash true h k = cc
    clash false h k = cc

    d : Point
    d = from_to (point ps s.a) (point ps s.b)

    zero_apart : (a b : ℤ) → b -ℤ a ≡ pos 0 → a ≡ b
    zero_apart a b e = omega (arith, ints)

    long : ¬ (((from_to (point ps s.a) (point ps s.b)).x ≡ pos 0) × ((from_to (point ps s.a) (point ps s.b)).y ≡ pos 0) × ((from_to (point ps s.a) (point ps s.b)).z ≡ pos 0))
    long z = differ (λ j. record { x = zero_apart (point ps s.a).x (point ps s.b).x z.0 j; y = zero_apart (point ps s.a).y (point ps s.b).y z.1 j; z = zero_apart (point ps s.a).z (point ps s.b).z z.2 j })

    on : (i : ℕ) → IsMember i p → IsZero (cross (from_to (point ps s.a) (point ps s.b)) (from_to (point ps s.a) (point ps i)))
    on i m = zero_of (cross (from_to (point ps s.a) (point ps s.b)) (from_to (point ps s.a) (point ps i))) (not_true (is_zero_vector (cross (from_to (point ps s.a) (point ps s.b)) (from_to (point ps s.a) (point ps i)))) (none i m))

pub has_three : (ps : List Point) (p : List ℕ) (a b c : ℕ) → IsMember a p → IsMember b p → IsMember c p → spans_plane ps a b c ≡ true → has_span ps p ≡ true
has_three ps p a b c ma mb mc e =
    any_true (λ a. list_any (λ b. list_any (λ c. spans_plane ps a b c) p) p) p a ma
    (any_true (λ b. list_any (λ c. spans_plane ps a b c) p) p b mb (any_true (λ c. spans_plane ps a b c) p c mc e))
