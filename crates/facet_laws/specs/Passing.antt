-- Legs that pass through sides of polygons, and sides that two polygons have in common, one on either hand.
use Rattle.std.specs.Prelude.{◌≡◌, ◌≢◌, ◌⊎◌, ℕ, ◌%◌, pos, ◌*ℤ◌, ◌<ℤ◌, ◌≤ℤ◌, Bool, true, false, ◌==◌, count_by, IsTrue, List, [], Contains}
use Rattle.std.specs.List.{AllByRecursion}
use Rattle.sign_predicates.specs.Point.{Point, RationalPoint, EachRational, as_rational}
use Rattle.sign_predicates.specs.Orientation.{Triangle, normal, side, side_rational}
use Rattle.geo_laws.specs.Delaunay.{point}
use Rattle.geo_laws.specs.Segment.{sides, same_ends}
use Rattle.geo_laws.specs.Facet.{Facet, Axis, areas, is_round, is_within, is_on_piece}
use Rattle.geo_laws.specs.declared.complex.Piece.{Piece}
use Rattle.facet_laws.specs.Legs.{IsWeightedMean, IsClear, dropped}
use Rattle.facet_laws.specs.Parity.{xor}

-- the plane g holds the side from a to b, and the leg passes through it where it passes through the side, at no end of it
pub record PassesThrough (x y : RationalPoint) (a b : Point) : Type 0 where
  pub g : Triangle
  pub a_on : side g a ≡ pos 0
  pub b_on : side g b ≡ pos 0
  pub x_side : pos 0 <ℤ side_rational g x
  pub y_side : side_rational g y <ℤ pos 0
  pub ends : a ≢ b
  pub at : RationalPoint
  pub weight : pos 0 <ℤ at.w
  pub leg : IsWeightedMean x y at
  pub part : IsWeightedMean (as_rational a) (as_rational b) at
  pub a_weighs : pos 0 <ℤ part.to_x
  pub b_weighs : pos 0 <ℤ part.to_y

-- the leg passes through the side, from either hand, or has no common point with it
abbrev pub PassesOrClear : RationalPoint → RationalPoint → Point → Point → Bool → Type 0
PassesOrClear x y a b true = PassesThrough x y a b ⊎ PassesThrough y x a b
PassesOrClear x y a b false = IsClear x y a b

-- Where a leg passes through some sides of a polygon and meets no others, the polygon is round the one end and not round the other exactly
-- where the number of the sides is odd
abbrev pub PassingLaw : Type 0
PassingLaw = (ps : List Point) (f : Triangle) (axis : Axis) (polygon : List ℕ) (passed : Piece → Bool) → dropped axis (normal f) ≢ pos 0
    → AllByRecursion (λ i. side f (point ps i) ≡ pos 0) polygon
    → EachRational (λ x. side_rational f x ≡ pos 0 → EachRational (λ y. side_rational f y ≡ pos 0
    → AllByRecursion (λ s. PassesOrClear x y (point ps s.a) (point ps s.b) (passed s)) (sides polygon)
    → xor (is_round ps axis polygon x) (is_round ps axis polygon y) ≡ (count_by passed (sides polygon) % 2 == 1)))

-- the polygon lies in the half space and in the plane f
abbrev pub LiesBeside : List Point → Triangle → Triangle → List ℕ → Type 0
LiesBeside ps f g polygon = AllByRecursion (λ i. (side f (point ps i) ≡ pos 0) × (pos 0 ≤ℤ side g (point ps i))) polygon

-- A polygon on one side of one of its sides, which stands in it at one place, and a leg that passes through that side and meets no others:
-- the polygon is round the end on its side and not round the other
abbrev pub BesideLaw : Type 0
BesideLaw = (ps : List Point) (f : Triangle) (axis : Axis) (polygon : List ℕ) (s : Piece) → dropped axis (normal f) ≢ pos 0
    → EachRational (λ x. side_rational f x ≡ pos 0 → EachRational (λ y. side_rational f y ≡ pos 0
    → (p : PassesThrough x y (point ps s.a) (point ps s.b)) → LiesBeside ps f p.g polygon → (count_by (same_ends s) (sides polygon) ≡ 1)
    → AllByRecursion (λ r. same_ends s r ≡ false → IsClear x y (point ps r.a) (point ps r.b)) (sides polygon)
    → AllByRecursion (λ r. is_on_piece ps r y ≡ false) (sides polygon)
    → (is_round ps axis polygon x ≡ true) × (is_round ps axis polygon y ≡ false)))

-- ---- a side that two polygons have in common

-- the polygon lies in the other half space and in the plane f
abbrev pub LiesBeyond : List Point → Triangle → Triangle → List ℕ → Type 0
LiesBeyond ps f g polygon = AllByRecursion (λ i. (side f (point ps i) ≡ pos 0) × (side g (point ps i) ≤ℤ pos 0)) polygon

-- the leg meets no side of the polygon but s, which the polygon has at one place, and its ends are on no side
pub record MeetsOnly (ps : List Point) (x y : RationalPoint) (s : Piece) (polygon : List ℕ) : Type 0 where
  pub once : count_by (same_ends s) (sides polygon) ≡ 1
  pub clear : AllByRecursion (λ r. same_ends s r ≡ false → IsClear x y (point ps r.a) (point ps r.b)) (sides polygon)
  pub x_off : AllByRecursion (λ r. is_on_piece ps r x ≡ false) (sides polygon)
  pub y_off : AllByRecursion (λ r. is_on_piece ps r y ≡ false) (sides polygon)

-- A side with one polygon on the one hand and one on the other: a leg that passes through it and meets no other side of the two leads from
-- inside of the first to inside of the second
abbrev pub CommonSideLaw : Type 0
CommonSideLaw = (ps : List Point) (f : Triangle) (axis : Axis) (p q : List ℕ) (s : Piece) → dropped axis (normal f) ≢ pos 0
    → EachRational (λ x. side_rational f x ≡ pos 0 → EachRational (λ y. side_rational f y ≡ pos 0
    → (h : PassesThrough x y (point ps s.a) (point ps s.b)) → LiesBeside ps f h.g p → LiesBeyond ps f h.g q → MeetsOnly ps x y s p
    → MeetsOnly ps x y s q
    → (is_round ps axis p x ≡ true) × (is_round ps axis p y ≡ false) × (is_round ps axis q x ≡ false) × (is_round ps axis q y ≡ true)))

-- where a facet without hole points has both polygons of an inner side, both ends of the leg lie within the facet
abbrev pub InnerSideLaw : Type 0
InnerSideLaw = (ps : List Point) (facet : Facet) (f : Triangle) (axis : Axis) (p q : List ℕ) (s : Piece) → dropped axis (normal f) ≢ pos 0
    → facet.holes ≡ [] → Contains (areas facet) p → Contains (areas facet) q
    → EachRational (λ x. side_rational f x ≡ pos 0 → EachRational (λ y. side_rational f y ≡ pos 0
    → (h : PassesThrough x y (point ps s.a) (point ps s.b)) → LiesBeside ps f h.g p → LiesBeyond ps f h.g q → MeetsOnly ps x y s p
    → MeetsOnly ps x y s q
    → IsTrue (is_within ps axis facet x) × IsTrue (is_within ps axis facet y)))

-- A leg leaves a polygon only once through sides that have it on one hand: two such sides, each on the inner hand of the other, have a
-- common point where the leg passes through them
abbrev pub LeftOnceLaw : Type 0
LeftOnceLaw = (a b c d : Point) → EachRational (λ x. EachRational (λ y. (h : PassesThrough x y a b) (k : PassesThrough x y c d)
    → pos 0 ≤ℤ side k.g a → pos 0 ≤ℤ side k.g b → pos 0 ≤ℤ side h.g c → pos 0 ≤ℤ side h.g d
    → IsWeightedMean (as_rational a) (as_rational b) k.at × IsWeightedMean (as_rational c) (as_rational d) k.at))

-- Another side of a polygon that the leg leaves through a side s: the leg has no common point with it, or passes through it where it has
-- none with s, with the polygon on the hand of its start, or on the other hand and then not before it passes through s
pub data IsOtherSide (ps : List Point) (f : Triangle) (polygon : List ℕ) (x y : RationalPoint) (s r : Piece)
    (h : PassesThrough x y (point ps s.a) (point ps s.b)) : Type 0 where
  missed : IsClear x y (point ps r.a) (point ps r.b) → IsOtherSide ps f polygon x y s r h
  left : (k : PassesThrough x y (point ps r.a) (point ps r.b)) → LiesBeside ps f k.g polygon
      → ¬ IsWeightedMean (as_rational (point ps s.a)) (as_rational (point ps s.b)) k.at
      → IsOtherSide ps f polygon x y s r h
  entered : (k : PassesThrough y x (point ps r.a) (point ps r.b)) → LiesBeside ps f k.g polygon
      → ¬ IsWeightedMean (as_rational (point ps s.a)) (as_rational (point ps s.b)) k.at
      → (h.leg.to_y *ℤ k.leg.to_y) ≤ℤ (h.leg.to_x *ℤ k.leg.to_x) → IsOtherSide ps f polygon x y s r h

-- A polygon on the hand of a leg's start of the first side that the leg passes through is round the start: whatever other sides of it the
-- leg might pass through, it passes through none
abbrev pub FirstSideLaw : Type 0
FirstSideLaw = (ps : List Point) (f : Triangle) (axis : Axis) (polygon : List ℕ) (s : Piece) → dropped axis (normal f) ≢ pos 0
    → Contains polygon s.a → Contains polygon s.b
    → EachRational (λ x. side_rational f x ≡ pos 0 → EachRational (λ y. side_rational f y ≡ pos 0
    → (h : PassesThrough x y (point ps s.a) (point ps s.b)) → LiesBeside ps f h.g polygon → (count_by (same_ends s) (sides polygon) ≡ 1)
    → AllByRecursion (λ r. same_ends s r ≡ false → IsOtherSide ps f polygon x y s r h) (sides polygon)
    → AllByRecursion (λ r. is_on_piece ps r y ≡ false) (sides polygon)
    → (is_round ps axis polygon x ≡ true) × (is_round ps axis polygon y ≡ false)))
