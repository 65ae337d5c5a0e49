-- Bodies whose boxes are apart have no common point.
use Rattle.std.proofs.Common.{◌≡◌, inl, inr, ℕ, ℤ, pos, ◌<ℤ◌, ◌≤ℤ◌, true, List, arith}
use Rattle.std.proofs.lemmas.Int.{ints}
use Rattle.sign_predicates.specs.Point.{Point, RationalPoint}
use Rattle.sign_predicates.specs.Orientation.{IsPositive}
use Rattle.geo_laws.specs.Delaunay.{point, corners, numbers}
use Rattle.geo_laws.specs.Facet.{corner_numbers}
use Rattle.geo_laws.specs.Simplex.{InSimplex, has_number}
use Rattle.geo_laws.specs.declared.tetrahedra.Tet.{Tet}
use Rattle.geo_laws.specs.declared.complex.FacetTriangle.{FacetTriangle}
use Rattle.geo_laws.proofs.General.{closed_of}
use Rattle.simplex_meets.specs.Proper.{CoordinateAxis, AlongX, AlongY, AlongZ, coordinate_along, LiesBelow, FaceEnters, triangle_face}
use Rattle.simplex_meets.proofs.Along as intervals
use Rattle.refill_laws.proofs.Weights.{closed_weights}
use Rattle.box_tree.specs.declared.bounds.Interval.{Interval}
use Rattle.box_tree.specs.declared.bounds.Bounds.{Bounds}
use Rattle.box_tree.specs.Bounds.{IsIn, AreDisjoint, AreBoundsApart, HoldsCorners}

-- ---- no common point

below : (ps : List Point) (axis : CoordinateAxis) (s r : List ℕ) (i j : Interval) → ((k : ℕ) → has_number s k ≡ true → IsIn i (coordinate_along axis (point ps k))) → ((k : ℕ) → has_number r k ≡ true → IsIn j (coordinate_along axis (point ps k)))
    → i.high <ℤ j.low → LiesBelow ps axis s r
below ps axis s r i j hs hr h = (i.high, λ k is. (hs k is).1, λ k is. past i.high j.low (coordinate_along axis (point ps k)) h (hr k is).0)
  where
    past : (a b c : ℤ) → a <ℤ b → b ≤ℤ c → a <ℤ c
    past a b c h k = omega (arith, ints)

apart_along : (ps : List Point) (axis : CoordinateAxis) (s r : List ℕ) (i j : Interval) → ((k : ℕ) → has_number s k ≡ true → IsIn i (coordinate_along axis (point ps k))) → ((k : ℕ) → has_number r k ≡ true → IsIn j (coordinate_along axis (point ps k)))
    → AreDisjoint i j → (x : RationalPoint) → pos 0 <ℤ x.w → InSimplex ps s x → InSimplex ps r x → ⊥
apart_along ps axis s r i j hs hr (inl h) x w ms mr = intervals.apart ps axis s r (below ps axis s r i j hs hr h) x w ms mr
apart_along ps axis s r i j hs hr (inr h) x w ms mr = intervals.apart ps axis r s (below ps axis r s j i hr hs h) x w mr ms

-- simplices whose boxes are apart
pub apart_simplices : (ps : List Point) (s r : List ℕ) (b c : Bounds) → HoldsCorners ps s b → HoldsCorners ps r c → AreBoundsApart b c → (x : RationalPoint) → pos 0 <ℤ x.w → InSimplex ps s x → InSimplex ps r x → ⊥
apart_simplices ps s r b c hs hr (inl h) x w ms mr = apart_along ps AlongX s r b.x c.x (λ k m. (hs k m).x) (λ k m. (hr k m).x) h x w ms mr
apart_simplices ps s r b c hs hr (inr (inl h)) x w ms mr = apart_along ps AlongY s r b.y c.y (λ k m. (hs k m).y) (λ k m. (hr k m).y) h x w ms mr
apart_simplices ps s r b c hs hr (inr (inr h)) x w ms mr = apart_along ps AlongZ s r b.z c.z (λ k m. (hs k m).z) (λ k m. (hr k m).z) h x w ms mr

-- a triangle does not enter a row whose box is apart from its own
pub not_entering : (ps : List Point) (t : Tet) (u : FacetTriangle) (b c : Bounds) → IsPositive (corners ps t) → HoldsCorners ps (corner_numbers u) b → HoldsCorners ps (numbers t) c → AreBoundsApart b c → ¬ FaceEnters ps t (triangle_face u)
not_entering ps t u b c p hu ht h (x, w, q) =
    let m = closed_weights ps t x w p (closed_of (corners ps t) x q.0) in
    apart_simplices ps (corner_numbers u) (numbers t) b c hu ht h x w q.1 (m.weight, m.mean)
