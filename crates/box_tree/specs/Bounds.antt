-- Boxes along the axes.
use Rattle.std.specs.Prelude.{◌≡◌, ◌⊎◌, ℕ, ℤ, ◌<ℤ◌, ◌*ℤ◌, ◌≤ℤ◌, true, List, ◌<◌, length}
use Rattle.sign_predicates.specs.Point.{Point, RationalPoint}
use Rattle.geo_laws.specs.Delaunay.{point}
use Rattle.geo_laws.specs.Simplex.{has_number}
use Rattle.geo_laws.specs.declared.complex.FacetTriangle.{FacetTriangle}
use Rattle.box_tree.specs.declared.bounds.Interval.{Interval}
use Rattle.box_tree.specs.declared.bounds.Bounds.{Bounds}

-- the number lies in the interval, ends included
abbrev pub IsIn : Interval → ℤ → Type 0
IsIn i z = (i.low ≤ℤ z) × (z ≤ℤ i.high)

-- the one ends before the other begins
abbrev pub AreDisjoint : Interval → Interval → Type 0
AreDisjoint i j = (i.high <ℤ j.low) ⊎ (j.high <ℤ i.low)

-- along some axis the boxes are apart
abbrev pub AreBoundsApart : Bounds → Bounds → Type 0
AreBoundsApart b c = AreDisjoint b.x c.x ⊎ AreDisjoint b.y c.y ⊎ AreDisjoint b.z c.z

-- the first interval lies in the second
abbrev pub IsSubinterval : Interval → Interval → Type 0
IsSubinterval i j = (j.low ≤ℤ i.low) × (i.high ≤ℤ j.high)

-- the first box lies in the second
pub record IsBoxWithin (b c : Bounds) : Type 0 where
  pub x : IsSubinterval b.x c.x
  pub y : IsSubinterval b.y c.y
  pub z : IsSubinterval b.z c.z

-- the box holds the point
pub record HoldsPoint (b : Bounds) (p : Point) : Type 0 where
  pub x : IsIn b.x p.x
  pub y : IsIn b.y p.y
  pub z : IsIn b.z p.z

-- the box holds the corners of the simplex
abbrev pub HoldsCorners : List Point → List ℕ → Bounds → Type 0
HoldsCorners ps s b = (i : ℕ) → has_number s i ≡ true → HoldsPoint b (point ps i)

-- the interval holds the number x over w
abbrev pub HoldsQuotient : Interval → ℤ → ℤ → Type 0
HoldsQuotient i x w = ((i.low *ℤ w) ≤ℤ x) × (x ≤ℤ (i.high *ℤ w))

-- the box holds the rational point
pub record HoldsRational (b : Bounds) (p : RationalPoint) : Type 0 where
  pub x : HoldsQuotient b.x p.x p.w
  pub y : HoldsQuotient b.y p.y p.w
  pub z : HoldsQuotient b.z p.z p.w

-- the corners of the triangle are points of the list
pub record IsTriangleOn (ps : List Point) (t : FacetTriangle) : Type 0 where
  pub a_on : t.a < length ps
  pub b_on : t.b < length ps
  pub c_on : t.c < length ps
