-- The sides of facets, and which of them are open.
use Rattle.std.specs.Prelude.{ℕ, ℤ, ◌<◌, Bool, not, ◌==◌, ◌&&◌, ◌||◌, List, map, length, flat_map, find, Option, int_lt, int_le, slice_index_or}
use Rattle.std.specs.Int.{int_min, int_max}
use Rattle.std.specs.List.{list_any}
use Rattle.box_tree.specs.Bounds.{HoldsPoint}
use Rattle.box_tree.specs.Tree.{IsTreeOver}
use Rattle.box_tree.specs.declared.bounds.Bounds.{Bounds}
use Rattle.box_tree.specs.declared.bounds.Interval.{Interval}
use Rattle.box_tree.specs.declared.tree.Node.{Node}
use Rattle.complex_laws.specs.SoundComplex.{facet_numbered}
use Rattle.geo_laws.specs.Complex.{Complex, facets}
use Rattle.geo_laws.specs.Delaunay.{numbers_below, point}
use Rattle.geo_laws.specs.Facet.{spans_plane}
use Rattle.geo_laws.specs.Segment.{segments}
use Rattle.geo_laws.specs.declared.complex.Piece.{Piece}
use Rattle.sign_predicates.specs.Point.{Point}
use Rattle.tetfit_run.specs.declared.sides.FacetSide.{FacetSide}

-- ---- sides

abbrev pub side_of : ℕ → Piece → FacetSide
side_of k p = record { facet = k; side = p }

-- the distinct sides of the facet at this place, in the order of its polygons and of their corners
abbrev pub sides_at : Complex → ℕ → List FacetSide
sides_at c k = map (side_of k) (segments (facet_numbered (facets c) k).polygons)

-- the sides of the first facets, facet by facet
abbrev pub first_sides : Complex → ℕ → List FacetSide
first_sides c n = flat_map (sides_at c) (numbers_below n)

abbrev pub all_sides : Complex → List FacetSide
all_sides c = first_sides c (length c.facets)

-- ---- sides along one another

-- the numbers between a and b that are between c and d too; where there are none, the interval ends before it begins
abbrev pub common : ℤ → ℤ → ℤ → ℤ → Interval
common a b c d = record { low = int_max (int_min a b) (int_min c d); high = int_min (int_max a b) (int_max c d) }

-- the interval has a number
abbrev pub has_some : Interval → Bool
has_some i = int_le i.low i.high

-- and more than one
abbrev pub has_more : Interval → Bool
has_more i = int_lt i.low i.high

-- the intervals are the sides of a box with more than one point
abbrev pub has_more_points : Interval → Interval → Interval → Bool
has_more_points x y z = has_some x && has_some y && has_some z && (has_more x || has_more y || has_more z)

-- the box round a and b and the box round c and d have more than one point in common
abbrev pub boxes_share : Point → Point → Point → Point → Bool
boxes_share a b c d = has_more_points (common a.x b.x c.x d.x) (common a.y b.y c.y d.y) (common a.z b.z c.z d.z)

-- the two segments have more than one point in common: their boxes have, and all four ends lie on one line
abbrev pub lie_along : List Point → Piece → Piece → Bool
lie_along ps p q =
    boxes_share (point ps p.a) (point ps p.b) (point ps q.a) (point ps q.b)
    && not (spans_plane ps p.a p.b q.a) && not (spans_plane ps p.a p.b q.b)

-- ---- open sides

-- the side of another facet has more than one point in common with the side
abbrev pub covers : List Point → FacetSide → FacetSide → Bool
covers ps s t = not (t.facet == s.facet) && lie_along ps s.side t.side

-- no side of another facet has more than one point in common with it
abbrev pub is_open : List Point → List FacetSide → FacetSide → Bool
is_open ps sides s = not (list_any (covers ps s) sides)

-- the first open side, in the order of facets, polygons and corners
abbrev pub first_open : List Point → Complex → Option FacetSide
first_open ps c = find (is_open ps (all_sides c)) (all_sides c)

-- the ends are points of the list
pub record IsSideOn (ps : List Point) (s : FacetSide) : Type 0 where
  pub a_on : s.side.a < length ps
  pub b_on : s.side.b < length ps

-- ---- the boxes of sides

-- the box holds the ends of the side
abbrev pub HoldsSide : List Point → Piece → Bounds → Type 0
HoldsSide ps p b = HoldsPoint b (point ps p.a) × HoldsPoint b (point ps p.b)

-- the tree has a box round each side
abbrev pub IsSideTree : List Point → List FacetSide → List Node → Type 0
IsSideTree ps sides nodes = IsTreeOver (length sides) (λ i b. (d : FacetSide) → HoldsSide ps (slice_index_or sides i d).side b) nodes
