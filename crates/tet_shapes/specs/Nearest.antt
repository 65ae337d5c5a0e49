-- The point of a list that is nearest to a segment.
use Rattle.std.specs.Prelude.{◌≢◌, ℕ, ◌*◌, ◌^◌, ◌<◌, ℤ, pos, ◌*ℤ◌, ◌≤ℤ◌, int_le, List, length, if◌then◌else◌}
use Rattle.sign_predicates.specs.Orientation.{cross}
use Rattle.sign_predicates.specs.Point.{Point, from_to}
use Rattle.sign_predicates.specs.Sphere.{square_length}
use Rattle.geo_laws.specs.Delaunay.{point}
use Rattle.geo_laws.specs.Segment.{along}
use Rattle.geo_laws.specs.declared.complex.Piece.{Piece}
use Rattle.grid_coords.specs.declared.grid.Grid.{Grid}
use Rattle.tet_shapes.specs.declared.nearest.Near.{Near}

-- the square of the length of the segment from a to b
abbrev pub whole : Point → Point → ℤ
whole a b = square_length (from_to a b)

-- the square of the distance of p from the segment from a to b, times that of the segment's length
unfoldable pub gap : Point → Point → Point → ℤ
gap a b p =
    if int_le (along a b p) (pos 0) then whole a b *ℤ whole a p else
    if int_le (along b a p) (pos 0) then whole a b *ℤ whole b p else
    square_length (cross (from_to a b) (from_to a p))

-- that of a point of a list
abbrev pub gap_of : List Point → Piece → ℕ → ℤ
gap_of ps s i = gap (point ps s.a) (point ps s.b) (point ps i)

-- the first *n* points have no point nearer to the segment, its ends aside
abbrev pub AreNoNearer : List Point → Piece → ℕ → ℤ → Type 0
AreNoNearer ps s n least = (i : ℕ) → i < n → i ≢ s.a → i ≢ s.b → least ≤ℤ gap_of ps s i

-- no point of the list but the ends of the segment is nearer to it than this one, which is no end
pub record IsNearest (ps : List Point) (s : Piece) (q : ℕ) : Type 0 where
  pub there : q < length ps
  pub apart : (q ≢ s.a) × (q ≢ s.b)
  pub least : AreNoNearer ps s (length ps) (gap_of ps s q)

-- a point with this gap is at most so many units of the last decimal from a segment whose length has this square
abbrev pub IsWithin : ℕ → ℤ → ℤ → ℕ → Type 0
IsWithin halvings square own units = own ≤ℤ (square *ℤ pos (units * 2 ^ halvings * (units * 2 ^ halvings)))

-- the nearest point, and that it is at most so many units of the grid's last decimal away
pub record IsNear (grid : Grid) (ps : List Point) (s : Piece) (near : Near) : Type 0 where
  pub nearest : IsNearest ps s near.point
  pub within : IsWithin grid.halvings (whole (point ps s.a) (point ps s.b)) (gap_of ps s near.point) near.units
