-- The least grid on which the points of a list have whole coordinates.
use Rattle.std.specs.Prelude.{◌≡◌, ℕ, ◌+◌, ◌-◌, ◌*◌, ◌^◌, ◌≤◌, max, nat_lt, unsigned_abs, ℤ, Bool, List, [], ◌∷◌, find, Option, Result}
use Rattle.sign_predicates.specs.Point.{Point}
use Rattle.tet_text.specs.Decimals.{Scaled, signed}
use Rattle.grid_coords.specs.declared.grid.Grid.{Grid}
use Rattle.grid_coords.specs.declared.grid.Range.{Range}
use Rattle.grid_coords.specs.declared.points.DecimalPoint.{DecimalPoint}
use Rattle.grid_coords.specs.Choice.{unless_over}
use Rattle.grid_coords.specs.Units.{limit, is_negative}
use Rattle.node_files.specs.Terms.{terms_of}

-- the most factors 2, and 5, in the denominator of a coordinate in lowest terms
abbrev pub twos_of : DecimalPoint → ℕ
twos_of p = max (terms_of p.x).twos (max (terms_of p.y).twos (terms_of p.z).twos)

abbrev pub fives_of : DecimalPoint → ℕ
fives_of p = max (terms_of p.x).fives (max (terms_of p.y).fives (terms_of p.z).fives)

-- the greatest number of a point
unfoldable pub greatest : (DecimalPoint → ℕ) → List DecimalPoint → ℕ
greatest number [] = 0
greatest number (p ∷ ps) = max (number p) (greatest number ps)

-- the grid with as many decimals as the most factors 5, and as many halvings as the most factors 2 exceed these
abbrev pub coarsest : List DecimalPoint → Grid
coarsest ps = record { decimals = greatest fives_of ps; halvings = greatest twos_of ps - greatest fives_of ps }

-- the size of the number in units of 1 / (10^decimals × 2^halvings), where its terms have no more factors below them
unfoldable pub units_on : Grid → Scaled → ℕ
units_on g d =
    let t = terms_of d in
    t.numerator * 5 ^ (g.decimals - t.fives) * 2 ^ (g.decimals + g.halvings - t.twos)

-- the greatest size of a coordinate
abbrev pub size_on : Grid → DecimalPoint → ℕ
size_on g p = max (units_on g p.x) (max (units_on g p.y) (units_on g p.z))

abbrev pub is_over_units : ℕ → Grid → DecimalPoint → Bool
is_over_units wide g p = nat_lt wide (size_on g p)

-- the first point with a coordinate over `wide` units
unfoldable pub first_over_units : ℕ → Grid → List DecimalPoint → Option DecimalPoint
first_over_units wide g ps = find (is_over_units wide g) ps

-- the least grid, or the line of the first point with a coordinate over `wide` of its units
unfoldable pub least_grid_of : ℕ → List DecimalPoint → Result Grid Range
least_grid_of wide ps = unless_over (first_over_units wide (coarsest ps) ps) (coarsest ps)

-- the number is a whole number of grid units, and at most 2^29 of them in size
pub record IsInUnits (g : Grid) (d : Scaled) : Type 0 where
  pub fives : (terms_of d).fives ≤ g.decimals
  pub twos : (terms_of d).twos ≤ g.decimals + g.halvings
  pub small : units_on g d ≤ limit

-- each coordinate of the point is a whole number of grid units, within the limit
pub record IsPointInUnits (g : Grid) (p : DecimalPoint) : Type 0 where
  pub x : IsInUnits g p.x
  pub y : IsInUnits g p.y
  pub z : IsInUnits g p.z

-- the number in grid units
abbrev pub coordinate_on : Grid → Scaled → ℤ
coordinate_on g d = signed (is_negative d) (units_on g d)

-- the point in grid units
abbrev pub point_on : Grid → DecimalPoint → Point
point_on g p = record { x = coordinate_on g p.x; y = coordinate_on g p.y; z = coordinate_on g p.z }

-- A number whose terms have no more factors below them than the grid has is exactly its number of units: its size is
-- units / (10^decimals × 2^halvings)
abbrev pub UnitsLaw : Type 0
UnitsLaw = (g : Grid) (d : Scaled) → (terms_of d).fives ≤ g.decimals → (terms_of d).twos ≤ g.decimals + g.halvings
    → unsigned_abs d.value * 10 ^ g.decimals * 2 ^ g.halvings ≡ units_on g d * 10 ^ d.scale
