-- The finest grid that holds all points of a list.
use Rattle.std.specs.Prelude.{ℕ, ◌+◌, ◌*◌, ◌^◌, max, min, nat_lt, nat_le, Bool, List, [], ◌∷◌, find, filter, Option, Some, None, Result, Ok, Err}
use Rattle.std.specs.List.{range_with_len}
use Rattle.grid_coords.specs.declared.grid.Grid.{Grid}
use Rattle.grid_coords.specs.declared.grid.Range.{Range}
use Rattle.grid_coords.specs.declared.points.DecimalPoint.{DecimalPoint}
use Rattle.grid_coords.specs.Units.{units}

-- the most decimals of a coordinate
abbrev pub decimals_of : DecimalPoint → ℕ
decimals_of p = max p.x.scale (max p.y.scale p.z.scale)

unfoldable pub most_decimals : List DecimalPoint → ℕ
most_decimals [] = 0
most_decimals (p ∷ ps) = max (decimals_of p) (most_decimals ps)

-- the greatest size of a coordinate, in units of 1 / 10^decimals
abbrev pub size_of : ℕ → DecimalPoint → ℕ
size_of decimals p = max (units decimals 0 p.x) (max (units decimals 0 p.y) (units decimals 0 p.z))

unfoldable pub greatest_size : ℕ → List DecimalPoint → ℕ
greatest_size decimals [] = 0
greatest_size decimals (p ∷ ps) = max (size_of decimals p) (greatest_size decimals ps)

-- the point has a coordinate over `wide` units
abbrev pub is_over : ℕ → ℕ → DecimalPoint → Bool
is_over wide decimals p = nat_lt wide (size_of decimals p)

unfoldable pub first_over : ℕ → ℕ → List DecimalPoint → Option DecimalPoint
first_over wide decimals ps = find (is_over wide decimals) ps

-- with that number of halvings a coordinate of this size is at most `wide` units
abbrev pub fits : ℕ → ℕ → ℕ → Bool
fits wide size halvings = nat_le (size * 2 ^ halvings) wide

abbrev pub numbers_up_to : ℕ → List ℕ
numbers_up_to most = range_with_len 0 (most + 1)

-- the largest number of a list, and 0 where it is empty
unfoldable pub largest : List ℕ → ℕ
largest [] = 0
largest (n ∷ ns) = max n (largest ns)

-- how often the unit is halved: the largest number up to `most` with which each coordinate fits, where this is the greatest size of one
unfoldable pub halvings_for : ℕ → ℕ → ℕ → ℕ
halvings_for wide most size = largest (filter (fits wide size) (numbers_up_to most))

abbrev pub most_halvings : ℕ
most_halvings = 18

-- what is found where no point is too large, or the line of that point
abbrev pub unless_over : {X : Type 0} → Option DecimalPoint → X → Result X Range
unless_over None x = Ok x
unless_over (Some p) x = Err (record { line = p.line })

-- the grid of the points, on which a coordinate is at most `wide` units in size
unfoldable pub grid_of : ℕ → ℕ → List DecimalPoint → Result Grid Range
grid_of wide most ps =
    let decimals = most_decimals ps in
    let halvings = halvings_for wide (min most_halvings most) (greatest_size decimals ps) in
    unless_over (first_over wide decimals ps) (record { decimals = decimals; halvings = halvings })
