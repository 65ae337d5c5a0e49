-- How far the factors 2 below coordinates outnumber the factors 5.
use Rattle.std.specs.Prelude.{◌+◌, ◌≤◌}
use Rattle.grid_coords.specs.declared.points.DecimalPoint.{DecimalPoint}
use Rattle.node_files.specs.LeastGrid.{twos_of, fives_of}

-- the most factors 2 below a coordinate of the point, in lowest terms, are at most 51 more than the most factors 5
abbrev pub HasFewTwos : DecimalPoint → Type 0
HasFewTwos p = twos_of p ≤ fives_of p + 51
