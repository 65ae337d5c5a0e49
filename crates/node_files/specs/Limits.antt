-- The limits of an input.
use Rattle.std.specs.Prelude.{◌-◌, ◌≤◌, ◌<◌, ◌^◌}
use Rattle.grid_coords.specs.Units.{limit}
use Rattle.node_files.specs.declared.limits.Limits.{Limits}

-- the limits of the program `tetgen`: 2^26 bytes of a file, 20,000 points and facets, 1,000 corners of a polygon, and
-- coordinates up to 2^23 in size
abbrev pub tetgen_limits : Limits
tetgen_limits = record { bytes = 67108864; points = 20000; facets = 20000; corners = 1000; grid = 8388608 }

-- what is within the limits has numbers of 32 bits: the lines of a file, the facets, and the points with all that may be added to them
pub record AreIndexable (limits : Limits) : Type 0 where
  pub bytes : limits.bytes < 2 ^ 32 - 1
  pub points : limits.points ≤ 2 ^ 31
  pub facets : limits.facets < 2 ^ 32 - 1
  pub grid : limits.grid ≤ limit
