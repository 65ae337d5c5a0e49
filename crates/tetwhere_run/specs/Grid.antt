-- How far a grid reaches.
use Rattle.std.specs.Prelude.{ℕ}

-- how large a coordinate of a mesh may be, in units of the points' least grid
abbrev pub where_grid : ℕ
where_grid = 536870912
