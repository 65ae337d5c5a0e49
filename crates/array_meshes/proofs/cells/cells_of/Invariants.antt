use Rattle.std.proofs.Common.{◌≡◌, map}
use Rattle.geo_laws.specs.Delaunay.{numbers_below}
use Rattle.array_meshes.specs.Meshes.{cell_at}
use Rattle.array_meshes.proofs.cells.cells_of.Given as goal

abbrev pub invariant-loop-i : goal.invariant-loop-i
invariant-loop-i l = l.cells.items ≡ map (cell_at l.names l.list l.marks) (numbers_below l.i)
