use Rattle.std.proofs.Common.{◌≡◌, map}
use Rattle.geo_laws.specs.Delaunay.{numbers_below}
use Rattle.row_cells.specs.Parts.{part_of}
use Rattle.row_cells.proofs.parts.parts_of.Given as goal

abbrev pub invariant-loop-s : goal.invariant-loop-s
invariant-loop-s l = l.parts ≡ map (λ s. part_of l.axis l.cut s l.boxes) (numbers_below l.s)
