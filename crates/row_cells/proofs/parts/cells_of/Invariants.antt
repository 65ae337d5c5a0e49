use Rattle.std.proofs.Common.{◌≡◌, map}
use Rattle.geo_laws.specs.Delaunay.{numbers_below}
use Rattle.row_cells.specs.Parts.{part_of, strips_of}
use Rattle.row_cells.specs.declared.parts.Axis.TheVariants.{X}
use Rattle.row_cells.proofs.parts.cells_of.Given as goal

abbrev pub invariant-loop-s : goal.invariant-loop-s
invariant-loop-s l = l.cells ≡ map (λ s. strips_of l.cuts.y l.cuts.z (part_of X l.cuts.x s l.boxes)) (numbers_below l.s)
