use Rattle.std.proofs.Common.{◌≡◌, map}
use Rattle.geo_laws.specs.Delaunay.{numbers_below}
use Rattle.row_cells.specs.Parts.{part_of, cut_parts}
use Rattle.row_cells.specs.declared.parts.Axis.TheVariants.{Y, Z}
use Rattle.row_cells.proofs.parts.strips_of.Given as goal

abbrev pub invariant-loop-s : goal.invariant-loop-s
invariant-loop-s l = l.strips ≡ map (λ s. cut_parts Z l.z (part_of Y l.y s l.boxes)) (numbers_below l.s)
