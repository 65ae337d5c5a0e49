use Rattle.std.proofs.Common.{◌≡◌}
use Rattle.std.specs.Prelude.{filter}
use Rattle.incidence.specs.Found.{with_pieces}
use Rattle.incidence.proofs.Polygons.{sides_before}
use Rattle.merged_facets.specs.Segments.{is_outer}
use Rattle.merged_facets.proofs.segments.put_outer_sides.Given as goal

-- the sides from the corners so far that are not inner
abbrev pub invariant-loop-k : goal.invariant-loop-k
invariant-loop-k l = l.set ≡ with_pieces l.initial.set (filter (is_outer l.merging l.facet) (sides_before l.k l.polygon))
