use Rattle.std.proofs.Common.{◌≡◌, ◌<◌, ◌++◌, drop, map, length}
use Rattle.geo_laws.specs.Segment.{sides}
use Rattle.facet_plane.specs.Outline.{side_between, sides_between}
use Rattle.facet_plane.specs.Walk.{walk}
use Rattle.facet_plane.proofs.outline.sides_of.Given as goal

-- the sides so far and those from the corner a on are all
abbrev pub invariant-loop-i : goal.invariant-loop-i
invariant-loop-i l = record {
  there : l.a < length l.points;
  same : l.sides ++ sides_between l.points (walk l.first l.a (drop l.i l.corners)) ≡ map (side_between l.points) (sides l.corners);
}
