use Rattle.std.proofs.Common.{◌≡◌, ◌-◌, ◌++◌, drop, length}
use Rattle.std.specs.List.{list_any}
use Rattle.facet_plane.specs.Axes.{axis_is}
use Rattle.facet_plane.specs.Prepared.{shape, shape_meets, shape_round, outlines_meet, passing_places, places_round}
use Rattle.facet_plane.proofs.prepared.Outlines.locate.Given as goal

-- the polygons from the place q on decide whether one is met; the places so far, and those of these polygons, are all
abbrev pub invariant-loop-q : goal.invariant-loop-q
invariant-loop-q l = record {
  met : list_any (λ o. shape_meets l.reach (axis_is l.self.axis) l.x (shape o)) (drop l.q l.self.each) ≡ outlines_meet l.reach l.self l.x;
  round : l.places.items ++ passing_places (λ o. shape_round (axis_is l.self.axis) l.x (shape o)) l.q (drop l.q l.self.each)
      ≡ places_round l.self l.x;
}

abbrev pub decreases-loop-q : goal.decreases-loop-q
decreases-loop-q l = length l.self.each - l.q
