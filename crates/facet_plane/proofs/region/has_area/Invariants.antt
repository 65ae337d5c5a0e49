use Rattle.std.proofs.Common.{◌≡◌, nat_lt, length}
use Rattle.std.specs.List.{list_any}
use Rattle.facet_plane.specs.Corners.{lists_between}
use Rattle.facet_plane.proofs.region.has_area.Given as goal

abbrev pub invariant-loop-q : goal.invariant-loop-q
invariant-loop-q l =
    list_any (λ p. nat_lt 2 (length p)) (lists_between l.complex.polygons l.q l.facet.past)
    ≡ list_any (λ p. nat_lt 2 (length p)) (lists_between l.complex.polygons l.facet.first l.facet.past)
