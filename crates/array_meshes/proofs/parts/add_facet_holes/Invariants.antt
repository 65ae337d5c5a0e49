use Rattle.std.proofs.Common.{◌≡◌, ◌<◌, length, take}
use Rattle.std.specs.List.{fold}
use Rattle.array_meshes.specs.Complexes.{with_drawn_facet_hole}
use Rattle.array_meshes.proofs.parts.add_facet_holes.Given as goal

abbrev pub invariant-loop-hole : goal.invariant-loop-hole
invariant-loop-hole l = record {
  made : l.made ≡ fold (with_drawn_facet_hole l.grid) l.fn.made (take l.hole-index l.holes);
  facet : 0 < length l.made.facets;
}
