use Rattle.std.proofs.Common.{◌≡◌, take}
use Rattle.std.specs.List.{fold}
use Rattle.array_meshes.specs.Complexes.{with_drawn_region}
use Rattle.array_meshes.proofs.parts.add_regions.Given as goal

abbrev pub invariant-loop-region : goal.invariant-loop-region
invariant-loop-region l = l.made ≡ fold (with_drawn_region l.grid) l.fn.made (take l.region-index l.regions)
