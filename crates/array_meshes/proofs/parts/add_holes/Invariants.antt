use Rattle.std.proofs.Common.{◌≡◌, take}
use Rattle.std.specs.List.{fold}
use Rattle.array_meshes.specs.Complexes.{with_drawn_hole}
use Rattle.array_meshes.proofs.parts.add_holes.Given as goal

abbrev pub invariant-loop-hole : goal.invariant-loop-hole
invariant-loop-hole l = l.made ≡ fold (with_drawn_hole l.grid) l.fn.made (take l.hole-index l.holes)
