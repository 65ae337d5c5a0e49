use Rattle.std.proofs.Common.{◌≡◌, map, take}
use Rattle.soup_files.specs.Solids.{solid_polygon, solids_surface}
use Rattle.soup_files.proofs.solids.solids_surface.Given as goal

abbrev pub invariant-loop-t : goal.invariant-loop-t
invariant-loop-t l = l.text ≡ solids_surface l.count l.points (map solid_polygon (take l.t-index l.triangles))
