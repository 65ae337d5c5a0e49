use Rattle.std.proofs.Common.{All, take}
use Rattle.array_meshes.specs.Complexes.{IsPolygonThere}
use Rattle.array_meshes.proofs.complexes.are_polygons_there.Given as goal

abbrev pub invariant-loop-polygon : goal.invariant-loop-polygon
invariant-loop-polygon l = All (IsPolygonThere l.complex) (take l.polygon-index l.polygons)
