use Rattle.std.proofs.Common.{◌≡◌, ◌++◌, map, take}
use Rattle.array_meshes.specs.Meshes.{place_of}
use Rattle.array_meshes.proofs.cells.add_places.Given as goal

abbrev pub invariant-loop-p : goal.invariant-loop-p
invariant-loop-p l = l.places.items ≡ l.fn.places.items ++ map place_of (take l.p-index l.points)
