use Rattle.std.proofs.Common.{◌<◌}
use Rattle.mesh_arena.specs.Mesh.{IsLive}
use Rattle.point_locate.proofs.walk.locate.Given as goal

abbrev pub invariant-loop : goal.invariant-loop
invariant-loop l = record { live : IsLive l.arena.slots l.at.index; face : l.entry < 4 }
