use Rattle.std.proofs.Common.{map, sym, ◌∙◌}
use Rattle.mesh_arena.specs.Cells.{tet_of}
use Rattle.mesh_arena.proofs.Cells.{live_from_side, next_live}
use Rattle.mesh_arena.proofs.arena.Arena.over.Goals as goal

pub side-requires : goal.side-requires
side-requires c =
    let given = rw (← c.self.view_is) at c.requires in
    (live_from_side (map tet_of c.self.inside.cells.items) c.args.face.slot.index c.args.face.face c.self.invariant.sound.mesh.shaped given).1

pub returns-clause-live : goal.returns-clause-live
returns-clause-live c =
    let given = rw (← c.self.view_is) at c.requires in
    let here = live_from_side (map tet_of c.self.inside.cells.items) c.args.face.slot.index c.args.face.face c.self.invariant.sound.mesh.shaped given in
    rw (← c.self.view_is) (next_live _ c.args.face.slot.index c.args.face.face c.index.result.now c.in-Some.side c.self.invariant.sound.mesh here.0 here.1 c.index.ensures (sym c.side.ensures ∙ c.in-Some.is))
