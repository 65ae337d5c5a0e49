use Rattle.std.proofs.Common.{sym, ◌∙◌}
use Rattle.mesh_arena.proofs.Cells.{next_live}
use Rattle.mesh_arena.proofs.arena.Arena.across.Goals as goal

pub returns-in-Some-clause-live : goal.returns-in-Some-clause-live
returns-in-Some-clause-live c =
    let given = rw (← c.self.view_is) at c.requires in
    rw (← c.self.view_is) (next_live _ c.args.s.index c.args.face c.index.result.now c.in-Some.side c.self.invariant.sound.mesh given.live given.face c.index.ensures (sym c.side.ensures ∙ c.in-Some.is))
