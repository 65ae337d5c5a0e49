use Rattle.mesh_arena.proofs.EdgeSquare.{IsSquare-row, KeepsRows-row, AddsNone-row}
use Rattle.mesh_arena.proofs.square.Square.end.Goals as goal

pub invariant_of-self : goal.invariant_of-self
invariant_of-self c = IsSquare-row c.self.inside.met.items c.self.inside.round _ _ c.args.number c.self.invariant c.row_of-row.ensures.others

pub returns-clause-rows : goal.returns-clause-rows
returns-clause-rows c =
    rw (← c.self.view_is) (KeepsRows-row c.self.inside.met.items c.self.inside.round _ _ c.args.number c.self.invariant c.row_of-row.ensures.others)

pub returns-clause-met : goal.returns-clause-met
returns-clause-met c =
    rw (← c.self.view_is) (AddsNone-row c.self.inside.met.items c.self.inside.round _ _ c.args.number c.self.invariant c.row_of-row.ensures.others)
