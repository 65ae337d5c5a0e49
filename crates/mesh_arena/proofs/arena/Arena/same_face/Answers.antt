use Rattle.std.proofs.Common.{Some, sym, ap, ◌∙◌, rules}
use Rattle.mesh_arena.proofs.FaceCorners.{cell_corners, SameFace-covers, covers-SameFace}
use Rattle.mesh_arena.proofs.arena.Arena.same_face.Goals as goal

pub returns-then-covers : goal.returns-then-covers
returns-then-covers c =
    let given = rw (← c.self.view_is) at c.requires in
    let one = cell_corners c.self.inside.cells.items c.args.s.index c.index.result.now given.first c.index.ensures ∙ ap Some (sym c.corners-one.ensures) in
    let two = cell_corners c.self.inside.cells.items c.args.t.index c.index-2.result.now given.second c.index-2.ensures ∙ ap Some (sym c.corners-two.ensures) in
    rw (← c.self.view_is) (
      λ yes. SameFace-covers _ _ _ _ _ _ _ one two (c.covers.ensures.0 c.if-covers.true) (c.covers-then-covers.ensures.0 yes),
      λ same. c.covers-then-covers.ensures.1 (covers-SameFace _ _ _ _ _ _ _ one two same).1,
    )

pub returns-else-covers : goal.returns-else-covers
returns-else-covers c =
    let given = rw (← c.self.view_is) at c.requires in
    let one = cell_corners c.self.inside.cells.items c.args.s.index c.index.result.now given.first c.index.ensures ∙ ap Some (sym c.corners-one.ensures) in
    let two = cell_corners c.self.inside.cells.items c.args.t.index c.index-2.result.now given.second c.index-2.ensures ∙ ap Some (sym c.corners-two.ensures) in
    rw (← c.self.view_is) (
      λ yes. absurd (search rules),
      λ same. c.covers.ensures.1 (covers-SameFace _ _ _ _ _ _ _ one two same).0,
    )
