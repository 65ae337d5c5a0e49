use Rattle.std.proofs.Common.{◌≢◌, ap, ◌∙◌}
use Rattle.mesh_arena.specs.Mesh.{corners_at}
use Rattle.mesh_arena.specs.Cells.{cell_corners}
use Rattle.mesh_arena.proofs.Mesh.{none_live}
use Rattle.mesh_arena.proofs.Cone.{fits_same}
use Rattle.mesh_arena.proofs.arena.Arena.add_over.Goals as goal

pub link-requires-clause-same : goal.link-requires-clause-same
link-requires-clause-same c =
    let takes = c.take_slot-made.ensures.takes in
    let apart : c.args.outer.slot.index ≢ c.take_slot-made.result =
    λ e. none_live _ (ap (corners_at c.args.self.now.slots) e ∙ takes.free) c.requires.live in
    fits_same _ _ _ _ _ _ (cell_corners c.args.slot.now.cell) c.requires.fits (takes.corners _ apart) takes.made
