use Rattle.std.proofs.Common.{ap, sym, ◌∙◌}
use Rattle.mesh_arena.specs.Mesh.{corners_at}
use Rattle.cavity_insert.proofs.HullFaces.{at_slot}
use Rattle.cavity_insert.proofs.hull.face_at.Goals as goal

pub returns : goal.returns
returns c = at_slot c.args.arena.now.slots c.args._points.now c.requires.mesh c.args.i c.tet.result c.face_under.result (ap (corners_at c.args.arena.now.slots) (sym c.in_ok-s.ensures.0) ∙ c.tet.ensures.corners) c.face_under.ensures.finite c.face_under.ensures.infinite
