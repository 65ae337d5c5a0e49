use Rattle.std.proofs.Common.{◌+◌, ◌*◌, ◌≤◌}
use Rattle.mesh_arena.specs.declared.slot.Corner.TheVariants.{Point}
use Rattle.mesh_arena.specs.StarLinks.{LinksStar, AreOverEdges, open_faces}
use Rattle.mesh_arena.proofs.arena.Arena.link_edges.Given as goal

abbrev pub invariant-loop-r : goal.invariant-loop-r
invariant-loop-r l =
    record {
      links : LinksStar l.fn.self.slots l.self.slots l.rim (Point l.point) 0;
      met : AreOverEdges l.self.slots l.rim (Point l.point) l.table;
      left : open_faces l.self.slots l.rim + 2 * l.links ≤ open_faces l.fn.self.slots l.rim;
    }
