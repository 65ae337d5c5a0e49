use Rattle.std.proofs.Common.{ℕ, ◌<◌, IsSome}
use Rattle.mesh_arena.specs.declared.slot.Corner.TheVariants.{Point}
use Rattle.mesh_arena.specs.Mesh.{link_behind}
use Rattle.mesh_arena.specs.Star.{behind_rim}
use Rattle.mesh_arena.specs.StarLinks.{LinksStar}
use Rattle.mesh_arena.proofs.arena.Arena.link_rest.Given as goal

abbrev pub invariant-loop-r : goal.invariant-loop-r
invariant-loop-r l = LinksStar l.fn.self.slots l.self.slots l.rim (Point l.point) l.r

abbrev pub invariant-loop-k : goal.invariant-loop-k
invariant-loop-k l =
    record {
      before : LinksStar l.fn.self.slots l.self.slots l.rim (Point l.point) l.r;
      here : (m : ℕ) → m < l.k → IsSome (link_behind l.self.slots (behind_rim l.fn.self.slots l.rim l.r).slot m);
    }
