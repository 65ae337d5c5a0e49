use Rattle.std.proofs.Common.{None, subst, ◌≡◌, arith}
use Rattle.mesh_arena.specs.declared.slot.Corner.TheVariants.{Point}
use Rattle.mesh_arena.specs.Mesh.{IsArenaMesh, link_behind, SameFace}
use Rattle.mesh_arena.specs.Star.{behind_rim}
use Rattle.mesh_arena.proofs.Pairs.{mate_exists}
use Rattle.mesh_arena.proofs.arena.Arena.find_mate.Goals as goal

pub unreachable-requires : goal.unreachable-requires
unreachable-requires c =
    let slots = c.args.self.now.slots in
    let rim = c.args.rim.now in
    let mesh : IsArenaMesh slots = rw (← c.self.view_is) c.self.invariant.sound.mesh in
    let found = mate_exists slots rim (Point c.args.point) mesh c.requires.star c.requires.pairs c.args.r c.args.k c.requires.inside c.requires.face c.requires.free in
    let t = found.0 in
    let m = found.1 in
    c.loop-q.invariant m.face (omega (arith, m.inside)) m.differs t.face m.below
    (subst (λ n. link_behind slots n t.face ≡ None) m.slot m.free)
    (subst (λ n. SameFace slots (behind_rim slots rim c.args.r).slot c.args.k n t.face) m.slot m.same)
