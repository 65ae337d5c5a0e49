use Rattle.std.proofs.Common.{arith}
use Rattle.mesh_arena.specs.declared.slot.Corner.TheVariants.{Point}
use Rattle.mesh_arena.proofs.Pairs.{LinksStar-none, LinksStar-then}
use Rattle.mesh_arena.proofs.StarEdges.{StandsOver-along}
use Rattle.mesh_arena.proofs.arena.Arena.link_edges.Goals as goal

pub loop-r-init : goal.loop-r-init
loop-r-init c = record { links = LinksStar-none _ _ (Point c.args.point) c.requires.star; met = λ e s met. absurd (c.start.ensures e s met); left = omega arith }

pub link_slot-more-requires-clause-over : goal.link_slot-more-requires-clause-over
link_slot-more-requires-clause-over c =
    let first = c.args.self.now.slots in
    let rim = c.args.rim.now in
    let r = c.loop-r.r in
    StandsOver-along first _ rim (Point c.args.point) 0 c.requires.star c.loop-r.invariant.links r _ c.loop-r-test.true (c.requires.over r c.loop-r-test.true)

pub loop-r-preserved : goal.loop-r-preserved
loop-r-preserved c =
    record {
      links = LinksStar-then c.args.self.now.slots _ _ c.args.rim.now (Point c.args.point) 0 0 c.requires.star (omega arith) c.loop-r.invariant.links c.link_slot-more.ensures.links;
      met = c.link_slot-more.ensures.met;
      left = omega (arith, c.loop-r.invariant.left, c.link_slot-more.ensures.left, c.saturating_add-links.ensures);
    }
