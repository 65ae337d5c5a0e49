use Rattle.mesh_arena.specs.declared.slot.Corner.TheVariants.{Point}
use Rattle.mesh_arena.specs.Edges.{edge_of}
use Rattle.mesh_arena.proofs.StarEdges.{AreOverEdges-along, AreOverEdges-met}
use Rattle.mesh_arena.proofs.arena.Arena.link_at_edge.Goals as goal

pub link_mates-requires-clause-second : goal.link_mates-requires-clause-second
link_mates-requires-clause-second c = rw c.edge.ensures (c.requires.met _ c.in-Some.other c.in-Some.ensures.found)

pub returns-in-None-clause-met : goal.returns-in-None-clause-met
returns-in-None-clause-met c =
    AreOverEdges-met c.args.self.now.slots c.args.rim.now (Point c.args.point) _ _ (edge_of c.args.ends.one.number c.args.ends.other.number) c.args.face c.meet.ensures.only c.requires.over c.requires.met

pub returns-in-Some-clause-met : goal.returns-in-Some-clause-met
returns-in-Some-clause-met c =
    let slots = c.args.self.now.slots in
    let rim = c.args.rim.now in
    let point = Point c.args.point in
    let edge = edge_of c.args.ends.one.number c.args.ends.other.number in
    AreOverEdges-along slots _ rim point 0 c.requires.star c.link_mates.ensures.links _ (AreOverEdges-met slots rim point _ _ edge c.args.face c.meet.ensures.only c.requires.over c.requires.met)
