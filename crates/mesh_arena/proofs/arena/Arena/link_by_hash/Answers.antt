use Rattle.mesh_arena.specs.declared.slot.Corner.TheVariants.{Point}
use Rattle.mesh_arena.proofs.StarEdges.{AreOverEdges-along, AreOverEdges-met}
use Rattle.mesh_arena.proofs.arena.Arena.link_by_hash.Goals as goal

pub link_mates-requires-clause-second : goal.link_mates-requires-clause-second
link_mates-requires-clause-second c = c.requires.met c.args.edge c.in-Some.other c.in-Some.ensures.found

pub returns-in-None-clause-met : goal.returns-in-None-clause-met
returns-in-None-clause-met c =
    AreOverEdges-met c.args.self.now.slots c.args.rim.now (Point c.args.point) _ _ c.args.edge c.args.face c.meet_hashed.ensures.only c.requires.over c.requires.met

pub returns-in-Some-clause-met : goal.returns-in-Some-clause-met
returns-in-Some-clause-met c =
    let slots = c.args.self.now.slots in
    let rim = c.args.rim.now in
    let point = Point c.args.point in
    AreOverEdges-along slots _ rim point 0 c.requires.star c.link_mates.ensures.links _ (AreOverEdges-met slots rim point _ _ c.args.edge c.args.face c.meet_hashed.ensures.only c.requires.over c.requires.met)
