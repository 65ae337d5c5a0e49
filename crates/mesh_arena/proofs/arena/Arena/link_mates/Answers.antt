use Rattle.std.proofs.Common.{rules}
use Rattle.mesh_arena.specs.declared.slot.Corner.TheVariants.{Point}
use Rattle.mesh_arena.specs.Mesh.{IsArenaMesh}
use Rattle.mesh_arena.proofs.OpenFaces.{open_faces-link}
use Rattle.mesh_arena.proofs.StarEdges.{over_same, LinksStar-over}
use Rattle.mesh_arena.proofs.arena.Arena.link_mates.Goals as goal

pub link-requires-clause-same : goal.link-requires-clause-same
link-requires-clause-same c =
    let mesh : IsArenaMesh c.args.self.now.slots = rw (← c.self.view_is) c.self.invariant.sound.mesh in
    over_same c.args.self.now.slots c.args.rim.now (Point c.args.point) mesh c.requires.star c.args.edge c.args.one c.args.two c.requires.first c.requires.second

pub returns-then-is_none-2-clause-links : goal.returns-then-is_none-2-clause-links
returns-then-is_none-2-clause-links c =
    let mesh : IsArenaMesh c.args.self.now.slots = rw (← c.self.view_is) c.self.invariant.sound.mesh in
    LinksStar-over c.args.self.now.slots c.args.rim.now (Point c.args.point) mesh c.requires.star c.link.new.self.slots c.args.edge c.args.one c.args.two c.requires.first c.requires.second c.if-one-two.true (search rules) c.link.ensures.links

pub returns-then-is_none-2-clause-left : goal.returns-then-is_none-2-clause-left
returns-then-is_none-2-clause-left c =
    let mesh : IsArenaMesh c.args.self.now.slots = rw (← c.self.view_is) c.self.invariant.sound.mesh in
    let first = c.requires.first in
    let second = c.requires.second in
    let links = LinksStar-over c.args.self.now.slots c.args.rim.now (Point c.args.point) mesh c.requires.star c.link.new.self.slots c.args.edge c.args.one c.args.two first second c.if-one-two.true (search rules) c.link.ensures.links in
    open_faces-link c.args.self.now.slots c.link.new.self.slots c.args.rim.now (Point c.args.point) c.requires.star links first.over second.over _ _ _ _ first.inside second.inside first.slot second.slot
    first.places.k4 second.places.k4 c.if-one-two.true (search rules) (search rules) c.link.ensures.links
