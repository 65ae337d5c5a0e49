use Rattle.std.proofs.Common.{◌≡◌, ◌+◌, ◌*◌, ◌≤◌, length, arith}
use Rattle.mesh_arena.specs.declared.slot.Corner.TheVariants.{Point}
use Rattle.mesh_arena.specs.Mesh.{IsArenaMesh}
use Rattle.mesh_arena.specs.StarLinks.{LinksStar, open_faces}
use Rattle.mesh_arena.proofs.OpenFaces.{open_faces-le, LinksStar-all}
use Rattle.mesh_arena.proofs.Pairs.{ArePaired-along, LinksStar-then}
use Rattle.mesh_arena.proofs.StarEdges.{StandsOver-along}
use Rattle.mesh_arena.proofs.arena.Arena.link_star.Goals as goal

pub link_rest-requires-clause-pairs : goal.link_rest-requires-clause-pairs
link_rest-requires-clause-pairs c =
    let links : LinksStar c.args.self.now.slots c.link_edges-links.new.self.slots c.args.rim.now (Point c.args.point) 0 = rw c.lend_edges-table.ensures at c.link_edges-links.ensures.links in
    rw c.keep_edges.ensures (ArePaired-along _ _ _ links.corners c.requires.pairs)

pub link_rest-requires-clause-over : goal.link_rest-requires-clause-over
link_rest-requires-clause-over c =
    let links : LinksStar c.args.self.now.slots c.link_edges-links.new.self.slots c.args.rim.now (Point c.args.point) 0 = rw c.lend_edges-table.ensures at c.link_edges-links.ensures.links in
    rw c.keep_edges.ensures (λ r lt. StandsOver-along c.args.self.now.slots _ c.args.rim.now (Point c.args.point) 0 c.requires.star links r _ lt (c.requires.over r lt))

pub returns-then-not-are_all : goal.returns-then-not-are_all
returns-then-not-are_all c =
    let rim = c.args.rim.now in
    let point = Point c.args.point in
    let links : LinksStar c.args.self.now.slots c.link_edges-links.new.self.slots rim point 0 = rw c.lend_edges-table.ensures at c.link_edges-links.ensures.links in
    let rest : LinksStar c.link_edges-links.new.self.slots c.link_rest.new.self.slots rim point (length rim) = rw c.keep_edges.ensures at c.link_rest.ensures.links_star in
    record { links_star = LinksStar-then c.args.self.now.slots _ _ rim point 0 (length rim) c.requires.star (omega arith) links rest }

pub returns-else-not-are_all : goal.returns-else-not-are_all
returns-else-not-are_all c =
    let slots = c.args.self.now.slots in
    let rim = c.args.rim.now in
    let point = Point c.args.point in
    let new = c.link_edges-links.new.self.slots in
    let mesh : IsArenaMesh slots = rw (← c.self.view_is) c.self.invariant.sound.mesh in
    let links : LinksStar slots new rim point 0 = rw c.lend_edges-table.ensures at c.link_edges-links.ensures.links in
    let left : open_faces new rim + 2 * c.link_edges-links.result ≤ open_faces slots rim = rw c.lend_edges-table.ensures at c.link_edges-links.ensures.left in
    let none : open_faces new rim ≡ 0 = omega (arith, left, open_faces-le slots rim point mesh c.requires.star, c.are_all.ensures c.if-not-are_all.false) in
    rw c.keep_edges.ensures (record { links_star = LinksStar-all slots new rim point c.requires.star links none })
