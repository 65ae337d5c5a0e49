use Rattle.std.proofs.Common.{◌∙◌, arith}
use Rattle.mesh_arena.specs.declared.slot.Corner.TheVariants.{Point}
use Rattle.mesh_arena.proofs.EdgeEnds.{edge_of-numbers}
use Rattle.mesh_arena.proofs.Pairs.{LinksStar-then}
use Rattle.mesh_arena.proofs.StarEdges.{turned, opposite, first_last, StandsOver-along, IsOverEdge-face}
use Rattle.mesh_arena.proofs.arena.Arena.link_slot_by_hash.Goals as goal

pub link_by_hash-over_yz-requires-clause-over : goal.link_by_hash-over_yz-requires-clause-over
link_by_hash-over_yz-requires-clause-over c =
    let e = c.between-yz.result in
    let is = c.between-yz.ensures ∙ edge_of-numbers _ _ _ _ c.number-y.ensures c.number-z.ensures in
    IsOverEdge-face _ c.args.rim.now (Point c.args.point) c.requires.star c.args.r c.args.one.now _ _ _ e c.requires.inside c.requires.over
    (opposite _ _ _ _ c.other_places-i.ensures) is

pub link_by_hash-over_xz-requires-clause-over : goal.link_by_hash-over_xz-requires-clause-over
link_by_hash-over_xz-requires-clause-over c =
    let slots = c.args.self.now.slots in
    let point = Point c.args.point in
    let one = c.link_by_hash-over_yz.ensures.links in
    let over = StandsOver-along slots _ c.args.rim.now point 0 c.requires.star one c.args.r c.args.one.now c.requires.inside c.requires.over in
    let e = c.between-xz.result in
    let is = c.between-xz.ensures ∙ edge_of-numbers _ _ _ _ c.number-x.ensures c.number-z.ensures in
    IsOverEdge-face _ c.args.rim.now point one.star c.args.r c.args.one.now _ _ _ e c.requires.inside over
    (opposite _ _ _ _ (first_last _ _ _ _ c.other_places-i.ensures)) is

pub link_by_hash-over_xy-requires-clause-over : goal.link_by_hash-over_xy-requires-clause-over
link_by_hash-over_xy-requires-clause-over c =
    let slots = c.args.self.now.slots in
    let rim = c.args.rim.now in
    let point = Point c.args.point in
    let one = c.link_by_hash-over_yz.ensures.links in
    let two = LinksStar-then slots _ _ rim point 0 0 c.requires.star (omega arith) one c.link_by_hash-over_xz.ensures.links in
    let over = StandsOver-along slots _ rim point 0 c.requires.star two c.args.r c.args.one.now c.requires.inside c.requires.over in
    let e = c.between-xy.result in
    let is = c.between-xy.ensures ∙ edge_of-numbers _ _ _ _ c.number-x.ensures c.number-y.ensures in
    IsOverEdge-face _ rim point two.star c.args.r c.args.one.now _ _ _ e c.requires.inside over
    (opposite _ _ _ _ (first_last _ _ _ _ (turned _ _ _ _ c.other_places-i.ensures))) is

pub returns-clause-links : goal.returns-clause-links
returns-clause-links c =
    let slots = c.args.self.now.slots in
    let rim = c.args.rim.now in
    let point = Point c.args.point in
    let one = c.link_by_hash-over_yz.ensures.links in
    let two = LinksStar-then slots _ _ rim point 0 0 c.requires.star (omega arith) one c.link_by_hash-over_xz.ensures.links in
    LinksStar-then slots _ _ rim point 0 0 c.requires.star (omega arith) two c.link_by_hash-over_xy.ensures.links
