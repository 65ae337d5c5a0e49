use Rattle.std.proofs.Common.{◌∙◌, arith}
use Rattle.mesh_arena.specs.declared.slot.Corner.TheVariants.{Point}
use Rattle.mesh_arena.specs.Edges.{edge_of}
use Rattle.mesh_arena.proofs.EdgeEnds.{edge_of-numbers}
use Rattle.mesh_arena.proofs.Pairs.{LinksStar-then}
use Rattle.mesh_arena.proofs.StarEdges.{turned, opposite, first_last, StandsOver-along, IsOverEdge-face}
use Rattle.mesh_arena.proofs.arena.Arena.link_slot.Goals as goal

pub link_at_edge-over_yz-requires-clause-over : goal.link_at_edge-over_yz-requires-clause-over
link_at_edge-over_yz-requires-clause-over c =
    let e = edge_of c.end-y.result.number c.end-z.result.number in
    let is = edge_of-numbers _ _ _ _ (c.end-y.ensures.number ∙ c.number-2.ensures) (c.end-z.ensures.number ∙ c.number-3.ensures) in
    IsOverEdge-face _ c.args.rim.now (Point c.args.point) c.requires.star c.args.r c.args.one.now _ _ _ e c.requires.inside c.requires.over
    (opposite _ _ _ _ c.other_places-i.ensures) is

pub link_at_edge-over_zx-requires-clause-over : goal.link_at_edge-over_zx-requires-clause-over
link_at_edge-over_zx-requires-clause-over c =
    let slots = c.args.self.now.slots in
    let point = Point c.args.point in
    let one = c.link_at_edge-over_yz.ensures.links in
    let over = StandsOver-along slots _ c.args.rim.now point 0 c.requires.star one c.args.r c.args.one.now c.requires.inside c.requires.over in
    let e = edge_of c.end-z.result.number c.end-x.result.number in
    let is = edge_of-numbers _ _ _ _ (c.end-z.ensures.number ∙ c.number-3.ensures) (c.end-x.ensures.number ∙ c.number.ensures) in
    IsOverEdge-face _ c.args.rim.now point one.star c.args.r c.args.one.now _ _ _ e c.requires.inside over
    (turned _ _ _ _ (opposite _ _ _ _ (first_last _ _ _ _ c.other_places-i.ensures))) is

pub link_at_edge-over_xy-requires-clause-over : goal.link_at_edge-over_xy-requires-clause-over
link_at_edge-over_xy-requires-clause-over c =
    let slots = c.args.self.now.slots in
    let rim = c.args.rim.now in
    let point = Point c.args.point in
    let one = c.link_at_edge-over_yz.ensures.links in
    let two = LinksStar-then slots _ _ rim point 0 0 c.requires.star (omega arith) one c.link_at_edge-over_zx.ensures.links in
    let over = StandsOver-along slots _ rim point 0 c.requires.star two c.args.r c.args.one.now c.requires.inside c.requires.over in
    let e = edge_of c.end-x.result.number c.end-y.result.number in
    let is = edge_of-numbers _ _ _ _ (c.end-x.ensures.number ∙ c.number.ensures) (c.end-y.ensures.number ∙ c.number-2.ensures) in
    IsOverEdge-face _ rim point two.star c.args.r c.args.one.now _ _ _ e c.requires.inside over
    (opposite _ _ _ _ (first_last _ _ _ _ (turned _ _ _ _ c.other_places-i.ensures))) is

pub link_at_edge-over_yz-requires-clause-met : goal.link_at_edge-over_yz-requires-clause-met
link_at_edge-over_yz-requires-clause-met c e s met = c.requires.met e s (c.end-x.ensures.met e s (c.end-y.ensures.met e s (c.end-z.ensures.met e s met)))

pub returns-clause-links : goal.returns-clause-links
returns-clause-links c =
    let slots = c.args.self.now.slots in
    let rim = c.args.rim.now in
    let point = Point c.args.point in
    let one = c.link_at_edge-over_yz.ensures.links in
    let two = LinksStar-then slots _ _ rim point 0 0 c.requires.star (omega arith) one c.link_at_edge-over_zx.ensures.links in
    LinksStar-then slots _ _ rim point 0 0 c.requires.star (omega arith) two c.link_at_edge-over_xy.ensures.links

pub link_slot_by_hash-requires-then-x-ge-ROWS-clause-met : goal.link_slot_by_hash-requires-then-x-ge-ROWS-clause-met
link_slot_by_hash-requires-then-x-ge-ROWS-clause-met c e s met = c.requires.met e s (c.end-x.ensures.met e s (c.end-y.ensures.met e s (c.end-z.ensures.met e s met)))
