use Rattle.std.proofs.Common.{length, ap, arith}
use Rattle.segment_protect.proofs.Watching.{pieces_seen, all_seen}
use Rattle.segment_protect.proofs.first_look.see_piece.Goals as goal

pub returns-clause-pieces : goal.returns-clause-pieces
returns-clause-pieces c = pieces_seen c.args.watched.now.items c.args.k c.len-now.result c.index-w.result.now c.index-w.ensures

pub returns-clause-seen : goal.returns-clause-seen
returns-clause-seen c =
    let w = c.index-w.result.now in
    let e = c.has_ends.ensures in
    let count = ap length c.points.ensures in
    all_seen c.args.living.now.points c.args.watched.now.items c.args.k c.len-now.result w (omega arith)
    (c.requires.row w.piece.a w.piece.b (e.differ c.if-not-has_ends.false) (e.first c.if-not-has_ends.false) (e.second c.if-not-has_ends.false)) c.requires.seen
