use Rattle.std.proofs.Common.{length, ap, subst, sym, arith}
use Rattle.segment_protect.specs.Watch.{IsWatched}
use Rattle.segment_protect.specs.Passed.{AreLinked}
use Rattle.segment_protect.proofs.Watching.{pieces_seen, watched_seen}
use Rattle.segment_protect.proofs.passed.Passed.is_side_at.Goals as goal

pub returns-clause-passed : goal.returns-clause-passed
returns-clause-passed c =
    let ps = c.args.living.now.points in
    let old = c.args.self.now in
    let k = c.args.k in
    let w = c.index-w.result.now in
    let count = ap length c.points.ensures in
    let is = subst (IsWatched ps c.args.touched.now) (sym c.index-w.ensures) (c.requires.passed.watched k w c.requires.there) in
    record {
      linked = subst (λ qs. AreLinked (length ps) qs old.earlier.items old.latest.items) (sym (pieces_seen old.watched.items k c.len.result w c.index-w.ensures)) c.requires.passed.linked;
      watched = watched_seen ps c.args.touched.now old.watched.items k c.len.result w is (omega arith) (c.is_side.ensures.0 c.if-not-is_side.false) c.requires.passed.watched;
    }

pub returns-clause-pieces : goal.returns-clause-pieces
returns-clause-pieces c = pieces_seen c.args.self.now.watched.items c.args.k c.len.result c.index-w.result.now c.index-w.ensures
