use Rattle.std.proofs.Common.{◌≡◌, ap, sym, subst}
use Rattle.segment_protect.specs.Protection.{IsProtectable}
use Rattle.segment_protect.specs.Watch.{pieces_of}
use Rattle.segment_protect.proofs.Start.{protectable_start}
use Rattle.segment_protect.proofs.protection.split_pieces.Goals as goal

pub split_missing-requires-clause-front : goal.split_missing-requires-clause-front
split_missing-requires-clause-front c =
    let front = c.in_ok-front.front in
    let ps = c.args.living.points in
    let points : front.living.points ≡ ps = ap (λ l. l.points) c.in_ok-front.ensures.living in
    let can = protectable_start ps (pieces_of c.args.watched.items) c.args.depth c.requires.start c.requires.met in
    record {
      can = subst (λ q. IsProtectable front.living.points c.args.depth q) (sym c.in_ok-front.ensures.pieces) (subst (λ q. IsProtectable q c.args.depth (pieces_of c.args.watched.items)) (sym points) can);
      watching = c.in_ok-front.ensures.watching;
      sides = c.in_ok-front.ensures.sides;
    }
