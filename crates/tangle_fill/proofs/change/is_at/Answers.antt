use Rattle.std.proofs.Common.{◌<◌, length, sym, ◌∙◌, arith}
use Rattle.tangle_fill.proofs.Candidates.{same_rows}
use Rattle.tangle_fill.proofs.change.is_at.Goals as goal

pub returns : goal.returns
returns c h =
    let l : c.args.place < length c.args.list.now = omega arith in
    (c.args.place, l, c.at.ensures c.args.row ∙ same_rows c.at.result c.args.row (sym c.eq.ensures ∙ h))
