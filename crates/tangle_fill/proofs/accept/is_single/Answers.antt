use Rattle.std.proofs.Common.{◌<◌, length, arith}
use Rattle.std.proofs.lemmas.Grind.{common_steps}
use Rattle.tangle_fill.proofs.accept.is_single.Goals as goal

pub returns : goal.returns
returns c h =
    let l : 0 < length c.args.change.now.rows = grind (arith, common_steps, c.is_empty.ensures, c.if-is_empty.false) in
    (c.at.result, (0, l, c.at.ensures c.at.result), c.is_alone.ensures h)
