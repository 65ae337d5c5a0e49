use Rattle.std.proofs.Common.{◌<◌, length, arith}
use Rattle.tangle_fill.proofs.Marking.{rows_marked, marks_more}
use Rattle.tangle_fill.proofs.change.mark_rows.Goals as goal

pub loop-i-preserved : goal.loop-i-preserved
loop-i-preserved c =
    let rows = c.args.rows.now in
    let before = c.loop-i.invariant in
    let marked = c.in_ok-mark_row.ensures in
    let within : c.loop-i.i < length rows = omega arith in (
      rows_marked rows c.at.result c.loop-i.i _ _ c.at.ensures marked.kept marked.marked before.0,
      λ i h. marked.kept i (before.1 i h),
      marks_more rows c.at.result _ _ _ (c.loop-i.i, within, c.at.ensures c.at.result) before.2 marked.only,
    )
