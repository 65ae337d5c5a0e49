use Rattle.tangle_fill.proofs.Marking.{marks_row}
use Rattle.tangle_fill.proofs.change.mark_row.Goals as goal

pub returns-clause-marked : goal.returns-clause-marked
returns-clause-marked c =
    let b = c.in_ok-mark-2.ensures.kept in
    let p = c.in_ok-mark-3.ensures.kept in
    let q = c.in_ok-mark-4.ensures.kept in
    record {
      a = q _ (p _ (b _ c.in_ok-mark.ensures.marked));
      b = q _ (p _ c.in_ok-mark-2.ensures.marked);
      c = q _ c.in_ok-mark-3.ensures.marked;
      d = c.in_ok-mark-4.ensures.marked;
    }

pub returns-clause-only : goal.returns-clause-only
returns-clause-only c = marks_row c.args.row _ _ _ _ _ c.in_ok-mark.ensures.only c.in_ok-mark-2.ensures.only c.in_ok-mark-3.ensures.only c.in_ok-mark-4.ensures.only
