use Rattle.std.proofs.Common.{◌+◌, sym, subst, ◌∙◌}
use Rattle.cavity_insert.specs.Rows.{AreRowsBelow}
use Rattle.cavity_insert.proofs.SlotRows.{rows_pass, rows_more}
use Rattle.cavity_insert.proofs.rows.rows_at.Goals.{in-Some+in_ok-push, in_default}
use Rattle.cavity_insert.proofs.rows.rows_at.Goals as goal

pub loop-slot-preserved : goal.loop-slot-preserved
loop-slot-preserved c =
    let slots = c.args.arena.now.slots in
    let n = c.loop-slot.slot in
    let rows = c.loop-slot.rows in
    elim c.match-row_at.branch [
      | in-Some+in_ok-push w ↦ subst (λ rs. AreRowsBelow slots rs (n + 1)) (sym w.in_ok-push.ensures.ok ∙ sym w.rows-is) (rows_more slots rows n w.in-Some.row w.in-Some.ensures c.loop-slot.invariant)
      | in_default w ↦ subst (λ rs. AreRowsBelow slots rs (n + 1)) (sym w.rows-is) (rows_pass slots rows n w.in_default.ensures c.loop-slot.invariant)
    ]
