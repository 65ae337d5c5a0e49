use Rattle.std.proofs.Common.{◌+◌, List, ℕ, map, sym, subst, ◌∙◌}
use Rattle.cavity_insert.specs.Rows.{AreRowsBelow}
use Rattle.cavity_insert.specs.RowKeys.{row_of_key}
use Rattle.cavity_insert.proofs.SlotRows.{rows_pass}
use Rattle.cavity_insert.proofs.RowKeys.{keys_more}
use Rattle.cavity_insert.proofs.rows.keys_at.Goals.{in-Some+in-Some-key_of+in_ok-push, in_default}
use Rattle.cavity_insert.proofs.rows.keys_at.Goals as goal

pub loop-i-preserved : goal.loop-i-preserved
loop-i-preserved c =
    let slots = c.args.arena.now.slots in
    let n = c.loop-i.i in
    let keys = c.loop-i.keys in
    elim c.match-row_at.branch [
      | in-Some+in-Some-key_of+in_ok-push w ↦
          subst (λ (ks : List ℕ). AreRowsBelow slots (map row_of_key ks) (n + 1)) (sym w.in_ok-push.ensures.ok ∙ sym w.keys-is)
          (keys_more slots keys n w.in-Some-key_of.key w.in-Some.row w.in-Some-key_of.ensures w.in-Some.ensures c.loop-i.invariant)
      | in_default w ↦ subst (λ (ks : List ℕ). AreRowsBelow slots (map row_of_key ks) (n + 1)) (sym w.keys-is) (rows_pass slots (map row_of_key keys) n w.in_default.ensures c.loop-i.invariant)
    ]
