use Rattle.std.proofs.Common.{sym, subst, map}
use Rattle.geo_laws.proofs.RowOrder.{row_before}
use Rattle.cavity_insert.specs.Rows.{IsListOf}
use Rattle.cavity_insert.specs.RowKeys.{row_of_key}
use Rattle.cavity_insert.proofs.RowKeys.{list_of_keys}
use Rattle.cavity_insert.proofs.rows.SlotRows.into_list.Goals as goal

pub returns-in_ok-rows-in-Keys : goal.returns-in_ok-rows-in-Keys
returns-in_ok-rows-in-Keys c =
    let keys = c.in-Keys.keys in
    let kept = c.keep_distinct.new.self in
    rw c.in-Keys.is
    (subst (IsListOf (map row_of_key keys)) (sym c.in_ok-rows-in-Keys.ensures) (list_of_keys keys kept c.keep_distinct.ensures.exactly c.keep_distinct.ensures.ascending))

pub returns-in-Rows : goal.returns-in-Rows
returns-in-Rows c =
    let listed : IsListOf c.in-Rows.rows c.keep_distinct-in-Rows.new.self = record {
      exactly = c.keep_distinct-in-Rows.ensures.exactly;
      ascending = λ i j d h k. row_before _ _ (c.keep_distinct-in-Rows.ensures.ascending i j d h k);
    } in
    rw c.in-Rows.is listed
