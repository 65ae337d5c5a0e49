use Rattle.geo_laws.specs.Delaunay.{all_numbers}
use Rattle.geo_laws.proofs.DelaunayList.{delaunay_list_is}
use Rattle.cavity_insert.specs.RowKeys.{rows_in}
use Rattle.cavity_insert.proofs.SlotRows.{list_of_rows}
use Rattle.cavity_insert.proofs.hull.delaunay_with_hull.Goals as goal

pub returns-clause-list : goal.returns-clause-list
returns-clause-list c =
    let ps = c.args.points.now in
    let slots = c.in_ok-arena.field-0.arena.slots in
    list_of_rows slots ps (all_numbers ps) c.in_ok-arena.ensures.mesh (rows_in c.in_ok-found.found) _ c.in_ok-found.ensures c.in_ok-rows.ensures

pub returns-clause-rows : goal.returns-clause-rows
returns-clause-rows c = delaunay_list_is c.args.points.now _ (returns-clause-list c)

pub returns-clause-hull : goal.returns-clause-hull
returns-clause-hull c = c.in_ok-hull.ensures _ (returns-clause-list c)
