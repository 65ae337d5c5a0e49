use Rattle.std.proofs.Common.{ℕ, List}
use Rattle.sign_predicates.specs.Point.{Point}
use Rattle.geo_laws.specs.Delaunay.{IsDelaunayListAmong}
use Rattle.geo_laws.specs.declared.tetrahedra.Tet.{Tet as Row}
use Rattle.mesh_laws.specs.Living.{IsDelaunayMesh}
use Rattle.cavity_insert.specs.Rows.{IsListOf}
use Rattle.cavity_insert.specs.RowKeys.{rows_in}
use Rattle.cavity_insert.proofs.Insertion.{if_ok}
use Rattle.cavity_insert.proofs.SlotRows.{list_of_rows}
use Rattle.cavity_insert.proofs.rows.rows_of.Goals as goal

pub returns : goal.returns
returns c =
    let slots = c.args.arena.now.slots in
    let found = c.in_ok-slot_rows.field-0 in
    let Q : List Row → Type 0 = λ rows. (ps : List Point) (ms : List ℕ) → IsDelaunayMesh slots ps ms → IsDelaunayListAmong ps ms rows in
    if_ok (IsListOf (rows_in found)) Q (λ rows listed ps ms mesh. list_of_rows slots ps ms mesh (rows_in found) rows c.in_ok-slot_rows.ensures listed) c.into_list.result c.into_list.ensures
