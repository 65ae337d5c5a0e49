use Rattle.std.proofs.Common.{◌≡◌, ℕ, List, subst}
use Rattle.sign_predicates.specs.Point.{Point}
use Rattle.geo_laws.specs.Delaunay.{all_numbers, delaunay_rows, IsDelaunayList, IsDelaunayListAmong}
use Rattle.geo_laws.specs.declared.tetrahedra.Tet.{Tet as Row}
use Rattle.geo_laws.proofs.DelaunayList.{delaunay_list_is}
use Rattle.mesh_laws.specs.Living.{IsDelaunayMesh}
use Rattle.cavity_insert.specs.Living.{LivingMesh}
use Rattle.cavity_insert.proofs.Insertion.{if_ok}
use Rattle.cavity_insert.proofs.living.Living.list.Goals as goal

pub returns-clause-list : goal.returns-clause-list
returns-clause-list c =
    let P : List Row → Type 0 = λ rows. (ps : List Point) (ms : List ℕ) → IsDelaunayMesh c.self.inside.arena.slots ps ms → IsDelaunayListAmong ps ms rows in
    let Q : List Row → Type 0 = λ rows. IsDelaunayList c.args.self.now.points rows in
    if_ok P Q (λ rows are. subst (λ (v : LivingMesh). IsDelaunayList v.points rows) c.self.view_is (are c.self.inside.points (all_numbers c.self.inside.points) c.self.invariant.mesh))
    c.rows_of.result c.rows_of.ensures

pub returns-clause-rows : goal.returns-clause-rows
returns-clause-rows c =
    let P : List Row → Type 0 = λ rows. IsDelaunayList c.args.self.now.points rows in
    let Q : List Row → Type 0 = λ rows. rows ≡ delaunay_rows c.args.self.now.points in
    if_ok P Q (λ rows are. delaunay_list_is c.args.self.now.points rows are) c.rows_of.result (returns-clause-list c)
