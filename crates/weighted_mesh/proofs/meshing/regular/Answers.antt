use Rattle.geo_laws.specs.Delaunay.{all_numbers}
use Rattle.weighted_mesh.specs.Regular.{weighted_lift}
use Rattle.mesh_laws.specs.LowestLiving.{IsLowestMesh}
use Rattle.weighted_mesh.proofs.Rows.{regular_list, rows_on_points}
use Rattle.weighted_mesh.proofs.meshing.regular.Goals as goal

pub returns-clause-list : goal.returns-clause-list
returns-clause-list c =
    let ps = c.args.points.now in
    let ws = c.args.weights.now in
    let mesh : IsLowestMesh (weighted_lift ps ws) c.in_ok-arena.arena.slots ps (all_numbers ps) = rw c.new-sites.ensures at c.in_ok-arena.ensures.mesh in
    regular_list _ ps ws _ mesh c.in_ok-sorted_rows.ensures

pub returns-clause-numbers : goal.returns-clause-numbers
returns-clause-numbers c = rows_on_points c.args.points.now c.args.weights.now _ (returns-clause-list c)
