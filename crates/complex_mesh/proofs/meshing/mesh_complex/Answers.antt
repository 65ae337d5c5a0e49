use Rattle.std.proofs.lemmas.Result.{err_from_is_err_and}
use Rattle.merged_facets.specs.Merging.{group_of, is_inner}
use Rattle.complex_mesh.proofs.Causes.{not_flat_cause}
use Rattle.complex_mesh.proofs.Meshed.{merged_corners, least_first}
use Rattle.complex_mesh.proofs.meshing.mesh_complex.Goals as goal

pub returns-in_err-check_flat : goal.returns-in_err-check_flat
returns-in_err-check_flat c =
    let p = err_from_is_err_and c.from_residual.result c.from_residual.ensures.1 in
    rw (p.1, p.2) (not_flat_cause c.args.options.now c.args.points c.args.complex.now _ c.requires.corners c.in_err-check_flat.ensures.not_flat)

pub merged_complex-requires : goal.merged_complex-requires
merged_complex-requires c = least_first c.args.points c.args.complex.now (group_of c.in_ok-merging.merging) (is_inner c.in_ok-merging.merging) c.in_ok-merging.ensures

pub mesh_facets-requires-2-clause-corners : goal.mesh_facets-requires-2-clause-corners
mesh_facets-requires-2-clause-corners c = merged_corners c.args.points (group_of c.in_ok-merging.merging) c.args.complex.now c.in_ok-merged.merged c.requires.corners c.in_ok-merged.ensures
