use Rattle.std.proofs.lemmas.Result.{err_from_is_err_and}
use Rattle.merged_facets.specs.Merging.{group_of, is_inner}
use Rattle.complex_mesh.proofs.Causes.{not_flat_cause}
use Rattle.complex_mesh.proofs.Meshed.{least_first}
use Rattle.complex_mesh.proofs.meshing.protected_points.Goals as goal

pub returns-in_err-check_flat : goal.returns-in_err-check_flat
returns-in_err-check_flat c =
    let p = err_from_is_err_and c.from_residual.result c.from_residual.ensures.1 in
    rw (p.1, p.2) (not_flat_cause c.args.options.now c.args.points c.args.complex.now _ c.requires.corners c.in_err-check_flat.ensures.not_flat)

pub merged_complex-requires : goal.merged_complex-requires
merged_complex-requires c = least_first c.args.points c.args.complex.now (group_of c.in_ok-merging.merging) (is_inner c.in_ok-merging.merging) c.in_ok-merging.ensures
