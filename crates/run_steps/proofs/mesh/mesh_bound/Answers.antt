use Rattle.std.proofs.lemmas.Result.{err_from_is_err_and}
use Rattle.run_steps.proofs.mesh.mesh_bound.Goals as goal

pub returns-in_err-mesh-clause-answer : goal.returns-in_err-mesh-clause-answer
returns-in_err-mesh-clause-answer c =
    let p = err_from_is_err_and c.from_residual.result c.from_residual.ensures.1 in
    rw (p.1, p.2, c.if-options.true) c.in_err-mesh.ensures.refused
