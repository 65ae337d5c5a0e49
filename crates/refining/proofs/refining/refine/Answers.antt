use Rattle.std.proofs.Common.{refl}
use Rattle.std.proofs.lemmas.Result.{err_from_is_err_and}
use Rattle.complex_mesh.specs.declared.fault.MeshFault.TheVariants as mesh_faults
use Rattle.refining.proofs.Rounds.{refined_to}
use Rattle.refining.proofs.refining.refine.Goals as goal

pub returns-in_err-refined-clause-refused : goal.returns-in_err-refined-clause-refused
returns-in_err-refined-clause-refused g c =
    let p = err_from_is_err_and c.from_residual-in_err-refined.result c.from_residual-in_err-refined.ensures.1 in
    rw (p.1, p.2) (mesh_faults.NoMemory, refl, tt)

pub returns-clause-refined : goal.returns-clause-refined
returns-clause-refined g c =
    refined_to c.args.options.now c.args.bound c.args.bounds.now c.in_ok-made.made c.in_ok-refined.refined c.in_ok-last.last.rounds
    c.in_ok-made.ensures.made c.in_ok-refined.ensures.behind c.in_ok-refined.ensures.rounds c.in_ok-last.ensures.rounds
