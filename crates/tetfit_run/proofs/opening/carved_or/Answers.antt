use Rattle.std.proofs.Common.{sym, subst}
use Rattle.run_steps.specs.Meshing.{IsMeshableBound}
use Rattle.tetfit_run.proofs.Openings.{carved_told, left_meshable}
use Rattle.tetfit_run.proofs.opening.carved_or.Goals as goal

pub mesh_outputs-answer-requires : goal.mesh_outputs-answer-requires
mesh_outputs-answer-requires c =
    subst (IsMeshableBound c.args.options.now) (sym c.in_ok-left.ensures) (left_meshable c.args.options.now c.args.bound c.requires.meshable)

pub returns : goal.returns
returns c =
    carved_told c.args.options.now c.args.bound c.in_ok-left.left c.mesh_outputs-answer.result c.args.surface c.told_of.result c.in_ok-left.ensures c.mesh_outputs-answer.ensures c.requires.surface c.told_of.ensures
