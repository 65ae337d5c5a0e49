use Rattle.run_steps.specs.Meshing.{MeshAnswer, OutputsAnswer}
use Rattle.run_steps.proofs.Steps.{and_then_ok}
use Rattle.run_steps.proofs.mesh.mesh_outputs.Goals as goal

pub returns : goal.returns
returns c =
    let options = c.args.options.now in
    and_then_ok (MeshAnswer options c.args.bound) (OutputsAnswer options) c.in_ok-made.made.mesh c.write_out.result c.in_ok-made.ensures.answer c.write_out.ensures
