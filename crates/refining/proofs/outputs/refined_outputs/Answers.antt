use Rattle.refining.proofs.Rounds.{outputs_made, refined_near, refined_on, refused_made}
use Rattle.refining.proofs.outputs.refined_outputs.Goals as goal

pub counted_outputs-requires-clause-on : goal.counted_outputs-requires-clause-on
counted_outputs-requires-clause-on g c =
    refined_on c.args.options.now c.args.bound c.in-Ok.refined c.in-Ok.ensures.refined.behind

pub counted_outputs-requires-clause-near : goal.counted_outputs-requires-clause-near
counted_outputs-requires-clause-near g c =
    refined_near c.args.options.now c.args.bound c.in-Ok.refined c.requires.bound c.in-Ok.ensures.refined.behind

pub returns-in-Ok-clause-made : goal.returns-in-Ok-clause-made
returns-in-Ok-clause-made g c =
    outputs_made c.args.bounds.now.shapes.now c.args.options.now c.args.bound c.args.bounds.now c.in-Ok.refined c.counted_outputs.result c.requires.complex c.in-Ok.ensures.refined c.counted_outputs.ensures

pub returns-in-Err-clause-made : goal.returns-in-Err-clause-made
returns-in-Err-clause-made g c =
    refused_made c.args.bounds.now.shapes.now c.args.options.now c.args.bound c.in-Err.fault c.from.result c.requires.complex c.in-Err.ensures.refused c.from.ensures
