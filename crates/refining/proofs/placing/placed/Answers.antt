use Rattle.std.proofs.Common.{subst, sym}
use Rattle.run_steps.specs.Outputs.{IsWritable}
use Rattle.refining.proofs.PointsBehind.{begins_with, few_with, writable_with}
use Rattle.refining.proofs.placing.placed.Goals as goal

pub complex_meshed-requires-clause-begins : goal.complex_meshed-requires-clause-begins
complex_meshed-requires-clause-begins c =
    let m = c.requires.made in
    begins_with c.args._options.now c.args.bound m.0 m.1 c.args.made c.requires.bound m.2

pub complex_meshed-requires-clause-few : goal.complex_meshed-requires-clause-few
complex_meshed-requires-clause-few c =
    let m = c.requires.made in
    few_with c.args._options.now c.args.bound m.0 m.1 c.args.made c.requires.bound m.2

pub returns-clause-writable : goal.returns-clause-writable
returns-clause-writable c =
    let m = c.requires.made in
    subst IsWritable (sym c.in_ok-mesh.ensures) (writable_with c.args._options.now c.args.bound m.0 m.1 c.args.made c.requires.bound m.2)
