use Rattle.std.proofs.Common.{sym, subst, length-drop, arith}
use Rattle.std.specs.Prelude.{length}
use Rattle.run_steps.specs.Outputs.{IsWritable}
use Rattle.run_steps.proofs.Meshables.{writable, begins, few_added}
use Rattle.run_steps.proofs.mesh.mesh_plc.Goals as goal

pub complex_meshed-requires-clause-begins : goal.complex_meshed-requires-clause-begins
complex_meshed-requires-clause-begins c = begins c.args.options.now c.args.bound c.in_ok-made.made c.in_ok-made.ensures

pub complex_meshed-requires-clause-few : goal.complex_meshed-requires-clause-few
complex_meshed-requires-clause-few c =
    let made = c.in_ok-made.made in
    let few = c.requires.few in
    omega (arith, few, few_added c.args.options.now c.args.bound made c.requires c.in_ok-made.ensures, length-drop (length c.args.bound.table.points) made.points)

pub returns-clause-meshed : goal.returns-clause-meshed
returns-clause-meshed c = (c.in_ok-made.made, c.in_ok-made.ensures, c.in_ok-mesh.ensures)

pub returns-clause-writable : goal.returns-clause-writable
returns-clause-writable c =
    subst IsWritable (sym c.in_ok-mesh.ensures) (writable c.args.options.now c.args.bound c.in_ok-made.made c.requires c.requires.budget c.in_ok-made.ensures)
