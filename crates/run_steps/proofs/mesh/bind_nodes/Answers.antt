use Rattle.std.proofs.Common.{◌≡◌, ◌≤◌, ◌^◌, Ok, length, subst, sym, arith}
use Rattle.node_files.specs.Settling.{IsSettled}
use Rattle.plc_files.specs.Checks.{corners_check}
use Rattle.run_steps.proofs.Meshables.{as_many, meshable_bound}
use Rattle.run_steps.proofs.mesh.bind_nodes.Goals as goal

pub bind_on-requires-clause-corners : goal.bind_on-requires-clause-corners
bind_on-requires-clause-corners c =
    subst (λ n. corners_check c.args.nodes.first n c.args.complex.now ≡ Ok tt) (sym (as_many c.args.limits c.args.nodes c.grid_options.result c.in-Ok.table c.in-Ok.ensures.outcome)) c.requires.input.corners

pub bind_on-requires-clause-table : goal.bind_on-requires-clause-table
bind_on-requires-clause-table c = c.in-Ok.ensures.table c.requires.input.nodes

pub returns-in_ok-complex-in-Ok-clause-meshable : goal.returns-in_ok-complex-in-Ok-clause-meshable
returns-in_ok-complex-in-Ok-clause-meshable c =
    let few : length c.in-Ok.table.listed ≤ 2 ^ 31 = omega (arith, c.in-Ok.ensures.few, c.requires.limits.points) in
    meshable_bound c.args.limits c.args.options.now c.args.nodes c.in-Ok.table c.in_ok-complex-in-Ok.complex c.requires.ranges
    (subst (λ o. IsSettled c.args.limits c.args.nodes o c.in-Ok.table) c.grid_options.ensures c.in-Ok.ensures.outcome) (c.in-Ok.ensures.table c.requires.input.nodes)
    few c.in_ok-complex-in-Ok.ensures.corners c.in_ok-complex-in-Ok.ensures.weights
