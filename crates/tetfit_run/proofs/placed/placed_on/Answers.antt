use Rattle.run_steps.specs.Meshing.{mesh_options}
use Rattle.tetfit_run.proofs.Placements.{memory_alone}
use Rattle.tetfit_run.proofs.placed.placed_on.Goals as goal

pub lack_of_memory-requires : goal.lack_of_memory-requires
lack_of_memory-requires c =
    let bound = c.args.bound.now in
    memory_alone (mesh_options c.args.options.now bound.table) bound.table.points bound.complex c.in-Err.fault c.requires.crossing c.in-Err.ensures
