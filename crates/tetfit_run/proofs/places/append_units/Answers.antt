use Rattle.std.proofs.Common.{arith}
use Rattle.tet_text.proofs.Scaling.{lowest_le}
use Rattle.tetfit_run.proofs.places.append_units.Goals as goal

pub print_scaled-requires : goal.print_scaled-requires
print_scaled-requires c =
    let le = lowest_le c.from.result c.from-2.result in
    rw c.lowest-size.ensures.value (omega arith)
